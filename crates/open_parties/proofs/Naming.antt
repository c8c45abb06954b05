-- The identities of parties, as a table of names has them.
use Rattle.std.proofs.Common.{◌≡◌, ℕ, zero, suc, ◌-◌, false, List, [], ◌∷◌, ◌++◌, take, bytes_eq, refl, sym, ◌∙◌, ap}
use Rattle.std.specs.List.{list_any}
use Rattle.indexmap.specs.IndexSet.{insert_key}
use Rattle.open_parties.specs.OpenParties.{open_party, owners, NoneOf}
use Rattle.open_parties.specs.declared.open_party.OpenParty.{OpenParty}
use Rattle.open_parties.specs.declared.open_party.PartyDisk.TheVariants.{Away}
use Rattle.open_parties.proofs.Members.{cond_not, same_not}

module _ {D : Type 0} where
  owners_append : (a b : List (OpenParty D)) → owners (a ++ b) ≡ owners a ++ owners b
  owners_append [] b = refl
  owners_append (s ∷ a) b = ap (λ (l : List (List ℕ)). s.own ∷ l) (owners_append a b)

  never_named : (open_parties : List (OpenParty D)) (own : List ℕ) → NoneOf open_parties own → list_any (bytes_eq own) (owners open_parties) ≡ false
  never_named [] own none = refl
  never_named (s ∷ open_parties) own none = rw (same_not own s.own (λ same. none.0 (sym same)), never_named open_parties own none.1) refl

  -- one name more
  pub names_added : (was : List (OpenParty D)) (names after : List (List ℕ)) (own : List ℕ) → NoneOf was own → names ≡ owners was → after ≡ insert_key bytes_eq names own → after ≡ owners (was ++ open_party own Away ∷ [])
  names_added was names after own none named more =
      more ∙ (ap (λ (os : List (List ℕ)). insert_key bytes_eq os own) named
      ∙ (cond_not (list_any (bytes_eq own) (owners was)) (owners was) (owners was ++ own ∷ []) (never_named was own none) ∙ sym (owners_append was (open_party own Away ∷ []))))

  owners_take : (n : ℕ) (open_parties : List (OpenParty D)) → owners (take n open_parties) ≡ take n (owners open_parties)
  owners_take zero open_parties = refl
  owners_take (suc n) [] = refl
  owners_take (suc n) (s ∷ open_parties) = ap (λ (l : List (List ℕ)). s.own ∷ l) (owners_take n open_parties)

  -- the last name is dropped
  pub names_dropped : (was now : List (OpenParty D)) (names : List (List ℕ)) (count long : ℕ) → names ≡ owners was → now ≡ take (long - 1) was → count ≡ long - 1 → take count names ≡ owners now
  names_dropped was now names count long named is size = ap (λ (n : ℕ). take n names) size ∙ (ap (λ (os : List (List ℕ)). take (long - 1) os) named ∙ (sym (owners_take (long - 1) was) ∙ sym (ap owners is)))
