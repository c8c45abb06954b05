-- Open parties that have the same owners.
use Rattle.std.proofs.Common.{◌≡◌, ◌∙◌, ℕ, List, [], ◌∷◌, length, refl, subst, arith}
use Rattle.std.specs.List.{Contains}
use Rattle.std.proofs.lemmas.List.Elements.{Contains-append_right}
use Rattle.x_disk.specs.Shelf.{SlotsStay}
use Rattle.open_parties.specs.Closing.{AllSlots, AreApart}
use Rattle.open_parties.specs.OpenParties.{owners, NoneOf}
use Rattle.open_parties.specs.declared.open_party.OpenParty.{OpenParty}

module _ {D : Type 0} where
  pub none_alike : (a b : List (OpenParty D)) (own : List ℕ) → owners a ≡ owners b → NoneOf a own → NoneOf b own
  none_alike [] [] own is none = tt
  none_alike [] (t ∷ b) own is none = absurd (cc is)
  none_alike (s ∷ a) [] own is none = absurd (cc is)
  none_alike (s ∷ a) (t ∷ b) own is none =
      let first : s.own ≡ t.own = cc is in
      let rest : owners a ≡ owners b = cc is in
      (λ same. none.0 (first ∙ same), none_alike a b own rest none.1)

  pub apart_alike : (a b : List (OpenParty D)) → owners a ≡ owners b → AreApart a → AreApart b
  apart_alike [] [] is apart = tt
  apart_alike [] (t ∷ b) is apart = absurd (cc is)
  apart_alike (s ∷ a) [] is apart = absurd (cc is)
  apart_alike (s ∷ a) (t ∷ b) is apart =
      let first : s.own ≡ t.own = cc is in
      let rest : owners a ≡ owners b = cc is in
      (subst (NoneOf b) first (none_alike a b s.own rest apart.0), apart_alike a b rest apart.1)

  pub none_absent : (open_parties : List (OpenParty D)) (own : List ℕ) → (Contains (owners open_parties) own → ⊥) → NoneOf open_parties own
  none_absent [] own absent = tt
  none_absent (s ∷ open_parties) own absent = (λ same. absent (0, omega arith, same), none_absent open_parties own (λ is. absent (Contains-append_right (s.own ∷ []) (owners open_parties) own is)))

  pub count_owners : (open_parties : List (OpenParty D)) → length (owners open_parties) ≡ length open_parties
  count_owners [] = refl
  count_owners (s ∷ open_parties) = omega (arith, count_owners open_parties)

pub slots_stay : (old new : List ℕ → Type 0) (owns : List (List ℕ)) → SlotsStay old new → AllSlots old owns → AllSlots new owns
slots_stay old new [] stay all = tt
slots_stay old new (own ∷ owns) stay all = (stay own all.0, slots_stay old new owns stay all.1)
