-- Open parties: taking out and putting in.
use Rattle.std.proofs.Common.{◌≡◌, ◌⊎◌, inl, inr, ℕ, zero, suc, ◌+◌, ◌<◌, List, [], ◌∷◌, ◌++◌, length, get_or, set, take, drop, refl, sym, ◌∙◌, ap, subst, arith, take-append-drop}
use Rattle.std.proofs.lemmas.List.{set_at, get_or_at, drop_more, length-take-le}
use Rattle.key_store.specs.Store.{Stored}
use Rattle.open_parties.specs.OpenParties.{open_party, Fills, IsOpen, AreOpen, IsTakenOut, owners}
use Rattle.open_parties.specs.declared.open_party.OpenParty.{OpenParty}
use Rattle.open_parties.specs.declared.open_party.PartyDisk.{PartyDisk}
use Rattle.open_parties.specs.declared.open_party.PartyDisk.TheVariants.{Open, Closed, Away}

module _ {D : Type 0} where
  pub parted : (open_parties : List (OpenParty D)) (place : ℕ) (s : OpenParty D) → place < length open_parties → s ≡ get_or open_parties place s → open_parties ≡ take place open_parties ++ s ∷ drop (place + 1) open_parties
  parted open_parties place s lt read = sym (take-append-drop place open_parties) ∙ ap (λ (l : List (OpenParty D)). take place open_parties ++ l) (drop_more open_parties place s lt ∙ ap (λ (x : OpenParty D). x ∷ drop (place + 1) open_parties) (sym read))

  in_at : (front : List (OpenParty D)) (s : OpenParty D) (back : List (OpenParty D)) → AreOpen (front ++ s ∷ back) → IsOpen s.held
  in_at [] s back all = all.0
  in_at (f ∷ front) s back all = in_at front s back all.1

  pub is_in : (open_parties : List (OpenParty D)) (place : ℕ) (s : OpenParty D) → place < length open_parties → s ≡ get_or open_parties place s → AreOpen open_parties → IsOpen s.held
  is_in open_parties place s lt read all = in_at (take place open_parties) s (drop (place + 1) open_parties) (subst AreOpen (parted open_parties place s lt read) all)

  pub not_open : (held : PartyDisk D) → ((disk : D) × (held ≡ Closed disk)) ⊎ (held ≡ Away) → IsOpen held → ⊥
  not_open held (inl loose) is = subst IsOpen loose.1 is
  not_open held (inr out) is = subst IsOpen out is

  pub takes_out : (open_parties : List (OpenParty D)) (place : ℕ) (s : OpenParty D) (held : PartyDisk D) (node : Stored D) → place < length open_parties → s ≡ get_or open_parties place s → s.held ≡ Open node → held ≡ Away
      → IsTakenOut open_parties (set open_parties place (open_party s.own held)) place node
  takes_out open_parties place s held node lt read opened out = record {
    front = take place open_parties;
    own = s.own;
    back = drop (place + 1) open_parties;
    before = parted open_parties place s lt read ∙ ap (λ (h : PartyDisk D). take place open_parties ++ open_party s.own h ∷ drop (place + 1) open_parties) opened;
    after = ap (λ (l : List (OpenParty D)). set l place (open_party s.own held)) (parted open_parties place s lt read)
        ∙ (set_at (take place open_parties) s (drop (place + 1) open_parties) (open_party s.own held) place size ∙ ap (λ (h : PartyDisk D). take place open_parties ++ open_party s.own h ∷ drop (place + 1) open_parties) out);
    size = size;
  }
    where
      size : length (take place open_parties) ≡ place
      size = length-take-le place open_parties (omega (arith, lt))

  pub owners_set : (open_parties : List (OpenParty D)) (place : ℕ) (r : OpenParty D) (held : PartyDisk D) → r ≡ get_or open_parties place r → owners (set open_parties place (open_party r.own held)) ≡ owners open_parties
  owners_set [] place r held read = refl
  owners_set (s ∷ open_parties) zero r held read = ap (λ (x : OpenParty D). x.own ∷ owners open_parties) read
  owners_set (s ∷ open_parties) (suc place) r held read = ap (λ (l : List (List ℕ)). s.own ∷ l) (owners_set open_parties place r held read)

  pub fills : (open_parties : List (OpenParty D)) (place : ℕ) (r : OpenParty D) (held : PartyDisk D) → r ≡ get_or open_parties place r → Fills open_parties (set open_parties place (open_party r.own held)) place held
  fills open_parties place r held read = λ front own back is size.
      let same : r ≡ open_party own Away = read ∙ (ap (λ (l : List (OpenParty D)). get_or l place r) is ∙ get_or_at front (open_party own Away) back r place size) in
      ap (λ (l : List (OpenParty D)). set l place (open_party r.own held)) is
      ∙ (set_at front (open_party own Away) back (open_party r.own held) place size ∙ ap (λ (x : OpenParty D). front ++ open_party x.own held ∷ back) same)
