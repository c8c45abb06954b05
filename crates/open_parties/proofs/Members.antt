-- Parties whose disks are open, and their identities.
use Rattle.std.proofs.Common.{◌≡◌, ℕ, Bool, true, false, cond, List, [], ◌∷◌, ◌++◌, bytes_eq, refl, ap}
use mathlib.Core.Logic.{◌≢◌}
use Rattle.std.proofs.lemmas.Slice.Eq.{bytes_eq-Decides}
use Rattle.x_disk.specs.Disk.{View}
use Rattle.key_store.specs.Store.{Stored}
use Rattle.open_parties.specs.OpenParties.{open_party, IsOf, AreIn, AreOpen, owners}
use Rattle.open_parties.specs.declared.open_party.OpenParty.{OpenParty}
use Rattle.open_parties.specs.declared.open_party.PartyDisk.{PartyDisk}
use Rattle.open_parties.specs.declared.open_party.PartyDisk.TheVariants.{Open}

pub same_yes : (a b : List ℕ) → a ≡ b → bytes_eq a b ≡ true
same_yes a b is = (bytes_eq-Decides a b).1 is

pub same_not : (a b : List ℕ) → a ≢ b → bytes_eq a b ≡ false
same_not a b apart = go (bytes_eq a b) refl
  where
    go : (t : Bool) → bytes_eq a b ≡ t → bytes_eq a b ≡ false
    go true is = absurd (apart ((bytes_eq-Decides a b).0 is))
    go false is = is

pub cond_yes : {T : Type 0} (a : Bool) (x y : T) → a ≡ true → cond a x y ≡ x
cond_yes a x y is = rw is refl

pub cond_not : {T : Type 0} (a : Bool) (x y : T) → a ≡ false → cond a x y ≡ y
cond_not a x y is = rw is refl

module _ {D : Type 0} (tell : Bool) (told : D → View) (own : List ℕ) (n : Stored D) (back : List (OpenParty D)) where
  pub stay_in : (new : Stored D) → IsOf tell told own new → (front : List (OpenParty D)) → AreIn tell told (front ++ open_party own (Open n) ∷ back) → AreIn tell told (front ++ open_party own (Open new) ∷ back)
  stay_in new of [] all = (of, all.1)
  stay_in new of (f ∷ front) all = (all.0, stay_in new of front all.1)

  pub of_in : (front : List (OpenParty D)) → AreIn tell told (front ++ open_party own (Open n) ∷ back) → IsOf tell told own n
  of_in [] all = all.0
  of_in (f ∷ front) all = of_in front all.1

pub still_open : {D : Type 0} (front : List (OpenParty D)) (own : List ℕ) (n new : Stored D) (back : List (OpenParty D)) → AreOpen (front ++ open_party own (Open n) ∷ back) → AreOpen (front ++ open_party own (Open new) ∷ back)
still_open [] own n new back all = (tt, all.1)
still_open (f ∷ front) own n new back all = (all.0, still_open front own n new back all.1)

pub same_owners : {D : Type 0} (front : List (OpenParty D)) (own : List ℕ) (h k : PartyDisk D) (back : List (OpenParty D)) → owners (front ++ open_party own h ∷ back) ≡ owners (front ++ open_party own k ∷ back)
same_owners [] own h k back = refl
same_owners (f ∷ front) own h k back = ap (λ (l : List (List ℕ)). f.own ∷ l) (same_owners front own h k back)
