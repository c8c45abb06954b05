-- The disks are put back on the shelf (this project's profile).
use Rattle.std.specs.Prelude.{◌≡◌, ◌⊎◌, ◌<◌, ℕ, List, [], ◌∷◌, ◌++◌}
use Rattle.x_base.specs.Edge.{Rose}
use Rattle.x_disk.specs.Disk.{View}
use Rattle.x_disk.specs.Shelf.{IsAlike}
use Rattle.key_store.specs.Store.{IsStore}
use Rattle.open_parties.specs.OpenParties.{NoneOf}
use Rattle.open_parties.specs.declared.open_party.OpenParty.{OpenParty}
use Rattle.open_parties.specs.declared.open_party.PartyDisk.{PartyDisk}
use Rattle.open_parties.specs.declared.open_party.PartyDisk.TheVariants.{Open, Closed, Away}

-- each party has a slot
abbrev pub AllSlots : (List ℕ → Type 0) → List (List ℕ) → Type 0
AllSlots slot [] = Unit {0}
AllSlots slot (own ∷ owners) = slot own × AllSlots slot owners

-- what is held of a party is back on the shelf, and stands for it; where nothing is held, its disk there stays
abbrev pub IsBack : {D : Type 0} → (D → View) → (List ℕ → View) → (List ℕ → View) → List ℕ → PartyDisk D → Type 0
IsBack told old entry own (Open node) = IsAlike (told node.disk) (entry own) × IsStore (told node.disk) node.gate node.end node.format node.party
IsBack told old entry own (Closed disk) = IsAlike (told disk) (entry own)
IsBack told old entry own Away = IsAlike (old own) (entry own)

abbrev pub AllBack : {D : Type 0} → (D → View) → (List ℕ → View) → (List ℕ → View) → List (OpenParty D) → Type 0
AllBack told old entry [] = Unit {0}
AllBack told old entry (s ∷ open_parties) = IsBack told old entry s.own s.held × AllBack told old entry open_parties

-- the disks of all others stay
abbrev pub OtherDisksStay : {D : Type 0} → (List ℕ → View) → (List ℕ → View) → List (OpenParty D) → Type 0
OtherDisksStay old entry open_parties = (own : List ℕ) → NoneOf open_parties own → IsAlike (old own) (entry own)

-- no two are of one identity
abbrev pub AreApart : {D : Type 0} → List (OpenParty D) → Type 0
AreApart [] = Unit {0}
AreApart (s ∷ open_parties) = NoneOf open_parties s.own × AreApart open_parties

-- a disk that is held has failed
abbrev pub IsFaulty : {D : Type 0} → (D → View) → PartyDisk D → Type 0
IsFaulty told (Open node) = ⊥
IsFaulty told (Closed disk) = 0 < (told disk).faults
IsFaulty told Away = ⊥

abbrev pub AnyFaulty : {D : Type 0} → (D → View) → List (OpenParty D) → Type 0
AnyFaulty told [] = ⊥
AnyFaulty told (s ∷ open_parties) = IsFaulty told s.held ⊎ AnyFaulty told open_parties

-- these were the last of all, and are back; the shelf's faults rose from one count to another where one of them failed
pub record IsClosing {D : Type 0} (told : D → View) (old entry : List ℕ → View) (before after : ℕ) (all left : List (OpenParty D)) : Type 0 where
  pub done : List (OpenParty D)
  pub split : all ≡ left ++ done
  pub back : AllBack told old entry done
  pub others : OtherDisksStay old entry done
  pub seen : AnyFaulty told done → Rose before after
