-- Two images of one party, and what they stand for (this project's profile).
use Rattle.std.specs.Prelude.{◌≡◌, ◌⊎◌, ℕ, true, List, Some}
use Rattle.x_disk.specs.Disk.{View, IsDurable}
use Rattle.key_journal.specs.Journal.{is_blank}
use Rattle.party_state.specs.State.{Party}
use Rattle.change_code.specs.declared.space.Space.{Space}
use Rattle.key_store.specs.Store.{Stored, Stands, StandsWith, StandsAnew, IsStore}

-- each image of the disk that a crash may leave now stands for the party, with this space
pub record IsKeptOn (v : View) (party : Party) (space : Space) : Type 0 where
  pub durable : IsDurable v
  pub stands : (image : List ℕ) → v.now ≡ Some image → StandsWith image party space

-- both images stand for the party
pub record PairStands (first second : List ℕ) (party : Party) : Type 0 where
  pub first_is : Stands first party
  pub second_is : Stands second party

-- the image is blank, or stands for a party of the same identity
abbrev pub IsBlankOrLike : Party → List ℕ → Type 0
IsBlankOrLike party image = (is_blank image ≡ true) ⊎ ((other : Party) × Stands image other × (other.own ≡ party.own))

-- the two images from which the party is opened: the first stands for it, and the second is blank or stands for a party of the
-- same identity; or the first is blank, and the second stands for it
abbrev pub Recovers : List ℕ → List ℕ → Party → Type 0
Recovers first second party = (Stands first party × IsBlankOrLike party second) ⊎ ((is_blank first ≡ true) × Stands second party)

-- the image stands for the party, for which the one before didn't, in format 2, with the room that one frame of it leaves
abbrev pub IsMadeAnew : List ℕ → Party → List ℕ → Type 0
IsMadeAnew before party image = (Stands before party → ⊥) × StandsAnew image party

-- one image is blank as another was, or stands for the party for which that stood, with the space that it had
abbrev pub IsAsBefore : List ℕ → List ℕ → Type 0
IsAsBefore before image = ((is_blank before ≡ true) × (is_blank image ≡ true)) ⊎ ((party : Party) × (space : Space) × StandsWith before party space × StandsWith image party space)

-- the stores of a party that keeps two disks
pub record Twin (D : Type 0) : Type 0 where
  pub first : Stored D
  pub second : Stored D

-- every Mirror: each image of either disk that a crash may leave now stands for the one party
pub record IsTwin {D : Type 0} (told : D → View) (m : Twin D) : Type 0 where
  pub first_stands : IsStore (told m.first.disk) m.first.gate m.first.end m.first.format m.first.party
  pub second_stands : IsStore (told m.second.disk) m.second.gate m.second.end m.second.format m.second.party
  pub same : m.second.party ≡ m.first.party
