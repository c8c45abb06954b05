-- What a call leaves as it is of a shelf, and of the parties whose disks are held (this project's profile).
use Rattle.std.specs.Prelude.{◌≡◌, ◌⊎◌, ◌≤◌, ℕ, List, Result, Err, OnOk}
use Rattle.x_base.specs.Edge.{Rose}
use Rattle.x_disk.specs.Disk.{View}
use Rattle.x_disk.specs.Shelf.{OthersStay, SlotsStay}
use Rattle.open_parties.specs.Closing.{AnyFaulty, OtherDisksStay}
use Rattle.open_parties.specs.OpenParties.{AreOpen, owners}
use Rattle.open_parties.specs.declared.failure.Ending.{Ending}
use Rattle.open_parties.specs.declared.failure.Ending.TheVariants as ending
use Rattle.open_parties.specs.declared.failure.Failure.{Failure}
use Rattle.open_parties.specs.declared.failure.Failure.TheVariants as failure
use Rattle.open_parties.specs.declared.open_party.OpenParty.{OpenParty}

-- the disks of all parties but this one, each slot, and the count of faults, which doesn't fall
pub record ShelfStays (own : List ℕ) (old new : List ℕ → View) (had has : List ℕ → Type 0) (before after : ℕ) : Type 0 where
  pub others : OthersStay own old new
  pub slots : SlotsStay had has
  pub later : before ≤ after

-- what stays where a disk is put back; a failure is one that the shelf counts, and no damage
pub record IsPut {T : Type 0} (own : List ℕ) (old new : List ℕ → View) (had has : List ℕ → Type 0) (before after : ℕ) (result : Result T Failure) : Type 0 where
  pub stays : ShelfStays own old new had has before after
  pub fault : result ≡ Err failure.Fault → Rose before after
  pub undamaged : (place : ℕ) → result ≡ Err (failure.Damaged place) → ⊥

-- the parties that have places, the disks of all others, each slot, and the count of faults; the parties are open where the
-- play goes on, and a fault is one that is counted
pub record Around {D : Type 0} {T : Type 0} (told : D → View) (open_parties now : List (OpenParty D)) (old new : List ℕ → View) (had has : List ℕ → Type 0) (before after : ℕ) (result : Result T Ending) : Type 0 where
  pub owners_stay : owners now ≡ owners open_parties
  pub others : OtherDisksStay old new open_parties
  pub slots : SlotsStay had has
  pub later : before ≤ after
  pub opened : OnOk result (AreOpen now)
  pub fault : result ≡ Err (ending.Failed failure.Fault) → Rose before after ⊎ AnyFaulty told now
