-- Two disks of a shelf that are taken out at once, and put back (this project's profile).
use Rattle.std.specs.Prelude.{◌≡◌, ◌≢◌, ◌<◌, ◌≤◌, ℕ, List, Result, Ok, Err, IfOk, OnOk, OnErr, IsErrOf}
use Rattle.x_base.specs.Edge.{Rose}
use Rattle.x_disk.specs.Disk.{View}
use Rattle.x_disk.specs.Shelf.{ShelfView, IsAlike, SlotsStay}
use Rattle.x_disk.specs.declared.disk.DiskErr.{DiskErr}
use Rattle.x_disk.specs.declared.disk.DiskErr.TheVariants.{Fault}
use Rattle.disk_pair.specs.declared.disks.Disks.{Disks}

-- the disks under all names but these two stay
abbrev pub ThirdsStay : List ℕ → List ℕ → (List ℕ → View) → (List ℕ → View) → Type 0
ThirdsStay name other old new = (third : List ℕ) → third ≢ name → third ≢ other → IsAlike (old third) (new third)

-- both disks are taken out and have slots from then on, or all stay
pub record AreFetched {D : Type 0} (told : D → View) (name other : List ℕ) (old new : ShelfView) (result : Result (Disks D) DiskErr) : Type 0 where
  pub first : IfOk result (λ d. IsAlike (old.entry name) (told d.first))
  pub second : IfOk result (λ d. IsAlike (old.entry other) (told d.second))
  pub first_fresh : IfOk result (λ d. (told d.first).faults ≡ 0)
  pub second_fresh : IfOk result (λ d. (told d.second).faults ≡ 0)
  pub first_slot : OnOk result (new.has_slot name)
  pub second_slot : OnOk result (new.has_slot other)
  pub slots : SlotsStay old.has_slot new.has_slot
  pub backs : SlotsStay old.is_back new.is_back
  pub thirds : ThirdsStay name other old.entry new.entry
  pub first_stays : OnErr result (IsAlike (old.entry name) (new.entry name))
  pub second_stays : OnErr result (IsAlike (old.entry other) (new.entry other))
  pub later : old.faults ≤ new.faults
  pub cause : IsErrOf result Fault → Rose old.faults new.faults

-- both disks are put under their names, whatever the answer
pub record ArePutBack {D : Type 0} (told : D → View) (name other : List ℕ) (put : Disks D) (old new : ShelfView) (result : Result Unit DiskErr) : Type 0 where
  pub first : IsAlike (told put.first) (new.entry name)
  pub second : IsAlike (told put.second) (new.entry other)
  pub first_back : OnOk result (new.is_back name)
  pub second_back : OnOk result (new.is_back other)
  pub slots : SlotsStay old.has_slot new.has_slot
  pub backs : SlotsStay old.is_back new.is_back
  pub thirds : ThirdsStay name other old.entry new.entry
  pub later : old.faults ≤ new.faults
  pub first_seen : 0 < (told put.first).faults → Rose old.faults new.faults
  pub second_seen : 0 < (told put.second).faults → Rose old.faults new.faults
  pub cause : IsErrOf result Fault → Rose old.faults new.faults

-- what is told in the end: the outcome, or the failure of the put back in its place
abbrev pub told_after : {O : Type 0} → (DiskErr → O) → O → Result Unit DiskErr → O
told_after failure o (Ok done) = o
told_after failure o (Err cause) = failure cause

-- what a call leaves of the shelf: where it answered both disks are back, the others stay, and a fault comes only where the shelf's
-- count of faults rose
pub record LeavesPair (name other : List ℕ) (answered fault_told first_back second_back : Type 0) (old new : List ℕ → View) (before after : ℕ) : Type 0 where
  pub back : answered → first_back × second_back
  pub thirds : ThirdsStay name other old new
  pub fault : fault_told → Rose before after
  pub later : before ≤ after
