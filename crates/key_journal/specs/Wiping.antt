-- Wiping: what doesn't count of a journal's file becomes zeros (this project's profile).
use Rattle.std.specs.Prelude.{◌≡◌, ◌⊎◌, ℕ, ◌-◌, ◌<◌, ◌≤◌, List, length, slice_index, Some, is_some, Result, IfOk, IfErr, OnOk}
use Rattle.x_disk.specs.Disk.{View, IsDurable, LeavesOnly, disk_size}
use Rattle.x_disk.specs.declared.disk.DiskErr.{DiskErr}
use Rattle.key_journal.specs.Layout.{first_start}
use Rattle.key_journal.specs.Journal.{HoldsBodies, start, gate_place}
use Rattle.key_journal.specs.Results.{ready_disk}
use Rattle.key_journal.specs.States.{Site, Failed, HasRoom, HasFaults, FaultsRose, MayTear}

-- the byte at this place counts: it lies before the areas, or in the selected one, up to and with its last gate
abbrev pub PlaceCounts : List ℕ → List (List ℕ) → ℕ → Type 0
PlaceCounts image bodies place = (place < first_start) ⊎ ((start image ≤ place) × (place ≤ gate_place image bodies))

-- the image stands for the same bodies, its bytes that count are as they were, and so is its length
pub record KeepsCounting (image : List ℕ) (bodies : List (List ℕ)) (c : List ℕ) : Type 0 where
  pub holds : HoldsBodies c bodies
  pub long : length c ≡ length image
  pub same : (place : ℕ) → PlaceCounts image bodies place → slice_index c place ≡ slice_index image place

-- the same, and each byte that doesn't count is zero, as far as a disk takes bytes
pub record IsWiped (image : List ℕ) (bodies : List (List ℕ)) (c : List ℕ) : Type 0 where
  pub keeps : KeepsCounting image bodies c
  pub zero : (place : ℕ) → place < disk_size → (PlaceCounts image bodies place → ⊥) → slice_index c place ≡ 0

-- what a read gives is wiped
abbrev pub Wipes : View → View → Type 0
Wipes old new = (image : List ℕ) (bodies : List (List ℕ)) → old.now ≡ Some image → HoldsBodies image bodies → (c : List ℕ) × (new.now ≡ Some c) × IsWiped image bodies c

-- a crash at any moment leaves the bytes that count
abbrev pub LeavesCounting : View → View → Type 0
LeavesCounting old new = (image : List ℕ) (bodies : List (List ℕ)) → old.now ≡ Some image → HoldsBodies image bodies → LeavesOnly old new (KeepsCounting image bodies)

-- from one place up to another all bytes are zero, and the list is no shorter than the other
pub record HasZeros (from to : ℕ) (b c : List ℕ) : Type 0 where
  pub no_shorter : length b ≤ length c
  pub zero : (place : ℕ) → from ≤ place → place < to → slice_index c place ≡ 0

-- zeros are written from one place up to another within the file, and synced
pub record IsCleared (from to : ℕ) (old new : View) (result : Result Unit DiskErr) : Type 0 where
  pub durable : OnOk result (IsDurable new)
  pub zeros : OnOk result ((b c : List ℕ) → old.now ≡ Some b → new.now ≡ Some c → to ≤ length b → HasZeros from to b c)
  -- a crash at any moment leaves what it could leave before, with any bytes in the range
  pub any_moment : LeavesOnly old new (MayTear old from (to - from))
  pub tells : is_some new.now ≡ is_some old.now
  pub cause : HasFaults old new result

-- what doesn't count of the file is overwritten, and synced
pub record IsClearedFile (old new : View) (result : Result Unit DiskErr) : Type 0 where
  pub wiped : OnOk result (Wipes old new)
  pub durable : OnOk result (IsDurable new)
  pub any_moment : LeavesCounting old new
  pub tells : is_some new.now ≡ is_some old.now
  pub cause : HasFaults old new result

-- a journal's file is wiped
pub record IsWipe {D : Type 0} (told : D → View) (old : Site D) (result : Result (Site D) (Failed D)) : Type 0 where
  -- what counts is as it was, and each other byte is zero
  pub wiped : IfOk result (λ s. Wipes (told old.disk) (told s.disk))
  -- where the gate and the end of the area are
  pub place : IfOk result (λ s. (s.gate ≡ old.gate) × (s.end ≡ old.end))
  pub room : IfOk result (λ s. HasRoom (told s.disk) s.gate s.end)
  pub durable : IfOk result (λ s. IsDurable (told s.disk))
  -- a crash at any moment leaves the bytes that count
  pub any_moment : LeavesCounting (told old.disk) (told (ready_disk result))
  pub cause : IfErr result (λ b. FaultsRose (told old.disk) (told b.disk) b.cause)
  pub faults : (told old.disk).faults ≤ (told (ready_disk result)).faults
  pub tells : is_some (told (ready_disk result)).now ≡ is_some (told old.disk).now
