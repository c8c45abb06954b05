-- A shelf that fails after so many calls, and whose disks do (this project's profile).
use Rattle.std.specs.Prelude.{◌≡◌, ◌≤◌, ◌<◌, ℕ, ◌+◌, ◌-◌, List, Result, OnOk, IsErrOf}
use Rattle.x_base.specs.Edge.{Rose}
use Rattle.x_disk.specs.Disk.{View}
use Rattle.x_disk.specs.Fuse.{with_fuse}
use Rattle.x_disk.specs.Shelf.{ShelfView, shelf_view}
use Rattle.x_disk.specs.declared.disk.DiskErr.{DiskErr}
use Rattle.x_disk.specs.declared.disk.DiskErr.TheVariants.{Fault, NoMemory}
use Rattle.x_disk.specs.declared.fused.Fuse.TheVariants.{Passes}

-- a shelf, the calls that it and each fetched disk still pass, and its own faults
pub record WithCalls (H : Type 0) : Type 0 where
  pub inner : H
  pub shelf_calls : ℕ
  pub disk_calls : ℕ
  pub faults : ℕ

-- what the disks of the shelf tell, each with a fuse that is whole
abbrev pub fused_entry : {H : Type 0} → (H → List ℕ → View) → WithCalls H → List ℕ → View
fused_entry entry s name = with_fuse (Passes s.disk_calls) (entry s.inner name)

-- the faults of the shelf and its own
abbrev pub all_faults : {H : Type 0} → (H → ℕ) → WithCalls H → ℕ
all_faults faults s = faults s.inner + s.faults

-- what the shelf tells
abbrev pub fused_shelf_view : {H : Type 0} → (H → List ℕ → View) → (H → List ℕ → Type 0) → (H → List ℕ → Type 0) → (H → ℕ) → WithCalls H → ShelfView
fused_shelf_view entry has_slot is_back faults = shelf_view (fused_entry entry) (λ s. has_slot s.inner) (λ s. is_back s.inner) (all_faults faults)

-- a fault of its own is counted
pub record IsFaultCounted {H : Type 0} (old new : WithCalls H) : Type 0 where
  pub inner : new.inner ≡ old.inner
  pub shelf_calls : new.shelf_calls ≡ old.shelf_calls
  pub disk_calls : new.disk_calls ≡ old.disk_calls
  pub later : old.faults ≤ new.faults
  pub faults : Rose old.faults new.faults

-- a call is counted, and fails where none passes any more
pub record IsPass {H : Type 0} (old new : WithCalls H) (result : Result Unit DiskErr) : Type 0 where
  pub inner : new.inner ≡ old.inner
  pub shelf_calls : new.shelf_calls ≡ old.shelf_calls - 1
  pub disk_calls : new.disk_calls ≡ old.disk_calls
  pub calls_left : OnOk result ((0 < old.shelf_calls) × (new.faults ≡ old.faults))
  pub fails : IsErrOf result Fault → (old.shelf_calls ≡ 0) × Rose old.faults new.faults
  pub later : old.faults ≤ new.faults
  pub only : IsErrOf result NoMemory → ⊥
