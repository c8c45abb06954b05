-- What each call of a disk does to what that tells (this project's profile).
use Rattle.std.specs.Prelude.{◌≡◌, ℕ, ◌+◌, List, length, take, drop, Some, is_some, Result, IfOk, OnOk, OnErr}
use Rattle.x_disk.specs.Disk.{View, IsTornAt, Follows, LeavesNoMore, IsDurable, IsStill, IsKept, KeepsCover, IsWritten, Ticks, Elapses, HasCause, IsCounted, IsCovered, IsCoveredSync}
use Rattle.x_disk.specs.declared.disk.DiskErr.{DiskErr}

-- the length is told, and nothing changes
pub record IsMeasured (old new : View) (result : Result ℕ DiskErr) : Type 0 where
  pub value : IfOk result (λ n. (b : List ℕ) → old.now ≡ Some b → n ≡ length b)
  pub still : IsStill old new
  pub covered : OnOk result (KeepsCover old new)
  pub cause : HasCause old new result
  pub counted : IsCounted old new result

-- a buffer is filled with the bytes from this place on, and nothing changes
pub record IsFilled (at : ℕ) (before after : List ℕ) (old new : View) (result : Result Unit DiskErr) : Type 0 where
  pub value : OnOk result ((b : List ℕ) → old.now ≡ Some b → after ≡ take (length before) (drop at b))
  pub still : IsStill old new
  pub covered : OnOk result (KeepsCover old new)
  pub cause : HasCause old new result
  pub counted : IsCounted old new result

-- these bytes are written at this place, or some of them are where the call fails
pub record IsWriting (at : ℕ) (bytes : List ℕ) (old new : View) (result : Result Unit DiskErr) : Type 0 where
  pub written : OnOk result (IsWritten at bytes old new)
  pub stable : new.stable ≡ old.stable
  pub tells : is_some new.now ≡ is_some old.now
  -- a crash may cut the write short
  pub crash : Follows (IsTornAt at (length bytes)) old new
  pub time : Elapses old new
  pub clock : OnOk result (Ticks old new)
  pub cause : HasCause old new result
  pub counted : IsCounted old new result
  pub covered : IsCovered (at + length bytes) (length bytes) old new result

-- what a read gives becomes the one image that a crash leaves
pub record IsSyncing (old new : View) (result : Result Unit DiskErr) : Type 0 where
  pub durable : OnOk result (IsDurable new)
  pub stable : OnErr result (new.stable ≡ old.stable)
  pub now : new.now ≡ old.now
  pub crash : LeavesNoMore old new
  pub time : Elapses old new
  pub clock : OnOk result (Ticks old new)
  pub cause : HasCause old new result
  pub counted : IsCounted old new result
  pub covered : IsCoveredSync old new result

-- the power goes, and an image of this choice is left as what a read gives
pub record IsPowerOff (choice : ℕ) (old new : View) (result : Result Unit DiskErr) : Type 0 where
  pub durable : OnOk result (IsDurable new)
  pub crash : LeavesNoMore old new
  -- with 0 that of the last sync, with 1 what a read gave
  pub stable : OnOk result (choice ≡ 0 → new.now ≡ old.stable)
  pub now : OnOk result (choice ≡ 1 → new.now ≡ old.now)
  pub tells : is_some new.now ≡ is_some old.now
  pub as_before : OnErr result (IsKept old new)
  pub time : Elapses old new
  pub clock : OnOk result (Ticks old new)
  pub calls_left : new.calls_left ≡ old.calls_left
  pub cause : HasCause old new result
