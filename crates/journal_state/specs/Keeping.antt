-- What became of a body that was to be kept (this project's profile).
use Rattle.std.specs.Prelude.{◌≡◌, ℕ, ◌+◌, ◌≤◌, List, is_some, Result, IfOk, IfErr}
use Rattle.x_disk.specs.Disk.{View, Tells, LeavesOnly}
use Rattle.key_journal.specs.Journal.{frame_of, IsBody}
use Rattle.key_journal.specs.States.{Failed, FaultsRose}
use Rattle.journal_state.specs.Results.{kept_disk}
use Rattle.journal_state.specs.States.{Stood, IsStanding, StandsForOldOrNext}

-- the frame is that of a body that leads from one state to the next
pub record IsFrameOf {S : Type 0} (step : List ℕ → S → S → Type 0) (frame : List ℕ) (old next : S) : Type 0 where
  pub body : List ℕ
  pub is_body : IsBody body
  pub is : frame ≡ frame_of body
  pub leads : step body old next

-- the next state is kept, or the disk failed
pub record IsReplaced {D S : Type 0} (step : List ℕ → S → S → Type 0) (first : S) (told : D → View) (old : Stood D S) (next : S) (result : Result (Stood D S) (Failed D)) : Type 0 where
  pub state : IfOk result (λ s. s.state ≡ next)
  -- each image that a crash may leave stands for it
  pub stands : IfOk result (λ s. IsStanding step first (told s.disk) s.gate s.end s.state)
  -- a crash at any moment leaves an image that stands for the state before, or for the next one
  pub any_moment : Tells (told old.disk) → LeavesOnly (told old.disk) (told (kept_disk result)) (StandsForOldOrNext step first old.state next)
  pub cause : IfErr result (λ b. FaultsRose (told old.disk) (told b.disk) b.cause)
  pub faults : (told old.disk).faults ≤ (told (kept_disk result)).faults
  pub tells : is_some (told (kept_disk result)).now ≡ is_some (told old.disk).now

-- the same, by a frame of so many bytes behind the others
pub record IsKept {D S : Type 0} (step : List ℕ → S → S → Type 0) (first : S) (told : D → View) (old : Stood D S) (size : ℕ) (next : S) (result : Result (Stood D S) (Failed D)) : Type 0 where
  pub replaced : IsReplaced step first told old next result
  pub place : IfOk result (λ s. (s.gate ≡ old.gate + size) × (s.end ≡ old.end))
