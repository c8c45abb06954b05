-- How a journal is made with its first state (this project's profile).
use Rattle.std.specs.Prelude.{◌≡◌, ◌⊎◌, ℕ, ◌≤◌, true, false, List, Some, is_some, Result, IfOk, IfErr}
use Rattle.x_base.specs.Edge.{Rose}
use Rattle.x_disk.specs.Disk.{View, Tells, LeavesOnly}
use Rattle.key_journal.specs.Journal.{is_blank}
use Rattle.key_journal.specs.Opening.{IsFree}
use Rattle.key_journal.specs.States.{WritesOnlyToBlank}
use Rattle.key_journal.specs.declared.cause.Unmade.{Unmade}
use Rattle.key_journal.specs.declared.cause.Cause.TheVariants as cause
use Rattle.journal_state.specs.Results.{loaded_disk}
use Rattle.journal_state.specs.States.{Stood, IsStanding, IsBlankOrFor}

-- a journal is made that stands for this state
pub record IsMade {D S : Type 0} (step : List ℕ → S → S → Type 0) (first : S) (told : D → View) (given : S) (old : D) (result : Result (Stood D S) (Unmade D)) : Type 0 where
  pub made : IfOk result (λ s. s.state ≡ given)
  pub stands : IfOk result (λ s. IsStanding step first (told s.disk) s.gate s.end s.state)
  pub blank : IfOk result (λ s. (b : List ℕ) → (told old).now ≡ Some b → is_blank b ≡ true)
  -- it is refused exactly where the image isn't blank
  pub exact : IfErr result (λ u. (b : List ℕ) → (told old).now ≡ Some b → IsFree u.cause ⊎ ((u.cause ≡ cause.NotEmpty) × (is_blank b ≡ false)))
  -- no other cause is told
  pub names : IfErr result (λ u. IsFree u.cause ⊎ (u.cause ≡ cause.NotEmpty))
  pub nothing_written : WritesOnlyToBlank (told old) (told (loaded_disk result))
  -- a crash at any moment leaves a blank image, one that stands for the state, or what it could leave before
  pub any_moment : Tells (told old) → LeavesOnly (told old) (told (loaded_disk result)) (λ c. IsBlankOrFor step first given c ⊎ (told old).may_leave c)
  pub fault : IfErr result (λ u. u.cause ≡ cause.Fault → Rose (told old).faults (told u.disk).faults)
  pub faults : (told old).faults ≤ (told (loaded_disk result)).faults
  pub tells : is_some (told (loaded_disk result)).now ≡ is_some (told old).now
