-- How a spool is opened, whatever its batch (this project's profile).
use Rattle.std.specs.Prelude.{◌≡◌, ℕ, ◌≤◌, List, Some, None, Result, Ok, Err, IfOk, IfErr}
use Rattle.x_base.specs.Edge.{Rose}
use Rattle.x_disk.specs.Disk.{View, IsUntouched}
use Rattle.key_journal.specs.Opening.{IsFree}
use Rattle.key_journal.specs.declared.cause.Cause.{Cause}
use Rattle.key_journal.specs.declared.cause.Cause.TheVariants as cause
use Rattle.key_journal.specs.declared.cause.Unmade.{Unmade}
use Rattle.journal_state.specs.Loading as loading
use Rattle.spool_store.specs.Contents.{Progress, Goes, HoldsPlans}
use Rattle.spool_store.specs.Spools.{Spooled, IsSpool}

abbrev pub opened_disk : {E : Type 0} → Result (Spooled E) (Unmade E) → E
opened_disk (Ok s) = s.disk
opened_disk (Err u) = u.disk

-- why no spool is opened of an image: it is blank, or this is its first damage
abbrev pub IsOpenRefusal : List ℕ → Cause → Type 0
IsOpenRefusal image reason = loading.IsRefusal Goes None image reason

-- the spool is opened for which the image stands; nothing is written
pub record IsSpoolOpened {E : Type 0} (told : E → View) (old : E) (result : Result (Spooled E) (Unmade E)) : Type 0 where
  -- each image that a crash may leave holds its batch and its plans
  pub spool : IfOk result (λ s. IsSpool (told s.disk) s.gate s.end s.progress)
  -- they are those that the image holds
  pub reads : IfOk result (λ s. (image : List ℕ) → (told old).now ≡ Some image → HoldsPlans image s.progress)
  pub refused : IfErr result (λ u. (image : List ℕ) → (told old).now ≡ Some image → IsOpenRefusal image u.cause)
  -- an image that holds a batch gives no other cause than a fault or want of memory
  pub never_refused : IfErr result (λ u. (image : List ℕ) (p : Progress) → (told old).now ≡ Some image → HoldsPlans image p → IsFree u.cause)
  pub untouched : IsUntouched (told old) (told (opened_disk result))
  pub fault : IfErr result (λ u. u.cause ≡ cause.Fault → Rose (told old).faults (told u.disk).faults)
  pub faults : (told old).faults ≤ (told (opened_disk result)).faults
