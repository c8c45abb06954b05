-- How a spool is begun: created where the image is blank, opened otherwise (this project's profile).
use Rattle.std.specs.Prelude.{◌≡◌, ◌≢◌, ◌⊎◌, ℕ, ◌≤◌, true, false, List, [], Option, Some, None, is_some, Result, Ok, Err, IfOk, IfErr}
use Rattle.x_base.specs.Edge.{Rose}
use Rattle.x_disk.specs.Disk.{View, Tells, LeavesOnly, IsUntouched}
use Rattle.key_journal.specs.Journal.{is_blank}
use Rattle.key_journal.specs.Opening.{IsFree}
use Rattle.key_journal.specs.declared.cause.Cause.{Cause}
use Rattle.key_journal.specs.declared.cause.Cause.TheVariants as cause
use Rattle.journal_state.specs.Making.{IsMade}
use Rattle.journal_state.specs.States.{Stood}
use Rattle.csm_batch.specs.declared.entry.Entry.{Entry}
use Rattle.spool_store.specs.declared.cause.SpoolCause.{SpoolCause}
use Rattle.spool_store.specs.declared.cause.SpoolCause.TheVariants.{Journal, OtherBatch}
use Rattle.spool_store.specs.declared.cause.Unbegun.{Unbegun}
use Rattle.spool_store.specs.Contents.{Progress, Goes, HoldsPlans, IsSpoolDamage, no_plans}
use Rattle.spool_store.specs.Spools.{Spooled, IsSpool, stood_of}

abbrev pub begun_disk : {E : Type 0} → Result (Spooled E) (Unbegun E) → E
begun_disk (Ok s) = s.disk
begun_disk (Err u) = u.disk

-- the image holds a batch with other bytes
pub record HoldsOther (image text : List ℕ) : Type 0 where
  pub other : Progress
  pub holds : HoldsPlans image other
  pub differs : other.text ≢ text

-- the image holds the batch of these bytes
pub record HoldsBatch (image text : List ℕ) : Type 0 where
  pub same : Progress
  pub holds : HoldsPlans image same
  pub is : same.text ≡ text

-- causes that no image gives
abbrev pub IsFreeCause : SpoolCause → Type 0
IsFreeCause (Journal reason) = IsFree reason
IsFreeCause OtherBatch = ⊥

-- why no spool is begun on an image
abbrev pub IsSpoolRefusal : List ℕ → List ℕ → SpoolCause → Type 0
IsSpoolRefusal image text (Journal cause.Blank) = ⊥
IsSpoolRefusal image text (Journal cause.NotEmpty) = ⊥
IsSpoolRefusal image text (Journal (cause.Damaged place)) = IsSpoolDamage image place
IsSpoolRefusal image text (Journal cause.Fault) = Unit {0}
IsSpoolRefusal image text (Journal cause.NoMemory) = Unit {0}
IsSpoolRefusal image text OtherBatch = HoldsOther image text

-- the image is blank and there are no plans, or it holds the batch with these plans
abbrev pub ReadsPlans : List ℕ → Progress → Type 0
ReadsPlans image p = ((is_blank image ≡ true) × (p.plans ≡ [])) ⊎ HoldsPlans image p

-- no spool yet, or one of the batch without plans
abbrev pub IsBlankOrBegun : List ℕ → List Entry → List ℕ → Type 0
IsBlankOrBegun text entries image = (is_blank image ≡ true) ⊎ HoldsPlans image (no_plans text entries)

-- a spool of this batch is begun
pub record IsBegun {E : Type 0} (told : E → View) (text : List ℕ) (entries : List Entry) (old : E) (result : Result (Spooled E) (Unbegun E)) : Type 0 where
  -- each image that a crash may leave holds its batch and its plans
  pub spool : IfOk result (λ s. IsSpool (told s.disk) s.gate s.end s.progress)
  pub batch : IfOk result (λ s. (s.progress.text ≡ text) × (s.progress.entries ≡ entries))
  -- its plans are those that the image holds
  pub reads : IfOk result (λ s. (image : List ℕ) → (told old).now ≡ Some image → ReadsPlans image s.progress)
  pub refused : IfErr result (λ u. (image : List ℕ) → (told old).now ≡ Some image → IsSpoolRefusal image text u.cause)
  -- an image that is blank or holds the batch gives no other cause than a fault or want of memory
  pub never_refused : IfErr result (λ u. (image : List ℕ) → (told old).now ≡ Some image → (is_blank image ≡ true) ⊎ HoldsBatch image text → IsFreeCause u.cause)
  -- nothing is written where the image isn't blank
  pub untouched : (image : List ℕ) → (told old).now ≡ Some image → is_blank image ≡ false → IsUntouched (told old) (told (begun_disk result))
  -- a crash at any moment leaves a blank image, one with the batch alone, or what it could leave before
  pub any_moment : Tells (told old) → LeavesOnly (told old) (told (begun_disk result)) (λ c. IsBlankOrBegun text entries c ⊎ (told old).may_leave c)
  pub fault : IfErr result (λ u. u.cause ≡ Journal cause.Fault → Rose (told old).faults (told u.disk).faults)
  pub faults : (told old).faults ≤ (told (begun_disk result)).faults
  pub tells : is_some (told (begun_disk result)).now ≡ is_some (told old).now

-- the steps

-- a journal that stands: the batch is the one that it holds, or another
pub record IsSorted {E : Type 0} (told : E → View) (text : List ℕ) (old : Stood E (Option Progress)) (result : Result (Spooled E) (Unbegun E)) : Type 0 where
  pub is : IfOk result (λ s. old ≡ stood_of s)
  pub same : IfOk result (λ s. s.progress.text ≡ text)
  pub spool : IfOk result (λ s. IsSpool (told s.disk) s.gate s.end s.progress)
  pub disk : IfErr result (λ u. u.disk ≡ old.disk)
  pub other : IfErr result (λ u. ((u.cause ≡ OtherBatch) × ((p : Progress) × (old.state ≡ Some p) × (p.text ≢ text))) ⊎ ((u.cause ≡ Journal cause.Blank) × (old.state ≡ None)))

-- a spool of this batch is made
abbrev pub IsSpoolMade : {E : Type 0} → (E → View) → List ℕ → List Entry → E → Result (Spooled E) (Unbegun E) → Type 0
IsSpoolMade told text entries old (Ok s) = (s.progress ≡ no_plans text entries) × IsMade Goes None told (Some (no_plans text entries)) old (Ok (stood_of s))
IsSpoolMade told text entries old (Err u) = (reason : Cause) × (u.cause ≡ Journal reason) × IsMade Goes None told (Some (no_plans text entries)) old (Err (record { disk = u.disk; cause = reason }))
