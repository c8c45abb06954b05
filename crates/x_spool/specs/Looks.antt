-- The steps of a look at an outbox: the disk is fetched, the spool is opened, and the disk is put back (this project's profile).
use Rattle.std.specs.Prelude.{◌≡◌, ◌⊎◌, ◌-◌, ◌<◌, ◌≤◌, ℕ, List, length, Result, IfOk, IfErr, OnOk, OnErr}
use Rattle.x_base.specs.Edge.{Rose}
use Rattle.x_disk.specs.Disk.{View, IsUntouched}
use Rattle.x_disk.specs.Shelf.{ShelfView, IsAlike, OthersStay}
use Rattle.x_disk.specs.declared.disk.DiskErr.{DiskErr}
use Rattle.x_disk.specs.declared.disk.DiskErr.TheVariants as disk
use Rattle.key_journal.specs.declared.cause.Cause.{Cause}
use Rattle.key_journal.specs.declared.cause.Cause.TheVariants as cause
use Rattle.spool_store.specs.Contents.{Progress}
use Rattle.spool_store.specs.Spools.{outbox_of}
use Rattle.x_spool.specs.Outboxes.{ShowsOutbox, IsNoFailure}
use Rattle.x_spool.specs.declared.outcome.OutboxOutcome.{OutboxOutcome}
use Rattle.x_spool.specs.declared.outcome.OutboxOutcome.TheVariants as outbox

-- the outcome where no spool is opened
abbrev pub look_of : Cause → OutboxOutcome
look_of cause.Blank = outbox.Blank
look_of cause.NotEmpty = outbox.Damaged 0
look_of (cause.Damaged place) = outbox.Damaged place
look_of cause.Fault = outbox.Fault
look_of cause.NoMemory = outbox.NoMemory

-- a failure of the shelf as an outcome
abbrev pub look_failure : DiskErr → OutboxOutcome
look_failure disk.Fault = outbox.Fault
look_failure disk.NoMemory = outbox.NoMemory

-- the outbox of the plans that stand, and how many entries have none; or no memory was left
abbrev pub HandsOutbox : Progress → OutboxOutcome → Type 0
HandsOutbox p (outbox.Done text missing) = (text ≡ outbox_of p.plans) × (missing ≡ length p.entries - length p.plans)
HandsOutbox p outbox.NoMemory = Unit {0}
HandsOutbox p other = ⊥

-- what is told of the disk, on which nothing is written
pub record HasLooked {D : Type 0} (told : D → View) (old new : D) (o : OutboxOutcome) : Type 0 where
  pub shows : ShowsOutbox (told old) o
  pub untouched : IsUntouched (told old) (told new)
  pub faults : (told old).faults ≤ (told new).faults
  pub fault : o ≡ outbox.Fault → Rose (told old).faults (told new).faults

-- the disk is fetched, or all stays
pub record IsTaken {D : Type 0} (told : D → View) (name : List ℕ) (old new : ShelfView) (result : Result D OutboxOutcome) : Type 0 where
  pub disk : IfOk result (λ d. IsAlike (old.entry name) (told d))
  pub fresh : IfOk result (λ d. (told d).faults ≡ 0)
  pub slot : OnOk result (new.has_slot name)
  pub others : OthersStay name old.entry new.entry
  pub stays : OnErr result (IsAlike (old.entry name) (new.entry name))
  pub later : old.faults ≤ new.faults
  pub failed : IfErr result (λ o. (o ≡ outbox.NoMemory) ⊎ ((o ≡ outbox.Fault) × Rose old.faults new.faults))

-- the outcome, or an error of the put back in its place
abbrev pub IsEndOf : OutboxOutcome → ℕ → ℕ → OutboxOutcome → Type 0
IsEndOf o before after result = (result ≡ o) ⊎ (((result ≡ outbox.Fault) × Rose before after) ⊎ (result ≡ outbox.NoMemory))

-- the disk is put back
pub record IsReturned {D : Type 0} (told : D → View) (name : List ℕ) (put : D) (o : OutboxOutcome) (old new : ShelfView) (result : OutboxOutcome) : Type 0 where
  pub disk : IsAlike (told put) (new.entry name)
  pub back : IsNoFailure result → new.is_back name
  pub others : OthersStay name old.entry new.entry
  pub later : old.faults ≤ new.faults
  pub seen : 0 < (told put).faults → Rose old.faults new.faults
  pub closed : IsEndOf o old.faults new.faults result
