-- What the spool of a batch tells by itself: the outbox of the plans that stand (this project's profile).
use Rattle.std.specs.Prelude.{◌≡◌, ◌⊎◌, ◌-◌, ◌≤◌, ℕ, true, List, length, Some}
use Rattle.x_base.specs.Edge.{Rose}
use Rattle.x_disk.specs.Disk.{View}
use Rattle.x_disk.specs.Shelf.{OthersStay}
use Rattle.key_journal.specs.Journal.{is_blank}
use Rattle.spool_store.specs.Contents.{Progress, HoldsPlans, IsSpoolDamage}
use Rattle.spool_store.specs.Spools.{outbox_of}
use Rattle.x_spool.specs.declared.outcome.OutboxOutcome.{OutboxOutcome}
use Rattle.x_spool.specs.declared.outcome.OutboxOutcome.TheVariants as outbox

-- the image holds a batch, this is the outbox of its plans, and so many entries have none
pub record IsOutbox (book text : List ℕ) (missing : ℕ) : Type 0 where
  pub progress : Progress
  pub holds : HoldsPlans book progress
  pub outbox : text ≡ outbox_of progress.plans
  pub missing_is : missing ≡ length progress.entries - length progress.plans

-- the outcome that is due by the image
abbrev pub IsDueOutbox : List ℕ → OutboxOutcome → Type 0
IsDueOutbox book (outbox.Done text missing) = IsOutbox book text missing
IsDueOutbox book outbox.Blank = is_blank book ≡ true
IsDueOutbox book (outbox.Damaged place) = IsSpoolDamage book place
IsDueOutbox book outbox.Fault = ⊥
IsDueOutbox book outbox.NoMemory = ⊥

-- it is neither a fault nor want of memory
abbrev pub IsNoFailure : OutboxOutcome → Type 0
IsNoFailure outbox.Fault = ⊥
IsNoFailure outbox.NoMemory = ⊥
IsNoFailure other = Unit {0}

-- an answer is the one that is due by the image
abbrev pub ShowsOutbox : View → OutboxOutcome → Type 0
ShowsOutbox disk o = (book : List ℕ) → disk.now ≡ Some book → IsNoFailure o → IsDueOutbox book o

-- and the one that is due is the answer, or a fault or want of memory came in its place
abbrev pub GivesOutbox : View → OutboxOutcome → Type 0
GivesOutbox disk o = (book : List ℕ) (other : OutboxOutcome) → disk.now ≡ Some book → IsDueOutbox book other → (o ≡ other) ⊎ ((o ≡ outbox.Fault) ⊎ (o ≡ outbox.NoMemory))

-- the disk is back where the call didn't fail, the others stay, and a fault comes only where the shelf's count of faults rose
pub record LeavesOne (name : List ℕ) (o : OutboxOutcome) (is_back : Type 0) (old new : List ℕ → View) (before after : ℕ) : Type 0 where
  pub back : IsNoFailure o → is_back
  pub others : OthersStay name old new
  pub fault : o ≡ outbox.Fault → Rose before after
  pub later : before ≤ after
