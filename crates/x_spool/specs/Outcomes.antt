-- What became of a batch of a party on a shelf (this project's profile). `party_disk` and `spool_disk` are what the shelf tells of
-- the two disks before the call, and `party_after` and `spool_after` what it tells of them afterwards.
use Rattle.std.specs.Prelude.{◌≡◌, ℕ, List, ◌++◌, length, Some, is_some}
use Rattle.x_disk.specs.Disk.{View, Tells, IsDurable, IsUntouched}
use Rattle.member.specs.Member.{Member}
use Rattle.node_core.specs.Turns.{ReadIsOf}
use Rattle.csm_batch.specs.declared.entry.Entry.{Entry}
use Rattle.spool_store.specs.declared.entry_plan.EntryPlan.{EntryPlan}
use Rattle.spool_store.specs.Contents.{Progress, HoldsPlans}
use Rattle.spool_store.specs.Spools.{outbox_of}
use Rattle.csm_spool.specs.Courses.{EntriesLead}
use Rattle.csm_spool.specs.Drives.{IsFinished}
use Rattle.csm_spool.specs.InStep.{PairsInStep}
use Rattle.x_spool.specs.Dues.{FindsMember, IsDueBatch, IsDueOut, ReadsBatch}
use Rattle.x_spool.specs.declared.outcome.SpoolOutcome.{SpoolOutcome}
use Rattle.x_spool.specs.declared.outcome.SpoolOutcome.TheVariants as outcome

-- each image that a crash may leave of the disk stands for this member
pub record KeepsMember (v : View) (x : Member) : Type 0 where
  pub durable : IsDurable v
  pub stands : ReadIsOf v x

-- each image that a crash may leave of the disk holds the batch and these plans
pub record KeepsPlans (v : View) (p : Progress) : Type 0 where
  pub durable : IsDurable v
  pub holds : (image : List ℕ) → v.now ≡ Some image → HoldsPlans image p

-- a batch and its plans
abbrev pub progress_of : List ℕ → List Entry → List EntryPlan → Progress
progress_of text entries plans = record { text = text; entries = entries; plans = plans }

-- the batch is done
pub record IsSpooled (text : List ℕ) (entries : List Entry) (party_disk spool_disk party_after spool_after : View) (out : List ℕ) : Type 0 where
  pub plans : List EntryPlan
  -- each entry has its plan, and each image that a crash may leave of the spool holds them
  pub whole : length plans ≡ length entries
  pub spool : KeepsPlans spool_after (progress_of text entries plans)
  -- the plans that it held before the call stay, in front
  pub front : (book : List ℕ) (p : Progress) → spool_disk.now ≡ Some book → HoldsPlans book p → (more : List EntryPlan) × (plans ≡ p.plans ++ more)
  -- what is handed out is their outbox
  pub outbox : out ≡ outbox_of plans
  -- the member for which each image that a crash may leave of the party's disk stands
  pub member : Member
  pub party : KeepsMember party_after member
  -- it is the one to which the plans of the whole batch lead from the start
  pub ends : (x : Member) → Tells party_disk → Tells spool_disk → PairsInStep party_disk spool_disk text x entries → EntriesLead x entries plans member

-- nothing is written to either disk
pub record BothStay (party_disk spool_disk party_after spool_after : View) : Type 0 where
  pub party : IsUntouched party_disk party_after
  pub spool : Tells spool_disk → IsUntouched spool_disk spool_after

-- what is left of the two disks, and what is handed out
abbrev pub LeavesBatch : List ℕ → List Entry → View → View → View → View → SpoolOutcome → Type 0
LeavesBatch text entries party_disk spool_disk party_after spool_after (outcome.Done out) = IsSpooled text entries party_disk spool_disk party_after spool_after out
LeavesBatch text entries party_disk spool_disk party_after spool_after outcome.Fault = Unit {0}
LeavesBatch text entries party_disk spool_disk party_after spool_after outcome.NoMemory = Unit {0}
LeavesBatch text entries party_disk spool_disk party_after spool_after other = BothStay party_disk spool_disk party_after spool_after

-- it is neither a fault nor want of memory
abbrev pub IsNoFailure : SpoolOutcome → Type 0
IsNoFailure outcome.Fault = ⊥
IsNoFailure outcome.NoMemory = ⊥
IsNoFailure other = Unit {0}

-- what became of the batch: an answer is the one that is due by the images
pub record MakesBatch (name text : List ℕ) (entries : List Entry) (party_disk spool_disk party_after spool_after : View) (o : SpoolOutcome) : Type 0 where
  pub due : (image book : List ℕ) → party_disk.now ≡ Some image → spool_disk.now ≡ Some book → IsNoFailure o → IsDueBatch name image book text o
  pub left : LeavesBatch text entries party_disk spool_disk party_after spool_after o

-- it is done, or failed
abbrev pub IsDoneOrFailed : SpoolOutcome → Type 0
IsDoneOrFailed (outcome.Done out) = Unit {0}
IsDoneOrFailed outcome.Fault = Unit {0}
IsDoneOrFailed outcome.NoMemory = Unit {0}
IsDoneOrFailed other = ⊥

-- nothing is written to either disk, also where the spool's doesn't tell
pub record AreUntouched (party_disk spool_disk party_after spool_after : View) : Type 0 where
  pub party : IsUntouched party_disk party_after
  pub spool : IsUntouched spool_disk spool_after

-- where no batch is to be driven, or it is finished, nothing is written, whatever came
pub record IsSafeBatch (name text : List ℕ) (party_disk spool_disk party_after spool_after : View) : Type 0 where
  -- the party's image stands for no member whose party is that of the name
  pub nobody : (image : List ℕ) → party_disk.now ≡ Some image → ((x : Member) → FindsMember name image x → ⊥) → AreUntouched party_disk spool_disk party_after spool_after
  -- the spool's image is neither blank nor holds the batch
  pub unread : (book : List ℕ) → spool_disk.now ≡ Some book → (ReadsBatch book text → ⊥) → AreUntouched party_disk spool_disk party_after spool_after
  -- the last plan isn't settled, and the party would do otherwise with its entry
  pub out : (image book : List ℕ) (entry : ℕ) → party_disk.now ≡ Some image → spool_disk.now ≡ Some book → IsDueOut name image book text entry → AreUntouched party_disk spool_disk party_after spool_after
  -- the spool holds a plan for each entry, and the last one is settled
  pub finished : (image book : List ℕ) (x : Member) (p : Progress) → party_disk.now ≡ Some image → spool_disk.now ≡ Some book → FindsMember name image x → HoldsPlans book p → IsFinished x p → AreUntouched party_disk spool_disk party_after spool_after

-- where each pair of images that a crash may leave was in step, each is, whatever came; and of the party of the name nothing else
-- comes than that the batch is done, a fault or want of memory
pub record StaysInStep (name text : List ℕ) (entries : List Entry) (party_disk spool_disk party_after spool_after : View) (o : SpoolOutcome) : Type 0 where
  pub pairs : (x : Member) → Tells party_disk → Tells spool_disk → PairsInStep party_disk spool_disk text x entries → PairsInStep party_after spool_after text x entries
  pub complete : (x y : Member) (image : List ℕ) → Tells spool_disk → PairsInStep party_disk spool_disk text x entries → party_disk.now ≡ Some image → FindsMember name image y → IsDoneOrFailed o
  -- where no batch is to be driven, or it is finished, nothing is written, in step or not
  pub safe : IsSafeBatch name text party_disk spool_disk party_after spool_after
  pub party_tells : is_some party_after.now ≡ is_some party_disk.now
  pub spool_tells : is_some spool_after.now ≡ is_some spool_disk.now
