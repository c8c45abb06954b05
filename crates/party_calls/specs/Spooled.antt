-- What `spool` and `outbox` say (this project's profile). `left` and `rest` are what the source has before and after, `before` and
-- `after` what the sink has, `old` and `new` what the shelf tells of the disks.
use Rattle.std.specs.Prelude.{◌≡◌, ◌⊎◌, ℕ, zero, suc, List, [], Option, Some, IfSome}
use Rattle.x_base.specs.Edge.{Rose}
use Rattle.x_base.specs.declared.verdict.Verdict.TheVariants as verdict
use Rattle.x_disk.specs.Disk.{View, Tells, IsUntouched}
use Rattle.x_disk.specs.Shelf.{AllStay, OthersStay}
use Rattle.member.specs.Member.{Member}
use Rattle.csm_batch.specs.declared.entry.Entry.{Entry}
use Rattle.csm_batch.specs.Batches.{IsBatch, IsFirstBad}
use Rattle.csm_spool.specs.InStep.{PairsInStep}
use Rattle.x_spool.specs.Dues.{FindsMember, IsDueBatch}
use Rattle.x_spool.specs.Outcomes.{MakesBatch, StaysInStep}
use Rattle.x_spool.specs.Onward.{GoesOnward}
use Rattle.x_spool.specs.Outboxes.{IsDueOutbox, ShowsOutbox}
use Rattle.x_spool.specs.declared.outcome.SpoolOutcome.{SpoolOutcome}
use Rattle.x_spool.specs.declared.outcome.SpoolOutcome.TheVariants as outcome
use Rattle.x_spool.specs.declared.outcome.OutboxOutcome.{OutboxOutcome}
use Rattle.x_spool.specs.declared.outcome.OutboxOutcome.TheVariants as outbox
use Rattle.call_ends.specs.Causes.{IsSilent}
use Rattle.call_ends.specs.declared.status.Refusal.TheVariants.{Decided, OtherBatch, OtherParty, OutOfStep, Unplanned}
use Rattle.call_ends.specs.declared.status.Status.{Status}
use Rattle.call_ends.specs.declared.status.Status.TheVariants as status
use Rattle.call_ends.specs.Puts.{Puts}
use Rattle.party_calls.specs.Ends.{IsOfParty}
use Rattle.party_calls.specs.Dues.{IsOrNoMemory}

-- how many bytes of a batch, or of messages for one, are taken at most
abbrev pub batch_limit : ℕ
batch_limit = 1048577

-- ---- a batch that is taken

-- the status of an outcome
abbrev pub status_of_batch : SpoolOutcome → Status
status_of_batch (outcome.Done out) = status.Done
status_of_batch outcome.OtherBatch = status.Refused OtherBatch
status_of_batch (outcome.OutOfStep entry) = status.Refused (OutOfStep entry)
status_of_batch (outcome.OtherParty asked found) = status.Refused (OtherParty asked found)
status_of_batch outcome.Blank = status.Refused (Decided verdict.Blank)
status_of_batch (outcome.Damaged place) = status.Damaged place
status_of_batch outcome.Fault = status.DiskFault
status_of_batch outcome.NoMemory = status.NoMemory

-- a batch with this outcome ends so: the outbox is written where it is done, and otherwise nothing
abbrev pub EndsBatch : SpoolOutcome → Status → Option (List ℕ) → Option (List ℕ) → Type 0
EndsBatch (outcome.Done out) s before after = Puts (Some out) [] status.Done s before after
EndsBatch o s before after = (s ≡ status_of_batch o) × (after ≡ before)

-- what became of a batch of the party of this name, with the spool of that name. Whatever came, the party goes on from where it stood;
-- and where no batch is to be driven, or it is finished, nothing is written to either disk. Where it is done all plans stand, and the
-- outbox is written. Where the two were in step they are so afterwards at every pair of images that a crash may leave, whatever came,
-- and where it is done the party stands for the end of the batch
pub record IsSpooling (party spool text : List ℕ) (entries : List Entry) (old new : List ℕ → View) (s : Status) (before after : Option (List ℕ)) : Type 0 where
  pub outcome : SpoolOutcome
  pub made : MakesBatch party text entries (old party) (old spool) (new party) (new spool) outcome
  pub in_step : StaysInStep party text entries (old party) (old spool) (new party) (new spool) outcome
  pub onward : GoesOnward party text entries (old party) (old spool) (new party) (new spool) outcome
  pub ends : EndsBatch outcome s before after

-- no batch was taken: the source failed, or no memory was left, or this line is the first that no batch has
abbrev pub IsUnbatched : Option (List ℕ) → Status → Type 0
IsUnbatched left s = ((s ≡ status.ReadFault) ⊎ (s ≡ status.NoMemory)) ⊎ ((number : ℕ) × (s ≡ status.BadScenario number) × IfSome left (λ all. IsFirstBad all number))

-- the source was the text of the batch, and was read to its end
abbrev pub TakesBatch : Option (List ℕ) → Option (List ℕ) → List ℕ → Type 0
TakesBatch left rest text = IfSome left (λ all. (all ≡ text) × (rest ≡ Some []))

-- no batch was taken, and nothing was changed or written; or it was driven
abbrev pub IsBatched : List ℕ → List ℕ → Option (List ℕ) → Option (List ℕ) → (List ℕ → View) → (List ℕ → View) → Status → Option (List ℕ) → Option (List ℕ) → Type 0
IsBatched party spool left rest old new s before after = (IsUnbatched left s × (after ≡ before) × AllStay old new)
    ⊎ ((text : List ℕ) × (entries : List Entry) × IsBatch text entries × TakesBatch left rest text × IsSpooling party spool text entries old new s before after)

-- the status is the one that is due of the text, or no memory was left
pub record FollowsBatch (party spool all : List ℕ) (old : List ℕ → View) (s : Status) : Type 0 where
  -- the first line that no batch has
  pub bad : (number : ℕ) → IsFirstBad all number → IsOrNoMemory s (status.BadScenario number)
  -- what is due of the batch by the images
  pub due : (entries : List Entry) (image book : List ℕ) (o : SpoolOutcome) → IsBatch all entries → (old party).now ≡ Some image → (old spool).now ≡ Some book
      → IsDueBatch party image book all o → IsOrNoMemory s (status_of_batch o)
  -- a batch of the party of the name, with which the spool is in step, is done
  pub done : (entries : List Entry) (x y : Member) (image : List ℕ) → IsBatch all entries → Tells (old spool) → PairsInStep (old party) (old spool) all x entries
      → (old party).now ≡ Some image → FindsMember party image y → IsOrNoMemory s status.Done

-- ---- the outbox of a spool

-- the status of so many entries without a plan
abbrev pub status_of_missing : ℕ → Status
status_of_missing zero = status.Done
status_of_missing (suc missing) = status.Refused (Unplanned (suc missing))

-- the status of an outcome
abbrev pub status_of_outbox : OutboxOutcome → Status
status_of_outbox (outbox.Done text missing) = status_of_missing missing
status_of_outbox outbox.Blank = status.Refused (Decided verdict.Blank)
status_of_outbox (outbox.Damaged place) = status.Damaged place
status_of_outbox outbox.Fault = status.DiskFault
status_of_outbox outbox.NoMemory = status.NoMemory

-- the outbox is written, whatever is missing; otherwise nothing
abbrev pub EndsOutbox : OutboxOutcome → Status → Option (List ℕ) → Option (List ℕ) → Type 0
EndsOutbox (outbox.Done text missing) s before after = Puts (Some text) [] (status_of_missing missing) s before after
EndsOutbox o s before after = (s ≡ status_of_outbox o) × (after ≡ before)

-- the outbox of a spool is told; nothing is written to its disk
pub record IsOutboxCall (old new : View) (s : Status) (before after : Option (List ℕ)) : Type 0 where
  pub outcome : OutboxOutcome
  pub shows : ShowsOutbox old outcome
  pub untouched : IsUntouched old new
  pub ends : EndsOutbox outcome s before after

-- the status is that of the outcome that is due by the image, or no memory was left
abbrev pub FollowsOutbox : View → Status → Type 0
FollowsOutbox old s = (book : List ℕ) (o : OutboxOutcome) → old.now ≡ Some book → IsDueOutbox book o → IsOrNoMemory s (status_of_outbox o)

-- what is left: where an answer came the disk is back on the shelf, the others stay, with a silent status nothing is written, and
-- a fault comes only where a count of faults rose. The counts are those of the sink and the shelf, before and after
pub record LeavesSpool (name : List ℕ) (s : Status) (is_back : List ℕ → Type 0) (unwritten : Type 0) (old new : List ℕ → View) (put puts disk disks : ℕ) : Type 0 where
  pub back : IsOfParty s → is_back name
  pub others : OthersStay name old new
  pub silent : IsSilent s → unwritten
  pub write_fault : s ≡ status.WriteFault → Rose put puts
  pub disk_fault : s ≡ status.DiskFault → Rose disk disks
