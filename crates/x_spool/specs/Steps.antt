-- The steps of a call between the fetch of both disks and their put back: the party is opened, the spool is begun, and the batch is
-- driven (this project's profile).
use Rattle.std.specs.Prelude.{◌≡◌, ◌⊎◌, ℕ, ◌≤◌, List}
use Rattle.x_base.specs.Edge.{Rose}
use Rattle.x_disk.specs.Disk.{View}
use Rattle.x_disk.specs.declared.disk.DiskErr.{DiskErr}
use Rattle.x_disk.specs.declared.disk.DiskErr.TheVariants as disk
use Rattle.key_journal.specs.Causes.{cause_of}
use Rattle.key_journal.specs.declared.cause.Cause.{Cause}
use Rattle.key_journal.specs.declared.cause.Cause.TheVariants as cause
use Rattle.key_store.specs.Store.{IsStore}
use Rattle.node_core.specs.declared.named.WhyNotOpened.{WhyNotOpened}
use Rattle.node_core.specs.declared.named.WhyNotOpened.TheVariants as why
use Rattle.csm_batch.specs.declared.entry.Entry.{Entry}
use Rattle.spool_store.specs.declared.cause.SpoolCause.{SpoolCause}
use Rattle.spool_store.specs.declared.cause.SpoolCause.TheVariants as spool
use Rattle.spool_store.specs.Spools.{IsSpool, outbox_of}
use Rattle.csm_spool.specs.declared.outcome.Driven.{Driven}
use Rattle.csm_spool.specs.declared.outcome.Driven.TheVariants as drive
use Rattle.csm_spool.specs.Drives.{party_disk, spool_disk}
use Rattle.disk_pair.specs.declared.disks.Disks.{Disks}
use Rattle.x_spool.specs.Onward.{GoesOnward}
use Rattle.x_spool.specs.Outcomes.{MakesBatch, StaysInStep}
use Rattle.x_spool.specs.declared.outcome.SpoolOutcome.{SpoolOutcome}
use Rattle.x_spool.specs.declared.outcome.SpoolOutcome.TheVariants as outcome

-- the outcome where a party's disk isn't opened, or a disk failed
abbrev pub outcome_of : Cause → SpoolOutcome
outcome_of cause.Blank = outcome.Blank
outcome_of cause.NotEmpty = outcome.Damaged 0
outcome_of (cause.Damaged place) = outcome.Damaged place
outcome_of cause.Fault = outcome.Fault
outcome_of cause.NoMemory = outcome.NoMemory

-- and where the party of the name isn't opened
abbrev pub outcome_of_why : List ℕ → WhyNotOpened → SpoolOutcome
outcome_of_why name (why.OtherParty found) = outcome.OtherParty name found
outcome_of_why name (why.Unmade reason) = outcome_of reason

-- the outcome where no spool is begun; over a disk that tells it is neither blank nor not empty
abbrev pub outcome_of_spool : SpoolCause → SpoolOutcome
outcome_of_spool (spool.Journal cause.Blank) = outcome.Damaged 0
outcome_of_spool (spool.Journal cause.NotEmpty) = outcome.Damaged 0
outcome_of_spool (spool.Journal (cause.Damaged place)) = outcome.Damaged place
outcome_of_spool (spool.Journal cause.Fault) = outcome.Fault
outcome_of_spool (spool.Journal cause.NoMemory) = outcome.NoMemory
outcome_of_spool spool.OtherBatch = outcome.OtherBatch

-- what a batch did to the two disks
pub record HasActed {D : Type 0} (name text : List ℕ) (entries : List Entry) (told : D → View) (old new : Disks D) (o : SpoolOutcome) : Type 0 where
  pub made : MakesBatch name text entries (told old.first) (told old.second) (told new.first) (told new.second) o
  pub in_step : StaysInStep name text entries (told old.first) (told old.second) (told new.first) (told new.second) o
  pub onward : GoesOnward name text entries (told old.first) (told old.second) (told new.first) (told new.second) o
  pub first_faults : (told old.first).faults ≤ (told new.first).faults
  pub second_faults : (told old.second).faults ≤ (told new.second).faults
  pub fault : o ≡ outcome.Fault → Rose (told old.first).faults (told new.first).faults ⊎ Rose (told old.second).faults (told new.second).faults

-- the disks of a party and of a spool
abbrev pub two_disks : {D : Type 0} → D → D → Disks D
two_disks first second = record { first = first; second = second }

-- the disks of a batch that was driven
abbrev pub driven_disks : {D : Type 0} → Driven D D → Disks D
driven_disks d = two_disks (party_disk d) (spool_disk d)

-- the outbox is handed out, or no memory was left for it
abbrev pub HandsOut : List ℕ → SpoolOutcome → Type 0
HandsOut text o = (o ≡ outcome.Done text) ⊎ (o ≡ outcome.NoMemory)

-- what is told of a batch that was driven
abbrev pub IsEnd : {D : Type 0} → (D → View) → Driven D D → SpoolOutcome → Type 0
IsEnd told (drive.Done node s) o = IsStore (told node.disk) node.gate node.end node.format node.party × IsSpool (told s.disk) s.gate s.end s.progress × HandsOut (outbox_of s.progress.plans) o
IsEnd told (drive.OutOfStep node s entry) o = o ≡ outcome.OutOfStep entry
IsEnd told (drive.NodeBroken b s) o = o ≡ outcome_of (cause_of b.cause)
IsEnd told (drive.SpoolBroken node b) o = o ≡ outcome_of (cause_of b.cause)
IsEnd told (drive.NoMemory node s) o = o ≡ outcome.NoMemory

-- a failure of the shelf as an outcome
abbrev pub failure_of : DiskErr → SpoolOutcome
failure_of disk.Fault = outcome.Fault
failure_of disk.NoMemory = outcome.NoMemory
