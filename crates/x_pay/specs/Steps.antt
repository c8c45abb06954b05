-- The steps of a call between the fetch of both disks and their put back: party and ledger are opened, and the ledger acts (this
-- project's profile).
use Rattle.std.specs.Prelude.{◌≡◌, ◌⊎◌, ℕ, ◌≤◌, List, Ok}
use Rattle.x_base.specs.Edge.{Rose}
use Rattle.x_disk.specs.Disk.{View}
use Rattle.x_disk.specs.declared.disk.DiskErr.{DiskErr}
use Rattle.x_disk.specs.declared.disk.DiskErr.TheVariants as disk
use Rattle.key_journal.specs.declared.cause.Cause.{Cause}
use Rattle.key_journal.specs.declared.cause.Cause.TheVariants as cause
use Rattle.key_store.specs.Store.{Stored}
use Rattle.node_core.specs.Named.{IsOpenedNamed}
use Rattle.node_core.specs.declared.named.WhyNotOpened.{WhyNotOpened}
use Rattle.node_core.specs.declared.named.WhyNotOpened.TheVariants as why
use Rattle.disk_pair.specs.declared.disks.Disks.{Disks}
use Rattle.pay_auth.specs.declared.turn.PayTurn.{PayTurn}
use Rattle.pay_auth.specs.declared.turn.PayTurn.TheVariants as turn
use Rattle.pay_auth.specs.Ledgers.{LedgerView}
use Rattle.pay_auth.specs.Opening.{IsLedgerOpened}
use Rattle.key_journal.specs.Causes.{cause_of}
use Rattle.x_pay.specs.Outcomes.{Payment, MakesPayment, IsSafePayment}
use Rattle.x_pay.specs.declared.outcome.PayOutcome.{PayOutcome}
use Rattle.x_pay.specs.declared.outcome.PayOutcome.TheVariants as outcome

-- the outcome where a disk isn't opened
abbrev pub outcome_of : Cause → PayOutcome
outcome_of cause.Blank = outcome.Blank
outcome_of cause.NotEmpty = outcome.Damaged 0
outcome_of (cause.Damaged place) = outcome.Damaged place
outcome_of cause.Fault = outcome.Fault
outcome_of cause.NoMemory = outcome.NoMemory

-- and where the party of the name isn't opened
abbrev pub outcome_of_why : List ℕ → WhyNotOpened → PayOutcome
outcome_of_why name (why.OtherParty found) = outcome.OtherParty name found
outcome_of_why name (why.Unmade reason) = outcome_of reason

-- what is left of a turn: the ledger's disk, and the outcome
abbrev pub turn_disk : {D : Type 0} → PayTurn D → D
turn_disk (turn.Done ledger out) = ledger.disk
turn_disk (turn.Refused ledger why) = ledger.disk
turn_disk (turn.Broken b) = b.disk
turn_disk (turn.NoMemory ledger) = ledger.disk

abbrev pub outcome_of_turn : {D : Type 0} → PayTurn D → PayOutcome
outcome_of_turn (turn.Done ledger out) = outcome.Done out
outcome_of_turn (turn.Refused ledger why) = outcome.Refused why
outcome_of_turn (turn.Broken b) = outcome_of (cause_of b.cause)
outcome_of_turn (turn.NoMemory ledger) = outcome.NoMemory

-- what a payment did to the two disks
pub record HasActed {D : Type 0} (w : Payment) (name : List ℕ) (told : D → View) (old new : Disks D) (o : PayOutcome) : Type 0 where
  pub makes : MakesPayment w name (told old.first) (told old.second) (told new.second) o
  pub safe : IsSafePayment w name (told old.first) (told new.first) (told old.second) (told new.second)
  pub first_faults : (told old.first).faults ≤ (told new.first).faults
  pub second_faults : (told old.second).faults ≤ (told new.second).faults
  pub fault : o ≡ outcome.Fault → Rose (told old.first).faults (told new.first).faults ⊎ Rose (told old.second).faults (told new.second).faults

-- a failure of the shelf as an outcome
abbrev pub failure_of : DiskErr → PayOutcome
failure_of disk.Fault = outcome.Fault
failure_of disk.NoMemory = outcome.NoMemory

-- the party of the name and its ledger are opened
pub record AreOpened {D : Type 0} (told : D → View) (name : List ℕ) (old : Disks D) (node : Stored D) (book : LedgerView D) : Type 0 where
  pub party : IsOpenedNamed told name old.first node
  pub ledger : IsLedgerOpened told old.second (Ok book)
