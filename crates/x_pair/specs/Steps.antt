-- The steps of a call between the fetch of both disks and their put back: the pair is opened and acts (this project's profile).
use Rattle.std.specs.Prelude.{◌≡◌, ◌⊎◌, ◌≤◌, None}
use Rattle.x_base.specs.Edge.{Rose}
use Rattle.x_base.specs.declared.verdict.Verdict.TheVariants as verdict
use Rattle.x_disk.specs.Disk.{View}
use Rattle.x_disk.specs.declared.disk.DiskErr.{DiskErr}
use Rattle.x_disk.specs.declared.disk.DiskErr.TheVariants as disk
use Rattle.key_journal.specs.declared.cause.Cause.{Cause}
use Rattle.key_journal.specs.declared.cause.Cause.TheVariants as cause
use Rattle.party_state.specs.State.{Party}
use Rattle.disk_pair.specs.declared.disks.Disks.{Disks}
use Rattle.mirror_store.specs.declared.pair.PairCause.{PairCause}
use Rattle.mirror_store.specs.declared.pair.PairCause.TheVariants.{First, Second, OtherParty, TooLarge}
use Rattle.mirror_store.specs.declared.mirror.PairTurn.{PairTurn}
use Rattle.mirror_store.specs.declared.mirror.PairTurn.TheVariants as turn
use Rattle.x_party.specs.declared.outcome.Outcome.{Outcome}
use Rattle.x_party.specs.declared.outcome.Outcome.TheVariants as outcome
use Rattle.x_pair.specs.Outcomes.{Work, MakesPair, IsSafePair}
use Rattle.x_pair.specs.Creations.{CreatesPair, IsSafeCreation}

-- the outcome where a disk isn't made or opened, or failed
abbrev pub outcome_of_cause : Cause → Outcome
outcome_of_cause cause.Blank = outcome.Refused verdict.Blank None
outcome_of_cause cause.NotEmpty = outcome.Refused verdict.NotEmpty None
outcome_of_cause (cause.Damaged place) = outcome.Damaged place
outcome_of_cause cause.Fault = outcome.Fault
outcome_of_cause cause.NoMemory = outcome.NoMemory

-- where a pair isn't
abbrev pub outcome_of_pair : PairCause → Outcome
outcome_of_pair (First reason) = outcome_of_cause reason
outcome_of_pair (Second reason) = outcome_of_cause reason
outcome_of_pair (OtherParty one other) = outcome.OtherParty one other
outcome_of_pair TooLarge = outcome.Refused verdict.JournalFull None

-- the outcome of what became of a turn
abbrev pub outcome_of_turn : {D : Type 0} → PairTurn D → Outcome
outcome_of_turn (turn.Done m reply under) = outcome.Done reply
outcome_of_turn (turn.Refused m said reply under) = outcome.Refused said reply
outcome_of_turn (turn.Broken u) = outcome_of_pair u.cause
outcome_of_turn (turn.NoMemory m) = outcome.NoMemory

-- a failure of the shelf as an outcome
abbrev pub failure_of : DiskErr → Outcome
failure_of disk.Fault = outcome.Fault
failure_of disk.NoMemory = outcome.NoMemory

-- the faults of the two disks: a fault is told only where those of one rose
pub record HasFaults {D : Type 0} (told : D → View) (old new : Disks D) (o : Outcome) : Type 0 where
  pub first_later : (told old.first).faults ≤ (told new.first).faults
  pub second_later : (told old.second).faults ≤ (told new.second).faults
  pub fault : o ≡ outcome.Fault → Rose (told old.first).faults (told new.first).faults ⊎ Rose (told old.second).faults (told new.second).faults

-- what a call did to the two disks
pub record HasActed {D : Type 0} (w : Work) (told : D → View) (old new : Disks D) (o : Outcome) : Type 0 where
  pub makes : MakesPair w (told old.first) (told old.second) (told new.first) (told new.second) o
  pub safe : IsSafePair w (told old.first) (told old.second) (told new.first) (told new.second)
  pub faults : HasFaults told old new o

-- what creating a party did to them
pub record HasCreated {D : Type 0} (party : Party) (told : D → View) (old new : Disks D) (o : Outcome) : Type 0 where
  pub makes : CreatesPair party (told old.first) (told old.second) (told new.first) (told new.second) o
  pub safe : IsSafeCreation party (told old.first) (told old.second) (told new.first) (told new.second)
  pub faults : HasFaults told old new o
