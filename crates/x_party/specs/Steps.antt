-- The steps of a call: the disk is fetched and opened, the party acts, and the disk is put back (this project's profile).
use Rattle.std.specs.Prelude.{◌≡◌, ◌⊎◌, ℕ, ◌<◌, ◌≤◌, cond, List, Option, Some, None}
use Rattle.x_base.specs.Edge.{Rose}
use Rattle.x_base.specs.declared.verdict.Verdict.{Verdict}
use Rattle.x_base.specs.declared.verdict.Verdict.TheVariants.{NotEmpty, Blank}
use Rattle.x_disk.specs.Disk.{View, Tells, LeavesOnly, IsUntouched}
use Rattle.x_disk.specs.Shelf.{ShelfView, IsAlike, OthersStay}
use Rattle.key_journal.specs.Causes.{cause_of}
use Rattle.key_journal.specs.declared.cause.Cause.{Cause}
use Rattle.key_journal.specs.declared.cause.Cause.TheVariants as cause
use Rattle.party_state.specs.State.{Party}
use Rattle.party_show.specs.Show.{shown}
use Rattle.party_state.specs.Verdicts.{is_accept}
use Rattle.key_journal.specs.States.{WritesOnlyToBlank}
use Rattle.change_code.specs.declared.format.Format.{Format}
use Rattle.key_store.specs.Store.{IsStore, IsBlankOrFirst}
use Rattle.node_core.specs.declared.node.Turn.{Turn}
use Rattle.node_core.specs.declared.node.Turn.TheVariants as turn
use Rattle.x_party.specs.Images.{StillTells}
use Rattle.x_party.specs.Outcomes.{IsNoFailure, IsNobody, IsDamaged, IsCreated, IsNotEmpty}
use Rattle.x_party.specs.declared.outcome.Outcome.{Outcome}
use Rattle.x_party.specs.declared.outcome.Outcome.TheVariants as outcome

-- the outcome where a disk isn't opened, or no party is set up on it
abbrev pub outcome_of : Cause → Outcome
outcome_of cause.Blank = outcome.Refused Blank None
outcome_of cause.NotEmpty = outcome.Refused NotEmpty None
outcome_of (cause.Damaged place) = outcome.Damaged place
outcome_of cause.Fault = outcome.Fault
outcome_of cause.NoMemory = outcome.NoMemory

-- why no party is opened
abbrev pub HasNoParty : View → View → Outcome → Type 0
HasNoParty old new (outcome.Done reply) = ⊥
HasNoParty old new (outcome.Refused verdict reply) = IsNobody old new verdict reply
HasNoParty old new (outcome.OtherParty asked found) = ⊥
HasNoParty old new (outcome.Damaged place) = IsDamaged old new place
HasNoParty old new outcome.Fault = Unit {0}
HasNoParty old new outcome.NoMemory = Unit {0}

-- from the disk on the shelf to the open one, which stands for this party
pub record IsOpened (old now : View) (gate end : ℕ) (format : Format) (party : Party) : Type 0 where
  pub store : IsStore now gate end format party
  pub untouched : IsUntouched old now

-- no party is opened, and the disk is back on the shelf
pub record IsNotOpened (old new : View) (o : Outcome) : Type 0 where
  pub untouched : IsUntouched old new
  pub refused : HasNoParty old new o

-- the outcome with this verdict
abbrev pub outcome_with : Verdict → Option (List ℕ) → Outcome
outcome_with verdict reply = cond (is_accept verdict) (outcome.Done reply) (outcome.Refused verdict reply)

-- the outcome of what became of a node
abbrev pub outcome_of_turn : {D : Type 0} → Turn D → Outcome
outcome_of_turn (turn.Done node verdict reply under) = outcome_with verdict reply
outcome_of_turn (turn.Broken b) = outcome_of (cause_of b.cause)
outcome_of_turn (turn.NoMemory node) = outcome.NoMemory

-- the outcome, or an error of the put back in its place
abbrev pub IsOutcome : Outcome → ℕ → ℕ → Outcome → Type 0
IsOutcome o before after result = (result ≡ o) ⊎ (((result ≡ outcome.Fault) × Rose before after) ⊎ (result ≡ outcome.NoMemory))

-- the disk that tells this is put back under the name, with an outcome
pub record IsClosed (put : View) (name : List ℕ) (old new : ShelfView) (o result : Outcome) : Type 0 where
  pub disk : IsAlike put (new.entry name)
  pub outcome : IsOutcome o old.faults new.faults result
  pub back : IsNoFailure result → new.is_back name
  pub others : OthersStay name old.entry new.entry
  pub later : old.faults ≤ new.faults
  pub seen : 0 < put.faults → Rose old.faults new.faults

-- what creating a party did
abbrev pub MakesParty : View → View → Party → Outcome → Type 0
MakesParty now then p (outcome.Done reply) = IsCreated now then p reply
MakesParty now then p (outcome.Refused verdict reply) = IsNotEmpty now verdict reply
MakesParty now then p (outcome.OtherParty asked found) = ⊥
MakesParty now then p (outcome.Damaged place) = ⊥
MakesParty now then p outcome.Fault = Rose now.faults then.faults
MakesParty now then p outcome.NoMemory = Unit {0}

pub record HasCreated (now then : View) (p : Party) (o : Outcome) : Type 0 where
  pub makes : MakesParty now then p o
  pub nothing_written : WritesOnlyToBlank now then
  pub any_moment : Tells now → LeavesOnly now then (λ c. IsBlankOrFirst p c ⊎ now.may_leave c)
  pub tells : StillTells now then
  pub faults : now.faults ≤ then.faults

-- the lines in which the party is shown, or no memory for them
abbrev pub IsText : Party → Outcome → Type 0
IsText p (outcome.Done reply) = reply ≡ Some (shown p)
IsText p (outcome.Refused verdict reply) = ⊥
IsText p (outcome.OtherParty asked found) = ⊥
IsText p (outcome.Damaged place) = ⊥
IsText p outcome.Fault = ⊥
IsText p outcome.NoMemory = Unit {0}
