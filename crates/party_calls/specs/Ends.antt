-- How a call over a party ends (this project's profile).
use Rattle.std.specs.Prelude.{◌≡◌, ℕ, List, Option}
use Rattle.x_party.specs.declared.outcome.Outcome.{Outcome}
use Rattle.x_party.specs.declared.outcome.Outcome.TheVariants as outcome
use Rattle.call_ends.specs.declared.status.Refusal.TheVariants.{Decided, OtherBatch, OtherParty, OutOfStep, Pay, Unlike, Unplanned}
use Rattle.call_ends.specs.declared.status.Status.{Status}
use Rattle.call_ends.specs.declared.status.Status.TheVariants as status
use Rattle.call_ends.specs.Puts.{Puts}

-- the status of an outcome
abbrev pub status_of_outcome : Outcome → Status
status_of_outcome (outcome.Done reply) = status.Done
status_of_outcome (outcome.Refused verdict reply) = status.Refused (Decided verdict)
status_of_outcome (outcome.OtherParty asked found) = status.Refused (OtherParty asked found)
status_of_outcome (outcome.Damaged place) = status.Damaged place
status_of_outcome outcome.Fault = status.DiskFault
status_of_outcome outcome.NoMemory = status.NoMemory

-- a call with this outcome ends so
abbrev pub Ends : Outcome → List ℕ → Status → Option (List ℕ) → Option (List ℕ) → Type 0
Ends (outcome.Done reply) ending s before after = Puts reply ending status.Done s before after
Ends (outcome.Refused verdict reply) ending s before after = Puts reply ending (status.Refused (Decided verdict)) s before after
Ends (outcome.OtherParty asked found) ending s before after = (s ≡ status.Refused (OtherParty asked found)) × (after ≡ before)
Ends (outcome.Damaged place) ending s before after = (s ≡ status.Damaged place) × (after ≡ before)
Ends outcome.Fault ending s before after = (s ≡ status.DiskFault) × (after ≡ before)
Ends outcome.NoMemory ending s before after = (s ≡ status.NoMemory) × (after ≡ before)

-- the statuses that come of a party which answered; `WriteFault` comes behind its answer
abbrev pub IsOfParty : Status → Type 0
IsOfParty status.Done = Unit {0}
IsOfParty (status.Refused (Decided verdict)) = Unit {0}
IsOfParty (status.Refused (OtherParty asked found)) = Unit {0}
IsOfParty (status.Refused (Pay cause)) = Unit {0}
IsOfParty (status.Refused Unlike) = Unit {0}
IsOfParty (status.Refused OtherBatch) = Unit {0}
IsOfParty (status.Refused (OutOfStep entry)) = Unit {0}
IsOfParty (status.Refused (Unplanned missing)) = Unit {0}
IsOfParty (status.Damaged place) = Unit {0}
IsOfParty status.WriteFault = Unit {0}
IsOfParty s = ⊥
