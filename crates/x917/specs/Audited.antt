-- What `audit` says (this project's profile). `left` and `rest` are what the source has before and after, `before` and `after`
-- what the sink has.
use Rattle.std.specs.Prelude.{◌≡◌, ◌⊎◌, ℕ, List, [], take, Result, Ok, Err, Option, Some, IfSome}
use Rattle.x_base.specs.Edge.{AppendsTo, WrotePrefix}
use Rattle.course.specs.Summary.{summary_of}
use Rattle.course.specs.declared.tally.Tally.{Tally}
use Rattle.audit_check.specs.Answers.{IsAudited, IsFault}
use Rattle.audit_check.specs.Inputs.{IsBadInput, IsAuditInput}
use Rattle.audit_check.specs.Parts.{Parts}
use Rattle.scenario.specs.declared.audit_fault.AuditFault.{AuditFault}
use Rattle.scenario.specs.declared.audit_fault.AuditFault.TheVariants.{Forged}
use Rattle.audit_check.specs.declared.result.AuditResult.{AuditResult}
use Rattle.audit_check.specs.declared.result.AuditResult.TheVariants as answer
use Rattle.call_ends.specs.declared.status.Refusal.TheVariants.{Audit}
use Rattle.call_ends.specs.declared.status.Status.{Status}
use Rattle.call_ends.specs.declared.status.Status.TheVariants as status
use Rattle.party_calls.specs.Dues.{IsOrNoMemory}
use Rattle.party_calls.specs.Obeys.{audit_limit}

-- the bytes of a source that are taken
abbrev pub audit_taken : List ℕ → List ℕ
audit_taken all = take audit_limit all

-- the bytes are a scenario with the letters of its stopped events and a transcript; the run with these outcomes exists, is
-- honest and has that transcript, with these numbers, and the laws hold of its end
pub record IsConfirmed (bytes : List ℕ) (tally : Tally) : Type 0 where
  pub parts : Parts
  pub input : IsAuditInput bytes parts
  pub audited : IsAudited parts.lines parts.letters parts.transcript tally

-- this is what is wrong first
pub record IsDenied (bytes : List ℕ) (fault : AuditFault) : Type 0 where
  pub parts : Parts
  pub input : IsAuditInput bytes parts
  pub wrong : IsFault parts.lines parts.letters parts.transcript fault

-- the status of what is wrong: a forged event has its own
abbrev pub status_of_fault : AuditFault → Status
status_of_fault (Forged event) = status.Forged event
status_of_fault fault = status.Refused (Audit fault)

-- what an answer of the auditor is found to be: the numbers of the run, or the status that says why it isn't confirmed
abbrev pub found_of : AuditResult → Result Tally Status
found_of (answer.Yes tally) = Ok tally
found_of (answer.No fault) = Err (status_of_fault fault)
found_of answer.NoMemory = Err status.NoMemory

-- nothing is confirmed of the bytes: this line of them is the first bad one, or this is wrong first, or no memory was left
abbrev pub IsUnconfirmed : List ℕ → Status → Type 0
IsUnconfirmed bytes s = ((number : ℕ) × IsBadInput bytes number × (s ≡ status.BadScenario number))
    ⊎ (((fault : AuditFault) × IsDenied bytes fault × (s ≡ status_of_fault fault)) ⊎ (s ≡ status.NoMemory))

-- this may be found of the bytes
abbrev pub IsFound : List ℕ → Result Tally Status → Type 0
IsFound bytes (Ok tally) = IsConfirmed bytes tally
IsFound bytes (Err s) = IsUnconfirmed bytes s

-- the source was read to its end, and had these bytes
abbrev pub ReadsBytes : Option (List ℕ) → Option (List ℕ) → List ℕ → Type 0
ReadsBytes left rest bytes = IfSome left (λ all. (bytes ≡ all) × (rest ≡ Some []))

-- the run is confirmed, and its summary was written
abbrev pub IsAuditDone : Option (List ℕ) → Option (List ℕ) → (List ℕ → Type 0) → Type 0
IsAuditDone left rest wrote = (bytes : List ℕ) × (tally : Tally) × ReadsBytes left rest bytes × IsConfirmed bytes tally × wrote (summary_of tally)

-- it isn't, by the bytes that are taken; or the source failed
abbrev pub IsNotAudited : Option (List ℕ) → Status → Type 0
IsNotAudited left s = (s ≡ status.ReadFault) ⊎ ((bytes : List ℕ) × IfSome left (λ all. bytes ≡ audit_taken all) × IsUnconfirmed bytes s)

-- what `audit` says: the run is confirmed and its summary is written, or a prefix of it where the sink fails; otherwise nothing
-- is written
abbrev pub IsAudit : Status → Option (List ℕ) → Option (List ℕ) → Option (List ℕ) → Option (List ℕ) → Type 0
IsAudit status.Done left rest before after = IsAuditDone left rest (AppendsTo before after)
IsAudit status.WriteFault left rest before after = IsAuditDone left rest (WrotePrefix before after)
IsAudit s left rest before after = IsNotAudited left s × (after ≡ before)

-- the status that is due of bytes, where no count of faults rises
pub record ExpectsAudit (bytes : List ℕ) (s : Status) : Type 0 where
  pub bad : (number : ℕ) → IsBadInput bytes number → IsOrNoMemory s (status.BadScenario number)
  pub confirmed : (tally : Tally) → IsConfirmed bytes tally → IsOrNoMemory s status.Done
  pub denied : (fault : AuditFault) → IsDenied bytes fault → IsOrNoMemory s (status_of_fault fault)
