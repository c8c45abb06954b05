-- How an audit ends, and what is answered then.
use Rattle.std.specs.Prelude.{◌≡◌, ◌≢◌, List, ℕ, [], Result, Ok, Err}
use Rattle.course.specs.Tallies.{IsTallied}
use Rattle.course.specs.declared.tally.Tally.{Tally}
use Rattle.audit_check.specs.Answers.{transcript_of, line_of_difference}
use Rattle.audit_check.specs.Audits.{Audit}
use Rattle.audit_check.specs.declared.failure.Failure.{Failure}
use Rattle.audit_check.specs.declared.failure.Failure.TheVariants as failure
use Rattle.scenario.specs.declared.audit_fault.AuditFault.TheVariants as fault
use Rattle.audit_check.specs.declared.result.AuditResult.{AuditResult}
use Rattle.audit_check.specs.declared.result.AuditResult.TheVariants as answer

abbrev pub answer_of : Result Tally Failure → AuditResult
answer_of (Ok tally) = answer.Yes tally
answer_of (Err (failure.Wrong f)) = answer.No f
answer_of (Err failure.NoMemory) = answer.NoMemory

-- what may be answered behind the last line
abbrev pub IsBehind : List ℕ → Audit → AuditResult → Type 0
IsBehind transcript end (answer.Yes tally) = (end.letters ≡ []) × (transcript ≡ transcript_of end.course) × IsTallied end.course.now end.course.world.members tally
IsBehind transcript end (answer.No (fault.Letters n)) = (end.letters ≢ []) × (n ≡ end.course.now.number)
IsBehind transcript end (answer.No (fault.Differs line)) = (end.letters ≡ []) × (transcript ≢ transcript_of end.course) × (line ≡ line_of_difference (transcript_of end.course) transcript)
IsBehind transcript end (answer.No (fault.Forged n)) = ⊥
IsBehind transcript end (answer.No (fault.Impossible n)) = ⊥
IsBehind transcript end answer.NoMemory = Unit {0}
