use Rattle.std.proofs.Common.{◌≡◌, ◌⊎◌, Err, Result, sym, subst}
use Rattle.course.specs.declared.tally.Tally.{Tally}
use Rattle.call_ends.specs.declared.status.Status.{Status}
use Rattle.call_ends.specs.declared.status.Status.TheVariants as status
use Rattle.x917.proofs.Audits.{only_bad, only_read}
use Rattle.x917.proofs.auditing.find.Goals as goal

pub returns-in-Ok-clause-only : goal.returns-in-Ok-clause-only
returns-in-Ok-clause-only c = λ other found some.
    subst (λ (r : Result Tally Status). (r ≡ other) ⊎ (r ≡ Err status.NoMemory)) (sym c.found_of.ensures)
    (only_read c.args.bytes.now c.in-Ok.input c.scenario.result.now c.letters.result.now c.transcript.result.now c.scenario.ensures c.letters.ensures.value c.transcript.ensures
    c.in-Ok.ensures.only c.audit.result c.audit.ensures.only other found some)

pub returns-in-Err-BadLine-clause-only : goal.returns-in-Err-BadLine-clause-only
returns-in-Err-BadLine-clause-only c =
    rw c.in-Err-BadLine.field-0-is (only_bad c.args.bytes.now c.in-Err-BadLine.number (rw c.in-Err-BadLine.field-0-is at c.in-Err-BadLine.ensures.only))
