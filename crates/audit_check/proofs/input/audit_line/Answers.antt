use Rattle.std.proofs.Common.{◌∙◌, sym, arith}
use Rattle.audit_check.proofs.Reading.{one_more}
use Rattle.audit_check.proofs.input.audit_line.Goals as goal

pub overflow_add-lines : goal.overflow_add-lines
overflow_add-lines c = omega (arith, c.finding.invariant.few)

pub finding-preserved : goal.finding-preserved
finding-preserved c =
    one_more c.args.bytes.now c.finding.rest.now c.first_row.result.2.now c.finding.lines (record { line = c.first_row.result.0.now; ended = c.first_row.result.1 })
    c.finding.invariant c.first_row.ensures.rows c.first_row.ensures.size c.first_row.ensures.shorter (sym c.begins_audit.ensures ∙ c.if-begins_audit.false)
