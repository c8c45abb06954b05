use Rattle.std.proofs.Common.{sym, ◌∙◌}
use Rattle.scenario.proofs.Walking.{few_lines, is_first_bad, one_more}
use Rattle.scenario.proofs.reading.take_all.Goals as goal

pub returns-in-Ok-false-clause-fault : goal.returns-in-Ok-false-clause-fault
returns-in-Ok-false-clause-fault c =
    is_first_bad c.args.bytes.now c.loop-rest.rest.now c.first_row.result.2.now c.loop-rest.lines c.loop-rest.draft
    (record { line = c.first_row.result.0.now; ended = c.first_row.result.1 })
    c.loop-rest.invariant c.first_row.ensures.rows c.first_row.ensures.size (sym c.in-Ok-false.field-0-test ∙ c.in-Ok-false.ensures.told)

pub loop-rest-preserved : goal.loop-rest-preserved
loop-rest-preserved c =
    one_more c.args.bytes.now c.loop-rest.rest.now c.first_row.result.2.now c.loop-rest.lines c.loop-rest.draft c.take.new.draft
    (record { line = c.first_row.result.0.now; ended = c.first_row.result.1 })
    c.loop-rest.invariant c.first_row.ensures.rows c.first_row.ensures.size (sym c.in-Ok-true.field-0-test ∙ c.in-Ok-true.ensures.told)
    (c.in-Ok-true.ensures.lines c.in-Ok-true.field-0-test) (c.in-Ok-true.ensures.draft c.in-Ok-true.field-0-test)

pub returns-clause-few : goal.returns-clause-few
returns-clause-few c = few_lines c.args.bytes.now c.loop-rest.rest.now c.loop-rest.lines c.loop-rest.draft c.loop-rest.invariant
