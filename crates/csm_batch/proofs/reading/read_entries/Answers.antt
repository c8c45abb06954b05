use Rattle.std.proofs.Common.{rules, ◌≡◌, ◌+◌, sym, subst, ◌∙◌}
use Rattle.csm_batch.specs.Batches.{IsFirstBad}
use Rattle.csm_batch.proofs.Walking.{begun, one_more, is_first_bad, all_read, all_sized}
use Rattle.csm_batch.proofs.reading.read_entries.Goals as goal

pub loop-rest-preserved : goal.loop-rest-preserved
loop-rest-preserved c =
    one_more c.args.bytes.now c.loop-rest.rest.now c.first_row-ended.result.2.now c.loop-rest.lines c.loop-rest.entries.items c.take.new.entries.items
    (record { line = c.first_row-ended.result.0.now; ended = c.first_row-ended.result.1 })
    c.loop-rest.invariant c.first_row-ended.ensures.rows c.first_row-ended.ensures.size (sym c.in-Ok-true.field-0-test ∙ c.in-Ok-true.ensures.told)
    (c.in-Ok-true.ensures.entries c.in-Ok-true.field-0-test)

pub returns-clause-sized : goal.returns-clause-sized
returns-clause-sized c = all_sized c.args.bytes.now c.loop-rest.rest.now c.loop-rest.lines c.loop-rest.entries.items c.loop-rest.invariant (search rules)

pub loop-rest-init : goal.loop-rest-init
loop-rest-init c = begun c.args.bytes.now c.new-entries.result.items (search rules)

pub returns-clause-good : goal.returns-clause-good
returns-clause-good c = all_read c.args.bytes.now c.loop-rest.rest.now c.loop-rest.lines c.loop-rest.entries.items c.loop-rest.invariant (search rules)

pub returns-in-Ok-false-clause-bad : goal.returns-in-Ok-false-clause-bad
returns-in-Ok-false-clause-bad c = λ number is.
    let same : c.loop-rest.lines + 1 ≡ number = cc is in
    subst (IsFirstBad c.args.bytes.now) same
    (is_first_bad c.args.bytes.now c.loop-rest.rest.now c.first_row-ended.result.2.now c.loop-rest.lines c.loop-rest.entries.items
    (record { line = c.first_row-ended.result.0.now; ended = c.first_row-ended.result.1 })
    c.loop-rest.invariant c.first_row-ended.ensures.rows c.first_row-ended.ensures.size (sym c.in-Ok-false.field-0-test ∙ c.in-Ok-false.ensures.told))
