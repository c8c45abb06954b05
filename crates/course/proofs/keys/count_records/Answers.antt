use Rattle.std.proofs.Common.{◌+◌, ℕ, ◌∙◌, sym, ap, arith, slice_get}
use Rattle.course.proofs.Records.{records_more, one_at_most}
use Rattle.course.proofs.keys.count_records.Goals as goal

pub overflow_add-count : goal.overflow_add-count
overflow_add-count c =
    let one = one_at_most c.args.status (slice_get c.args.state.now.keys c.loop-i.i) in
    omega (arith, one, c.count_at-count.ensures, c.loop-i.invariant.few)

pub loop-i-preserved : goal.loop-i-preserved
loop-i-preserved c =
    let one = one_at_most c.args.status (slice_get c.args.state.now.keys c.loop-i.i) in
    record {
      counted = ap (λ (n : ℕ). n + c.count_at-count.result) c.loop-i.invariant.counted ∙ sym (records_more c.args.status c.args.state.now.keys c.loop-i.i c.count_at-count.result (omega arith) c.count_at-count.ensures);
      few = omega (arith, one, c.count_at-count.ensures, c.loop-i.invariant.few);
    }
