use Rattle.std.proofs.Common.{arith}
use Rattle.replay.proofs.Gathering.{keys_counted}
use Rattle.replay.proofs.keys.count_keys.Goals as goal

pub overflow_add-count : goal.overflow_add-count
overflow_add-count g c = omega (arith, c.requires.few, c.count_in-count.ensures.few, c.loop-place.invariant.few)

pub loop-place-preserved : goal.loop-place-preserved
loop-place-preserved g c =
    let held = c.view_at.ensures.party in
    record {
      counted = keys_counted c.args.parties.now c.loop-place.place held.0 c.view_at.result.now (omega arith) held.1 held.2
          c.args.status c.loop-place.count c.count_in-count.result c.loop-place.invariant.counted c.count_in-count.ensures.count;
      few = omega (arith, c.count_in-count.ensures.few, c.loop-place.invariant.few);
    }
