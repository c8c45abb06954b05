use Rattle.std.proofs.Common.{arith}
use Rattle.std.proofs.lemmas.List.{take_rest}
use Rattle.x_base.proofs.Pieces.{put_more}
use Rattle.x_base.proofs.sink.put_all.Goals as goal

pub loop-at-preserved : goal.loop-at-preserved
loop-at-preserved g c = record {
  bound = grind (arith, c.in_ok-n.ensures.bound);
  wrote = put_more _ _ _ c.args.text.now c.loop-at.at c.in_ok-n.n c.loop-at.invariant.wrote (rw take_rest at c.in_ok-n.ensures.appends);
  climbs = omega (arith, c.loop-at.invariant.climbs, c.put.ensures.climbs);
}
