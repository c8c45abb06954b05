use Rattle.std.proofs.Common.{refl, ◌∙◌}
use Rattle.x_des.proofs.KeyRows.{sums_none, sums_more}
use Rattle.x_des.proofs.round_keys.sums.Goals as goal

pub loop-n-init : goal.loop-n-init
loop-n-init c = sums_none c.args.rows.now c.args.bits

pub loop-n-preserved : goal.loop-n-preserved
loop-n-preserved c = λ i h. c.add.ensures i h ∙ sums_more c.args.rows.now c.args.bits c.loop-n.n i _ _ h refl (c.loop-n.invariant i h)
