use Rattle.std.proofs.Common.{refl, arith}
use Rattle.x_des.specs.Bits.{bits_of, pick}
use Rattle.x_des.proofs.BitsLemmas.{passed_step}
use Rattle.x_des.proofs.wiring.Wiring.pass.Goals as goal

pub loop-place-init : goal.loop-place-init
unfolding bits_of pick
loop-place-init g c = record { so_far = refl; below = omega arith }

pub loop-place-preserved : goal.loop-place-preserved
loop-place-preserved g c =
    let step = passed_step c.args.self.now.table c.args.self.now.width c.args.bits c.loop-place.passed c.loop-place.place-index c.args.self.now.entries (omega arith) (omega arith) c.loop-place.invariant.below c.loop-place.invariant.so_far in
    record { so_far = step.0; below = step.1 }
