use Rattle.std.proofs.Common.{◌≡◌, ◌<◌, ◌^◌, ℕ, false, get_or, not}
use Rattle.x_des.specs.Bits.{bit}
use Rattle.des_slices.proofs.mask.unset_bits.Given as goal

abbrev pub invariant-loop-i : goal.invariant-loop-i
invariant-loop-i l = record {
  bits : (k : ℕ) → k < l.i → bit l.word k ≡ not (get_or l.chosen k false);
  below : l.word < 2 ^ l.i;
}
