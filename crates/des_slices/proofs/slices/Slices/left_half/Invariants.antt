use Rattle.std.proofs.Common.{◌≡◌, ◌*◌, ◌<◌, ◌^◌, ◌++◌, take}
use Rattle.x_des.specs.Bits.{bits_of, pick}
use Rattle.x_des.specs.Tables.{ip_inverse}
use Rattle.des_slices.specs.Vectors.{lane, words_of}
use Rattle.des_slices.proofs.slices.Slices.left_half.Given as goal

abbrev pub invariant-loop-i : goal.invariant-loop-i
invariant-loop-i l = record {
  so_far : bits_of (2 * l.i) l.half ≡ pick (take (2 * l.i) (take 32 ip_inverse)) (lane l.lane (words_of l.self-inside.left) ++ lane l.lane (words_of l.self-inside.right));
  below : l.half < 2 ^ (2 * l.i);
}
