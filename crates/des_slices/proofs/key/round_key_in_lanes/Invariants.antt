use Rattle.std.proofs.Common.{◌≡◌, ◌<◌, ℕ, length, map, take}
use Rattle.x_des.specs.Bits.{bits_of}
use Rattle.des_slices.specs.declared.vector.Vector.{Vector}
use Rattle.des_slices.specs.Vectors.{AreVectors, lane_bit}
use Rattle.des_slices.proofs.key.round_key_in_lanes.Given as goal

abbrev pub invariant-loop-i : goal.invariant-loop-i
invariant-loop-i l = record {
  lanes : (n : ℕ) → n < 128 → map (λ (v : Vector). lane_bit n v.words) (take l.i l.bits) ≡ take l.i (bits_of 48 l.word);
  vectors : AreVectors l.bits;
  size : length l.bits ≡ 48;
}
