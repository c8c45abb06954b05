use Rattle.std.proofs.Common.{◌≡◌, ◌<◌, ℕ, length, map, take}
use Rattle.std.specs.Simd.Lanes.{Each1}
use Rattle.des_slices.specs.Vectors.{IsVector, lane, lane_bit, words_of}
use Rattle.des_slices.proofs.Rounds.{six}
use Rattle.des_slices.proofs.round.six_bits.Given as goal

abbrev pub invariant-loop-i : goal.invariant-loop-i
invariant-loop-i l = record {
  lanes : (n : ℕ) → n < 128 → map (lane_bit n) (take l.i l.bits) ≡ take l.i (six l.turn (lane n (words_of l.half)) (lane n (words_of l.key)));
  vectors : Each1 IsVector l.bits;
  size : length l.bits ≡ 6;
}
