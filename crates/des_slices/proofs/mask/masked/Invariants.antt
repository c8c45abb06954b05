use Rattle.std.proofs.Common.{◌≡◌, ◌<◌, ◌&&◌, ℕ, length, map, take}
use Rattle.des_slices.specs.declared.vector.Vector.{Vector}
use Rattle.des_slices.specs.Vectors.{AreVectors, lane, lane_bit, words_of}
use Rattle.des_slices.proofs.mask.masked.Given as goal

abbrev pub invariant-loop-i : goal.invariant-loop-i
invariant-loop-i l = record {
  lanes : (n : ℕ) → n < 128 → map (λ (v : Vector). lane_bit n v.words) (take l.i l.result) ≡ take l.i (map (λ b. b && lane_bit n l.mask.words) (lane n (words_of l.half)));
  vectors : AreVectors l.result;
  size : length l.result ≡ 32;
}
