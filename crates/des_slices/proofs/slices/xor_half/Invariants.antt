use Rattle.std.proofs.Common.{◌≡◌, ◌<◌, ℕ, length}
use Rattle.des_slices.specs.Vectors.{AreVectors, lane, words_of}
use Rattle.des_slices.proofs.Rounds.{columns}
use Rattle.des_slices.proofs.slices.xor_half.Given as goal

abbrev pub invariant-loop-i : goal.invariant-loop-i
invariant-loop-i l = record {
  lanes : (n : ℕ) → n < 128 → lane n (words_of l.half) ≡ columns l.side l.i (lane n (words_of l.bits)) (lane n (words_of l.fn.half));
  vectors : AreVectors l.half;
  size : length l.half ≡ 32;
}
