use Rattle.std.proofs.Common.{◌≡◌, ◌<◌, ℕ, length, take}
use Rattle.des_slices.specs.Vectors.{AreVectors, lane, put_at, words_of}
use Rattle.des_slices.proofs.vector.put.Given as goal

abbrev pub invariant-loop-i : goal.invariant-loop-i
invariant-loop-i l = record {
  lanes : (n : ℕ) → n < 128 → lane n (words_of l.half) ≡ put_at (take l.i l.places) (take l.i (lane n (words_of l.vectors))) (lane n (words_of l.fn.half));
  vectors : AreVectors l.half;
  size : length l.half ≡ 32;
}
