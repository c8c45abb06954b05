use Rattle.std.proofs.Common.{◌≡◌, length, take}
use Rattle.des_slices.specs.Vectors.{AreVectors, words_of}
use Rattle.des_slices.proofs.vector.vectors_of.Given as goal

abbrev pub invariant-loop-i : goal.invariant-loop-i
invariant-loop-i l = record {
  words : words_of (take l.i l.vectors) ≡ take l.i l.words;
  vectors : AreVectors l.vectors;
  size : length l.vectors ≡ 64;
}
