use Rattle.std.proofs.Common.{◌≡◌, ◌*◌, ◌%◌, ◌<◌, ℕ, length}
use Rattle.des_slices.specs.Exchanges.{word_bit, place_from, vector_from}
use Rattle.des_slices.proofs.exchanges.exchange_level.Given as goal

abbrev pub invariant-loop-k : goal.invariant-loop-k
invariant-loop-k l = record {
  bits : (i w p : ℕ) → i < 2 * l.k → w < 2 → p < 64 → word_bit l.after i w p ≡ word_bit l.words (vector_from l.mask i p) w (place_from l.distance l.mask (i % 2) p);
  size : length l.after ≡ 64;
}
