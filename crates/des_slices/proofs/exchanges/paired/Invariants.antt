use Rattle.std.proofs.Common.{◌≡◌, ◌+◌, ◌-◌, ◌*◌, ◌<◌, ℕ, [], get_or, length}
use Rattle.des_slices.proofs.exchanges.paired.Given as goal

abbrev pub invariant-loop-i : goal.invariant-loop-i
invariant-loop-i l = record {
  words : (k w : ℕ) → k < l.i → w < 2 → get_or (get_or l.words k []) w 0 ≡ get_or l.numbers (64 * w + (63 - k)) 0;
  size : length l.words ≡ 64;
}
