use Rattle.std.proofs.Common.{◌≡◌, ℕ, ◌<◌, get_or, length}
use Rattle.x_seal.specs.Offset.{spread_byte}
use Rattle.x_seal.proofs.offsetting.spread.Given as goal

-- the bytes below i are those of the spread count
abbrev pub invariant-loop-i : goal.invariant-loop-i
invariant-loop-i l = record {
  so_far : (k : ℕ) → k < l.i → get_or l.bytes k 0 ≡ spread_byte l.value k;
  eight : length l.bytes ≡ 8;
}
