use Rattle.std.proofs.Common.{◌≡◌, ℕ, ◌+◌, ◌%◌, ◌<◌, length, get_or}
use Rattle.x_base.proofs.ident.half.Given as goal

abbrev pub invariant-loop-place : goal.invariant-loop-place
invariant-loop-place l = record {
  sized : length l.half ≡ 8;
  repeats : (k : ℕ) → k < l.place → get_or l.half k 0 ≡ get_or l.name ((l.start + k) % length l.name) 0;
}
