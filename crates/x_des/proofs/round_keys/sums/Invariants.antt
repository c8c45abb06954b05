use Rattle.std.proofs.Common.{◌≡◌, ℕ, ◌<◌, get_or}
use Rattle.x_des.specs.RoundKey.{added}
use Rattle.x_des.proofs.round_keys.sums.Given as goal

-- the rows of the first n bytes are added
abbrev pub invariant-loop-n : goal.invariant-loop-n
invariant-loop-n l = (i : ℕ) → i < 16 → get_or l.sums i 0 ≡ added l.rows l.bits l.n i
