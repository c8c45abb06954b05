use Rattle.std.proofs.Common.{◌≡◌}
use Rattle.bench_c.specs.Chain.{chained}
use Rattle.bench_c.proofs.bench_chain.Given as goal

-- the block that is reached
abbrev pub invariant-chaining : goal.invariant-chaining
invariant-chaining l = l.last ≡ chained l.key l.block l.counter
