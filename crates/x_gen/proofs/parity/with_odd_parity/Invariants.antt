use Rattle.std.specs.Int.{w64, to_be_bytes}
use Rattle.x_gen.specs.Parity.{odd_byte}
use Rattle.x_gen.proofs.OddLemmas.{MappedTo}
use Rattle.x_gen.proofs.parity.with_odd_parity.Given as goal

abbrev pub invariant-loop-byte : goal.invariant-loop-byte
invariant-loop-byte l = MappedTo odd_byte l.byte-index l.byte-items (to_be_bytes w64 l.key)
