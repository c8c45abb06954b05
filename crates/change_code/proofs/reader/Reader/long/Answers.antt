use Rattle.std.proofs.Common.{arith}
use Rattle.change_code.proofs.Names.{lacks_long_none, read_long_of}
use Rattle.change_code.proofs.reader.Reader.long.Goals as goal

pub returns-in_err-n-clause-code : goal.returns-in_err-n-clause-code
returns-in_err-n-clause-code c = rw c.from_residual.ensures (lacks_long_none _ c.in_err-n.ensures)

pub returns-clause-code : goal.returns-clause-code
returns-clause-code c = read_long_of (λ b. b.now) _ _ _ c.in_ok-n.n c.bytes.result (omega arith) c.in_ok-n.ensures (rw c.from.ensures at c.bytes.ensures)
