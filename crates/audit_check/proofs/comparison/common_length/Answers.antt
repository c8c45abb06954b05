use Rattle.std.proofs.Common.{arith}
use Rattle.audit_check.proofs.Comparing.{second_ends}
use Rattle.audit_check.proofs.comparison.common_length.Goals as goal

pub returns-else-count-b : goal.returns-else-count-b
returns-else-count-b c = let none = second_ends c.args.a.now c.args.b.now c.common.count (omega arith) in omega (arith, c.common.invariant.rest, none)
