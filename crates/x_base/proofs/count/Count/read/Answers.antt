use Rattle.std.proofs.Common.{arith}
use Rattle.x_base.proofs.Digits.{count_read}
use Rattle.x_base.proofs.count.Count.read.Goals as goal

pub returns : goal.returns
returns c = rw c.ok_or.ensures.value (count_read c.args.bytes.now c.in-Some.value c.of.result _ (omega arith) c.in-Some.ensures c.of.ensures)
