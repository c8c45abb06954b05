use Rattle.std.proofs.Common.{sym, arith}
use Rattle.csm_read.proofs.ReadSteps.{front_done}
use Rattle.csm_read.proofs.reading.front_fault.Goals as goal

pub returns : goal.returns
returns c = sym (front_done c.args.bytes.now c.loop-i.i (omega arith) c.loop-i.invariant)
