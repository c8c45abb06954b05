use Rattle.std.proofs.Common.{◌-◌, length}
use Rattle.csm_read.specs.Building.{IsReading}
use Rattle.csm_read.proofs.reading.answer.Given as goal

abbrev pub invariant-loop-len : goal.invariant-loop-len
invariant-loop-len l = IsReading l.bytes l.place l.last l.fields.slots l.fields.left.bits

abbrev pub decreases-loop-len : goal.decreases-loop-len
decreases-loop-len l = length l.judged - l.place
