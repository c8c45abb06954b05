use Rattle.std.proofs.Common.{length}
use Rattle.csm_batch.proofs.Walking.{IsUnderWay}
use Rattle.csm_batch.proofs.reading.read_entries.Given as goal

abbrev pub invariant-loop-rest : goal.invariant-loop-rest
invariant-loop-rest l = IsUnderWay l.bytes l.rest l.lines l.entries.items

abbrev pub decreases-loop-rest : goal.decreases-loop-rest
decreases-loop-rest l = length l.rest
