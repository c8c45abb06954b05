use Rattle.std.proofs.Common.{length}
use Rattle.scenario.proofs.Walking.{IsUnderWay}
use Rattle.scenario.proofs.reading.take_all.Given as goal

abbrev pub invariant-loop-rest : goal.invariant-loop-rest
invariant-loop-rest l = IsUnderWay l.bytes l.rest l.lines l.draft

abbrev pub decreases-loop-rest : goal.decreases-loop-rest
decreases-loop-rest l = length l.rest
