use Rattle.std.proofs.Common.{◌≡◌, drop}
use Rattle.std.specs.Prelude.{codes}
use Rattle.csm_read.specs.Faults.{differs, front_fault}
use Rattle.csm_read.proofs.reading.front_fault.Given as goal

abbrev pub invariant-loop-i : goal.invariant-loop-i
invariant-loop-i l = front_fault l.bytes ≡ differs l.i (drop l.i l.bytes) (drop l.i (codes "CSM("))
