use Rattle.std.proofs.Common.{take}
use Rattle.role_base.specs.Apart.{AreDone}
use Rattle.role_base.proofs.redoing.are_done.Given as goal

abbrev pub invariant-loop-i : goal.invariant-loop-i
invariant-loop-i l = AreDone l.state (take l.i l.change)
