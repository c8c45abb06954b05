use Rattle.std.proofs.Common.{◌≡◌, ◌++◌, take}
use Rattle.change_code.specs.Code.{edits_code}
use Rattle.change_code.proofs.encoding.put_edits.Given as goal

abbrev pub invariant-loop-i : goal.invariant-loop-i
invariant-loop-i l = l.out ≡ l.initial.out ++ edits_code (take l.i l.change)
