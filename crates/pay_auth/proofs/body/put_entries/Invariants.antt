use Rattle.std.proofs.Common.{◌≡◌, ◌++◌, take}
use Rattle.pay_auth.specs.Bodies.{entries_code}
use Rattle.pay_auth.proofs.body.put_entries.Given as goal

abbrev pub invariant-loop-i : goal.invariant-loop-i
invariant-loop-i l = l.out ≡ l.initial.out ++ entries_code (take l.i l.entries)
