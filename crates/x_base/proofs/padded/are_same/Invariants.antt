-- Below the index the bytes are the same where it says so, and it says so where all are.
use Rattle.std.proofs.Common.{◌≡◌, IsTrue, take}
use Rattle.x_base.proofs.padded.are_same.Given as goal

abbrev pub invariant-loop-i : goal.invariant-loop-i
invariant-loop-i l = (IsTrue l.same → take l.i l.these ≡ take l.i l.others) × (l.these ≡ l.others → IsTrue l.same)
