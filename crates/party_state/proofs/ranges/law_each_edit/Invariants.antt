use Rattle.std.proofs.Common.{take}
use Rattle.party_state.specs.Formed.{AreFormed}
use Rattle.party_state.proofs.ranges.law_each_edit.Given as goal

abbrev pub invariant-loop-edit : goal.invariant-loop-edit
invariant-loop-edit l = AreFormed (take l.edit-index l.edits)
