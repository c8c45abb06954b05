use Rattle.std.proofs.Common.{◌≡◌, take}
use Rattle.party_state.proofs.edit.copy_edits.Given as goal

-- the edits gone over stand in the copy
abbrev pub invariant-loop-edit : goal.invariant-loop-edit
invariant-loop-edit l = l.copy ≡ take l.edit-index l.edits
