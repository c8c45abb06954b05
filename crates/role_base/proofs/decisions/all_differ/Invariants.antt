use Rattle.std.proofs.Common.{◌≡◌, take}
use Rattle.role_base.specs.Differing.{differing}
use Rattle.role_base.proofs.decisions.all_differ.Given as goal

abbrev pub invariant-loop-edit : goal.invariant-loop-edit
invariant-loop-edit l = differing l.state (take l.edit-index l.edits) ≡ take l.edit-index l.edits
