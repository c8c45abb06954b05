use Rattle.std.proofs.Common.{◌≡◌, ◌++◌, take}
use Rattle.std.specs.List.{flat_map}
use Rattle.x_party.specs.Notices.{key_words}
use Rattle.x_party.proofs.wording.push_keys.Given as goal

abbrev pub invariant-loop-edit : goal.invariant-loop-edit
invariant-loop-edit l = l.out ≡ l.initial.out ++ flat_map key_words (take l.edit-index l.edits)
