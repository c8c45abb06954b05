use Rattle.std.proofs.Common.{◌≡◌, ◌++◌, take}
use Rattle.std.specs.List.{flat_map}
use Rattle.help_texts.specs.Lines.{optional_option}
use Rattle.help_texts.proofs.options.push_all_optional.Given as goal

-- the options gone over are appended
abbrev pub invariant-loop-opt : goal.invariant-loop-opt
invariant-loop-opt l = l.out ≡ l.initial.out ++ flat_map (optional_option l.initial.kind) (take l.opt-index l.opts)
