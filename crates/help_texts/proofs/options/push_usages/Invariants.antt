use Rattle.std.proofs.Common.{◌≡◌, ◌++◌, take}
use Rattle.std.specs.List.{flat_map}
use Rattle.help_texts.specs.Lines.{usage_line}
use Rattle.help_texts.proofs.options.push_usages.Given as goal

-- the lines of the commands gone over are appended
abbrev pub invariant-loop-kind : goal.invariant-loop-kind
invariant-loop-kind l = l.out ≡ l.initial.out ++ flat_map usage_line (take l.kind-index l.kinds)
