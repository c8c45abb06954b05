use Rattle.std.proofs.Common.{◌≡◌}
use Rattle.role_base.specs.Differing.{differing}
use Rattle.role_base.proofs.decisions.differing.Given as goal

abbrev pub invariant-loop-edit : goal.invariant-loop-edit
invariant-loop-edit l = l.change ≡ differing l.state l.yielded
