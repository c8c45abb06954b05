use Rattle.std.proofs.Common.{◌≡◌, ◌+◌, ◌-◌, ◌≤◌, length, drop}
use Rattle.audit_check.specs.Answers.{in_common}
use Rattle.audit_check.proofs.comparison.common_length.Given as goal

abbrev pub invariant-common : goal.invariant-common
invariant-common l = record {
  rest : length (in_common l.a l.b) ≡ l.count + length (in_common (drop l.count l.a) (drop l.count l.b));
  within : l.count ≤ length l.a;
}

abbrev pub decreases-common : goal.decreases-common
decreases-common l = length l.a - l.count
