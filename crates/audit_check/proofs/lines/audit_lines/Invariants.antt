use Rattle.std.proofs.Common.{take}
use Rattle.course.specs.Outcomes.{IsWithin}
use Rattle.audit_check.specs.States.{HoldsEach, LeadAll}
use Rattle.audit_check.proofs.lines.audit_lines.Given as goal

abbrev pub invariant-auditing : goal.invariant-auditing
invariant-auditing l = record {
  leads : LeadAll (take l.line-index l.lines) l.fn.state l.state;
  holds_each : HoldsEach l.state.parties;
  within : IsWithin l.state.now l.line-index;
}
