use Rattle.std.proofs.Common.{take}
use Rattle.course.specs.Starts.{members_by}
use Rattle.audit_check.specs.States.{HoldsMembers}
use Rattle.audit_check.proofs.setting_up.set_up.Given as goal

abbrev pub invariant-setting : goal.invariant-setting
invariant-setting l = HoldsMembers l.parties (members_by l.lines (take l.line-index l.lines))
