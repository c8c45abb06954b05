use Rattle.std.proofs.Common.{length}
use Rattle.audit_check.proofs.Reading.{Searched}
use Rattle.audit_check.proofs.input.audit_line.Given as goal

abbrev pub invariant-finding : goal.invariant-finding
invariant-finding l = Searched l.bytes l.rest l.lines

abbrev pub decreases-finding : goal.decreases-finding
decreases-finding l = length l.rest
