use Rattle.audit_check.proofs.Courses.{one_run, one_course}
use Rattle.audit_check.proofs.laws.law_one_run.Goals as goal

pub returns-clause-runs : goal.returns-clause-runs
returns-clause-runs c = one_run

pub returns-clause-leads : goal.returns-clause-leads
returns-clause-leads c = one_course
