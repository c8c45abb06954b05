use Rattle.std.proofs.Common.{sym}
use Rattle.role_base.proofs.Failing.{some_failed_alone}
use Rattle.role_base.proofs.verdicts.verdict_of.Goals as goal

pub returns-in-Some : goal.returns-in-Some
returns-in-Some c = sym (some_failed_alone c.args.tests.now c.in-Some.verdict (sym c.in-Some.ensures))
