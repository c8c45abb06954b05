use Rattle.std.proofs.Common.{ap, ◌∙◌}
use Rattle.std.specs.Prelude.{is_none}
use Rattle.role_base.proofs.Failing.{passes_where}
use Rattle.role_base.proofs.verdicts.tests_pass.Goals as goal

pub returns-in-Some : goal.returns-in-Some
returns-in-Some c = ap is_none c.in-Some.ensures ∙ passes_where c.args.tests.now

pub returns-in-None : goal.returns-in-None
returns-in-None c = ap is_none c.in-None.ensures ∙ passes_where c.args.tests.now
