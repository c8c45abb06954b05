use Rattle.role_base.proofs.CentreRefusals.{refuses_answer, refuses_other}
use Rattle.role_base.proofs.centre_laws.law_unserved.Goals as goal

pub returns-clause-answers : goal.returns-clause-answers
returns-clause-answers c = refuses_answer

pub returns-clause-others : goal.returns-clause-others
returns-clause-others c = refuses_other
