use Rattle.csm_spool.proofs.Steps.{begins, commit, carried}
use Rattle.csm_spool.proofs.laws.law_steps.Goals as goal

pub returns-clause-begins : goal.returns-clause-begins
returns-clause-begins c = begins

pub returns-clause-commit : goal.returns-clause-commit
returns-clause-commit c = commit

pub returns-clause-take : goal.returns-clause-take
returns-clause-take c = carried
