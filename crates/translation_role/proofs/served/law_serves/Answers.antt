use Rattle.translation_role.proofs.Refusals.{serves_only, refuses_others}
use Rattle.translation_role.proofs.served.law_serves.Goals as goal

pub returns-clause-only : goal.returns-clause-only
returns-clause-only c = serves_only c.law_commands.ensures.exactly

pub returns-clause-loads : goal.returns-clause-loads
returns-clause-loads c = λ p d. c.law_commands.ensures.exactly p d

pub returns-clause-commands : goal.returns-clause-commands
returns-clause-commands c = λ p d n. c.law_commands.ensures.others p d n

pub returns-clause-arrivals : goal.returns-clause-arrivals
returns-clause-arrivals c = refuses_others c.law_unserved.ensures.answers c.law_unserved.ensures.others
