use Rattle.role_base.proofs.CentresApart.{order_apart, order_begins}
use Rattle.role_base.proofs.CentreRefusals.{commands_exactly, other_commands}
use Rattle.role_base.proofs.centre_laws.law_commands.Goals as goal

pub returns-clause-exactly : goal.returns-clause-exactly
returns-clause-exactly c = commands_exactly c.law_loads.ensures.exactly

pub returns-clause-others : goal.returns-clause-others
returns-clause-others c = other_commands

pub returns-clause-apart : goal.returns-clause-apart
returns-clause-apart c = order_apart

pub returns-clause-begins : goal.returns-clause-begins
returns-clause-begins c = order_begins
