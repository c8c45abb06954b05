use Rattle.role_base.proofs.Settling.{done, undone, together}
use Rattle.role_base.proofs.laws.law_settling.Goals as goal

pub returns-clause-done : goal.returns-clause-done
returns-clause-done c = done

pub returns-clause-undone : goal.returns-clause-undone
returns-clause-undone c = undone c.law_differing.ensures.needed c.law_differing.ensures.begun

pub returns-clause-together : goal.returns-clause-together
returns-clause-together c = together
