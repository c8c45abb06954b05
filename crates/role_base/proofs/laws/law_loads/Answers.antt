use Rattle.role_base.proofs.Loads.{loads_exactly, leaves_loaded}
use Rattle.role_base.proofs.Ordered.{load_order}
use Rattle.role_base.proofs.laws.law_loads.Goals as goal

pub returns-clause-exactly : goal.returns-clause-exactly
returns-clause-exactly c = loads_exactly c.law_accept.ensures.held c.law_accept.ensures.accepted

pub returns-clause-order : goal.returns-clause-order
returns-clause-order c = load_order

pub returns-clause-leaves : goal.returns-clause-leaves
returns-clause-leaves c = leaves_loaded (record { same = c.law_same.ensures.link; found = c.law_found.ensures.link; put = c.law_put.ensures.link })
