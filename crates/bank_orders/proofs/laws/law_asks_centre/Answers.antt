use Rattle.bank_orders.proofs.Asks.{asks_centre_exactly, asks_centre}
use Rattle.bank_orders.proofs.laws.law_asks_centre.Goals as goal

pub returns-clause-exactly : goal.returns-clause-exactly
returns-clause-exactly c = λ p centre u moment. asks_centre_exactly c.law_accept.ensures.held c.law_accept.ensures.accepted p centre u

pub returns-clause-asks : goal.returns-clause-asks
returns-clause-asks c = λ p centre u moment. asks_centre (record { put = c.law_put.ensures.exchange; drop = c.law_drop.ensures.exchange }) p centre u
