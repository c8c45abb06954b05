use Rattle.bank_orders.proofs.Asks.{asks_exactly, asks_peer}
use Rattle.bank_orders.proofs.laws.law_asks.Goals as goal

pub returns-clause-exactly : goal.returns-clause-exactly
returns-clause-exactly c = λ p peer moment. asks_exactly c.law_accept.ensures.held c.law_accept.ensures.accepted p peer

pub returns-clause-asks : goal.returns-clause-asks
returns-clause-asks c = λ p peer moment. asks_peer p peer
