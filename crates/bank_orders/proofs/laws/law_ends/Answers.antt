use Rattle.bank_orders.proofs.Ends.{ends_exactly, ends}
use Rattle.bank_orders.proofs.laws.law_ends.Goals as goal

pub returns-clause-exactly : goal.returns-clause-exactly
returns-clause-exactly c = λ p peer name moment. ends_exactly c.law_accept.ensures.held c.law_accept.ensures.accepted p peer name

pub returns-clause-ends : goal.returns-clause-ends
returns-clause-ends c = λ p peer name moment.
    ends c.law_accept.ensures.held c.law_accept.ensures.accepted (record { same = c.law_same.ensures.key; found = c.law_found.ensures.key; put = c.law_put.ensures.key })
    (record { put = c.law_put.ensures.exchange; drop = c.law_drop.ensures.exchange }) p peer name
