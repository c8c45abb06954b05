use Rattle.bank_orders.proofs.GivesUp.{gives_up_exactly, gives_up}
use Rattle.bank_orders.proofs.laws.law_gives_up.Goals as goal

pub returns-clause-exactly : goal.returns-clause-exactly
returns-clause-exactly c = λ p peer moment. gives_up_exactly p peer

pub returns-clause-leaves : goal.returns-clause-leaves
returns-clause-leaves c = λ p peer moment.
    gives_up (record { same = c.law_same.ensures.link; found = c.law_found.ensures.link; put = c.law_put.ensures.link }) (record { same = c.law_same.ensures.key; found = c.law_found.ensures.key; put = c.law_put.ensures.key })
    (record { put = c.law_put.ensures.exchange; drop = c.law_drop.ensures.exchange }) c.law_drop.ensures.link p peer
