use Rattle.bank_orders.proofs.Starts.{starts_exactly, starts}
use Rattle.bank_orders.proofs.laws.law_starts.Goals as goal

pub returns-clause-exactly : goal.returns-clause-exactly
returns-clause-exactly c = starts_exactly c.law_accept.ensures.held c.law_accept.ensures.accepted

pub returns-clause-sends : goal.returns-clause-sends
returns-clause-sends c =
    starts c.law_accept.ensures.held c.law_accept.ensures.accepted c.law_sends.ensures (record { same = c.law_same.ensures.link; found = c.law_found.ensures.link; put = c.law_put.ensures.link })
