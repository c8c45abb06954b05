use Rattle.bank_arrivals.proofs.Accepted.{disconnects_exactly}
use Rattle.bank_arrivals.proofs.Leaving.{leaves_exchange}
use Rattle.bank_arrivals.proofs.accepting.law_left.Goals as goal

pub returns : goal.returns
returns c = λ p a m k e s n.
    leaves_exchange (record { same = c.law_same.ensures.link; found = c.law_found.ensures.link; put = c.law_put.ensures.link })
    (record { same = c.law_same.ensures.key; found = c.law_found.ensures.key; put = c.law_put.ensures.key })
    (record { put = c.law_put.ensures.exchange; drop = c.law_drop.ensures.exchange }) c.law_drop.ensures.link p a m k ((disconnects_exactly c.law_accept.ensures.held c.law_accept.ensures.accepted
    (record { same = c.law_same.ensures.link; found = c.law_found.ensures.link; put = c.law_put.ensures.link })
    (record { same = c.law_same.ensures.key; found = c.law_found.ensures.key; put = c.law_put.ensures.key })
    (record { put = c.law_put.ensures.exchange; drop = c.law_drop.ensures.exchange }) c.law_drop.ensures.link p a m).0 e) s n
