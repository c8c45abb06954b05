use Rattle.bank_arrivals.proofs.Accepted.{confirms_exactly, confirms_end_exactly, complains_exactly, complains_plainly, disconnects_exactly}
use Rattle.bank_arrivals.proofs.Ordered.{rsm_silent}
use Rattle.bank_arrivals.proofs.accepting.law_accepts.Goals as goal

pub returns-clause-response : goal.returns-clause-response
returns-clause-response c =
    confirms_exactly c.law_accept.ensures.held c.law_accept.ensures.accepted
    (record { same = c.law_same.ensures.link; found = c.law_found.ensures.link; put = c.law_put.ensures.link })
    (record { same = c.law_same.ensures.key; found = c.law_found.ensures.key; put = c.law_put.ensures.key })
    (record { put = c.law_put.ensures.exchange; drop = c.law_drop.ensures.exchange }) c.law_drop.ensures.link

pub returns-clause-end : goal.returns-clause-end
returns-clause-end c =
    confirms_end_exactly c.law_accept.ensures.held c.law_accept.ensures.accepted
    (record { same = c.law_same.ensures.link; found = c.law_found.ensures.link; put = c.law_put.ensures.link })
    (record { same = c.law_same.ensures.key; found = c.law_found.ensures.key; put = c.law_put.ensures.key })
    (record { put = c.law_put.ensures.exchange; drop = c.law_drop.ensures.exchange }) c.law_drop.ensures.link

pub returns-clause-error : goal.returns-clause-error
returns-clause-error c =
    complains_exactly c.law_accept.ensures.held c.law_accept.ensures.accepted
    (record { same = c.law_same.ensures.link; found = c.law_found.ensures.link; put = c.law_put.ensures.link })
    (record { same = c.law_same.ensures.key; found = c.law_found.ensures.key; put = c.law_put.ensures.key })
    (record { put = c.law_put.ensures.exchange; drop = c.law_drop.ensures.exchange }) c.law_drop.ensures.link

pub returns-clause-plain : goal.returns-clause-plain
returns-clause-plain c =
    complains_plainly c.law_accept.ensures.held c.law_accept.ensures.accepted
    (record { same = c.law_same.ensures.link; found = c.law_found.ensures.link; put = c.law_put.ensures.link })
    (record { same = c.law_same.ensures.key; found = c.law_found.ensures.key; put = c.law_put.ensures.key })
    (record { put = c.law_put.ensures.exchange; drop = c.law_drop.ensures.exchange }) c.law_drop.ensures.link

pub returns-clause-disconnection : goal.returns-clause-disconnection
returns-clause-disconnection c =
    disconnects_exactly c.law_accept.ensures.held c.law_accept.ensures.accepted
    (record { same = c.law_same.ensures.link; found = c.law_found.ensures.link; put = c.law_put.ensures.link })
    (record { same = c.law_same.ensures.key; found = c.law_found.ensures.key; put = c.law_put.ensures.key })
    (record { put = c.law_put.ensures.exchange; drop = c.law_drop.ensures.exchange }) c.law_drop.ensures.link

pub returns-clause-silent : goal.returns-clause-silent
returns-clause-silent c = rsm_silent
