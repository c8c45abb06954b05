use Rattle.bank_arrivals.proofs.Heard.{heard_response, heard_end, heard_disconnection}
use Rattle.bank_arrivals.proofs.HeardErrors.{heard_error, heard_plain}
use Rattle.bank_arrivals.proofs.laws.law_heard.Goals as goal

pub returns-clause-response : goal.returns-clause-response
returns-clause-response c =
    heard_response c.law_accept.ensures.held
    (record { same = c.law_same.ensures.link; found = c.law_found.ensures.link; put = c.law_put.ensures.link })
    (record { same = c.law_same.ensures.key; found = c.law_found.ensures.key; put = c.law_put.ensures.key })
    (record { put = c.law_put.ensures.exchange; drop = c.law_drop.ensures.exchange })

pub returns-clause-end : goal.returns-clause-end
returns-clause-end c =
    heard_end c.law_accept.ensures.held
    (record { same = c.law_same.ensures.link; found = c.law_found.ensures.link; put = c.law_put.ensures.link })
    (record { same = c.law_same.ensures.key; found = c.law_found.ensures.key; put = c.law_put.ensures.key })
    (record { put = c.law_put.ensures.exchange; drop = c.law_drop.ensures.exchange })

pub returns-clause-error : goal.returns-clause-error
returns-clause-error c =
    heard_error c.law_accept.ensures.held
    (record { same = c.law_same.ensures.link; found = c.law_found.ensures.link; put = c.law_put.ensures.link })
    (record { same = c.law_same.ensures.key; found = c.law_found.ensures.key; put = c.law_put.ensures.key })
    (record { put = c.law_put.ensures.exchange; drop = c.law_drop.ensures.exchange }) c.law_drop.ensures.link

pub returns-clause-plain : goal.returns-clause-plain
returns-clause-plain c = heard_plain

pub returns-clause-disconnection : goal.returns-clause-disconnection
returns-clause-disconnection c =
    heard_disconnection c.law_accept.ensures.held
    (record { same = c.law_same.ensures.link; found = c.law_found.ensures.link; put = c.law_put.ensures.link })
    (record { same = c.law_same.ensures.key; found = c.law_found.ensures.key; put = c.law_put.ensures.key })
    (record { put = c.law_put.ensures.exchange; drop = c.law_drop.ensures.exchange })
