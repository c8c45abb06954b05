use Rattle.bank_orders.proofs.Asks.{translates_exactly, translates}
use Rattle.bank_orders.proofs.laws.law_sends_to_translate.Goals as goal

pub returns-clause-exactly : goal.returns-clause-exactly
returns-clause-exactly c = translates_exactly c.law_accept.ensures.held c.law_accept.ensures.accepted

pub returns-clause-sends : goal.returns-clause-sends
returns-clause-sends c =
    translates (record { put = c.law_put.ensures.exchange; drop = c.law_drop.ensures.exchange }) c.law_unwraps.ensures.unwrapped c.law_draws_odd.ensures
    (record { same = c.law_same.ensures.link; found = c.law_found.ensures.link; put = c.law_put.ensures.link }) c.law_accept.ensures.held c.law_accept.ensures.accepted
