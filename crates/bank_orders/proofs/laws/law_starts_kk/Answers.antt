use Rattle.bank_orders.proofs.StartsKk.{starts_kk_exactly, sends_kk}
use Rattle.bank_orders.proofs.laws.law_starts_kk.Goals as goal

pub returns-clause-exactly : goal.returns-clause-exactly
returns-clause-exactly c = starts_kk_exactly c.law_accept.ensures.held c.law_accept.ensures.accepted (record { same = c.law_same.ensures.link; found = c.law_found.ensures.link; put = c.law_put.ensures.link })

pub returns-clause-sends : goal.returns-clause-sends
returns-clause-sends c =
    sends_kk c.law_accept.ensures.held c.law_accept.ensures.accepted (record { same = c.law_same.ensures.link; found = c.law_found.ensures.link; put = c.law_put.ensures.link }) c.law_unwraps.ensures.unwrapped c.law_draws_odd.ensures
    (record { same = c.law_same.ensures.key; found = c.law_found.ensures.key; put = c.law_put.ensures.key }) (record { put = c.law_put.ensures.exchange; drop = c.law_drop.ensures.exchange })
