use Rattle.bank_arrivals.proofs.SendsTwins.{sends_twins, sends_twins_asked}
use Rattle.bank_arrivals.proofs.twin_laws.law_sends_twins.Goals as goal

pub returns-clause-sends : goal.returns-clause-sends
returns-clause-sends c =
    sends_twins c.law_unwraps.ensures.unwrapped c.law_draws_odd.ensures (record { same = c.law_same.ensures.link; found = c.law_found.ensures.link; put = c.law_put.ensures.link })
    (record { same = c.law_same.ensures.key; found = c.law_found.ensures.key; put = c.law_put.ensures.key }) (record { put = c.law_put.ensures.exchange; drop = c.law_drop.ensures.exchange })

pub returns-clause-asked : goal.returns-clause-asked
returns-clause-asked c =
    sends_twins_asked c.law_unwraps.ensures.unwrapped c.law_draws_odd.ensures (record { same = c.law_same.ensures.link; found = c.law_found.ensures.link; put = c.law_put.ensures.link })
    (record { same = c.law_same.ensures.key; found = c.law_found.ensures.key; put = c.law_put.ensures.key }) (record { put = c.law_put.ensures.exchange; drop = c.law_drop.ensures.exchange }) c.law_accept.ensures.held
