use Rattle.role_base.proofs.Sends.{sends}
use Rattle.role_base.proofs.laws.law_sends.Goals as goal

pub returns : goal.returns
returns c =
    sends c.law_unwraps.ensures.unwrapped c.law_draws_odd.ensures (record { same = c.law_same.ensures.link; found = c.law_found.ensures.link; put = c.law_put.ensures.link })
    (record { same = c.law_same.ensures.key; found = c.law_found.ensures.key; put = c.law_put.ensures.key }) (record { put = c.law_put.ensures.exchange; drop = c.law_drop.ensures.exchange })
