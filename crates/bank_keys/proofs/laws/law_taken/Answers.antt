use Rattle.bank_keys.proofs.NewTaken.{takes_new}
use Rattle.bank_keys.proofs.laws.law_taken.Goals as goal

pub returns : goal.returns
returns c = takes_new c.law_accept.ensures.held (record { same = c.law_same.ensures.link; found = c.law_found.ensures.link; put = c.law_put.ensures.link })
