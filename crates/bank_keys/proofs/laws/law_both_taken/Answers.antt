use Rattle.bank_keys.proofs.BothTaken.{takes_two}
use Rattle.bank_keys.proofs.laws.law_both_taken.Goals as goal

pub returns : goal.returns
returns c = takes_two c.law_accept.ensures.held (record { same = c.law_same.ensures.link; found = c.law_found.ensures.link; put = c.law_put.ensures.link }) (record { same = c.law_same.ensures.key; found = c.law_found.ensures.key; put = c.law_put.ensures.key })
