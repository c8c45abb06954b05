use Rattle.bank_keys.proofs.Taking.{takes_keys}
use Rattle.bank_keys.proofs.laws.law_taking.Goals as goal

pub returns : goal.returns
returns c = takes_keys c.law_accept.ensures.held c.law_accept.ensures.accepted c.law_counts.ensures.link c.law_counts.ensures.key (record { same = c.law_same.ensures.key; found = c.law_found.ensures.key; put = c.law_put.ensures.key })
