use Rattle.translation_role.proofs.Serving.{translates_exactly, returns_keys}
use Rattle.translation_role.proofs.laws.law_translates.Goals as goal

pub returns-clause-exactly : goal.returns-clause-exactly
returns-clause-exactly c = translates_exactly c.law_accept.ensures.held c.law_accept.ensures.accepted

pub returns-clause-returned : goal.returns-clause-returned
returns-clause-returned c = returns_keys (record { unsealed = c.law_unseals.ensures.unsealed; below = c.law_keys_below.ensures.unwrapped }) (record { same = c.law_same.ensures.link; found = c.law_found.ensures.link; put = c.law_put.ensures.link })
