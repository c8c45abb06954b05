use Rattle.distribution_role.proofs.Giving.{gives_asked, gives_again}
use Rattle.distribution_role.proofs.laws.law_gives.Goals as goal

pub returns-clause-requests : goal.returns-clause-requests
returns-clause-requests c = gives_asked (record { unwrapped = c.law_unwraps.ensures.unwrapped; unsealed = c.law_unseals.ensures.unsealed; odd = c.law_draws_odd.ensures }) c.law_accept.ensures.held (record { same = c.law_same.ensures.link; found = c.law_found.ensures.link; put = c.law_put.ensures.link }) (record { same = c.law_same.ensures.answer; put = c.law_put.ensures.answer })

pub returns-clause-again : goal.returns-clause-again
returns-clause-again c = gives_again (record { unwrapped = c.law_unwraps.ensures.unwrapped; unsealed = c.law_unseals.ensures.unsealed; odd = c.law_draws_odd.ensures }) c.law_accept.ensures.held (record { same = c.law_same.ensures.link; found = c.law_found.ensures.link; put = c.law_put.ensures.link }) (record { same = c.law_same.ensures.answer; put = c.law_put.ensures.answer })
