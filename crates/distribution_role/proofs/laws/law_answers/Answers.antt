use Rattle.distribution_role.proofs.Serving.{answers_requests, answers_again}
use Rattle.distribution_role.proofs.laws.law_answers.Goals as goal

pub returns-clause-requests : goal.returns-clause-requests
returns-clause-requests c = answers_requests c.law_accept.ensures.held c.law_accept.ensures.accepted

pub returns-clause-again : goal.returns-clause-again
returns-clause-again c = answers_again c.law_accept.ensures.held c.law_accept.ensures.accepted
