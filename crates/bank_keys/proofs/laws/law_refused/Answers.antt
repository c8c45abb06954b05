use Rattle.bank_keys.proofs.Refused.{answers_refused, answers_no_other}
use Rattle.bank_keys.proofs.laws.law_refused.Goals as goal

pub returns-clause-answered : goal.returns-clause-answered
returns-clause-answered c = answers_refused c.law_found.ensures.link

pub returns-clause-others : goal.returns-clause-others
returns-clause-others c = answers_no_other
