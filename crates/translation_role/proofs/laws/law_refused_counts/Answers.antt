use Rattle.translation_role.proofs.Serving.{answers_low, answers_spent, answers_no_other}
use Rattle.translation_role.proofs.laws.law_refused_counts.Goals as goal

pub returns-clause-low : goal.returns-clause-low
returns-clause-low c = answers_low

pub returns-clause-spent : goal.returns-clause-spent
returns-clause-spent c = answers_spent

pub returns-clause-others : goal.returns-clause-others
returns-clause-others c = answers_no_other
