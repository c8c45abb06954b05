use Rattle.world_laws.proofs.Ended.Answers.{answers_added}
use Rattle.world_laws.proofs.Ended.Steps.{acceptances_added}
use Rattle.world_laws.proofs.laws.law_accepted.Goals as goal

pub returns-clause-answers : goal.returns-clause-answers
returns-clause-answers c = answers_added

pub returns-clause-acceptances : goal.returns-clause-acceptances
returns-clause-acceptances c = acceptances_added
