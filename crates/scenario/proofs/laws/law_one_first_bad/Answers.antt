use Rattle.scenario.proofs.Judging.{one_first_bad}
use Rattle.scenario.proofs.laws.law_one_first_bad.Goals as goal

pub returns : goal.returns
returns c = one_first_bad
