use Rattle.scenario.proofs.Judging.{has_reading}
use Rattle.scenario.proofs.laws.law_has_reading.Goals as goal

pub returns : goal.returns
returns c = has_reading
