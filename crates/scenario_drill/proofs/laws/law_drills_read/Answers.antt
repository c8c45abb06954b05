use Rattle.scenario_drill.proofs.Texts.{drills_read}
use Rattle.scenario_drill.proofs.laws.law_drills_read.Goals as goal

pub returns : goal.returns
returns c = drills_read
