use Rattle.world_laws.proofs.Roles.Hearing.{heard_once}
use Rattle.world_laws.proofs.hearing.law_hearing.Goals as goal

pub returns : goal.returns
returns c = heard_once c.law_one_hearing.ensures
