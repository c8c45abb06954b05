use Rattle.world_laws.proofs.Counting.Taken.{once}
use Rattle.world_laws.proofs.laws.law_once.Goals as goal

pub returns : goal.returns
returns c = once
