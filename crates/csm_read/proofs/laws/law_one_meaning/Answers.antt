use Rattle.csm_read.proofs.Lawful.{one_meaning}
use Rattle.csm_read.proofs.laws.law_one_meaning.Goals as goal

pub returns : goal.returns
returns c = one_meaning
