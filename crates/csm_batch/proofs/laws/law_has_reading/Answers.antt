use Rattle.csm_batch.proofs.Judged.{has_reading}
use Rattle.csm_batch.proofs.laws.law_has_reading.Goals as goal

pub returns : goal.returns
returns c = has_reading
