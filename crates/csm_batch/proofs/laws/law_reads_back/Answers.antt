use Rattle.csm_batch.proofs.Back.{reads_back}
use Rattle.csm_batch.proofs.laws.law_reads_back.Goals as goal

pub returns : goal.returns
returns c = reads_back
