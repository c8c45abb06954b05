use Rattle.csm_read.proofs.Written.{written_read}
use Rattle.csm_read.proofs.laws.law_written_read.Goals as goal

pub returns : goal.returns
returns c = written_read
