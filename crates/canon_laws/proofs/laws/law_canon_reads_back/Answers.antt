use Rattle.canon_laws.proofs.Reading.{reads_back}
use Rattle.canon_laws.proofs.laws.law_canon_reads_back.Goals as goal

pub returns : goal.returns
returns c = reads_back c.law_written_read.ensures
