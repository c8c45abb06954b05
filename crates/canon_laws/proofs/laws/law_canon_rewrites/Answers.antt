use Rattle.canon_laws.proofs.Reading.{rewrites}
use Rattle.canon_laws.proofs.laws.law_canon_rewrites.Goals as goal

pub returns : goal.returns
returns c = rewrites c.law_one_answer.ensures c.law_canon_reads_back.ensures
