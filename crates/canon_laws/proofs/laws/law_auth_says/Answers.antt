use Rattle.canon_laws.proofs.Saying.{auth_says}
use Rattle.canon_laws.proofs.laws.law_auth_says.Goals as goal

pub returns : goal.returns
returns c = auth_says c.law_canon_reads_back.ensures c.law_read_says.ensures c.law_one_meaning.ensures
