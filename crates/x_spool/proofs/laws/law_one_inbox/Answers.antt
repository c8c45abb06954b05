use Rattle.x_spool.proofs.Streams.{one_inbox}
use Rattle.x_spool.proofs.laws.law_one_inbox.Goals as goal

pub returns : goal.returns
returns c = one_inbox c.law_one_answer.ensures c.law_read_stays.ensures
