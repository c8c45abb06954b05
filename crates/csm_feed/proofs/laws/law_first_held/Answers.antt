use Rattle.csm_feed.proofs.Cutting.{first_held}
use Rattle.csm_feed.proofs.laws.law_first_held.Goals as goal

pub returns : goal.returns
returns c = first_held c.law_one_answer.ensures c.law_read_stays.ensures
