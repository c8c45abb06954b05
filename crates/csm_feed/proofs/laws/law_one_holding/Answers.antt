use Rattle.csm_feed.proofs.Cutting.{one_holding}
use Rattle.csm_feed.proofs.laws.law_one_holding.Goals as goal

pub returns : goal.returns
returns c = one_holding c.law_one_answer.ensures c.law_read_stays.ensures
