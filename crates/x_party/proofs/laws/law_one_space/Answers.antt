use Rattle.x_party.proofs.Spaces.{one_space}
use Rattle.x_party.proofs.laws.law_one_space.Goals as goal

pub returns : goal.returns
returns c = one_space c.law_one_finding.ensures.party c.law_one_finding.ensures.format c.law_one_list.ensures
