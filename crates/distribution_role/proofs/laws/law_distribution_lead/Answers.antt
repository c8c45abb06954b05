use Rattle.distribution_role.proofs.Early.{lead_none}
use Rattle.distribution_role.proofs.laws.law_distribution_lead.Goals as goal

pub returns : goal.returns
returns c = lead_none c.law_arrived.ensures
