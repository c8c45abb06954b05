use Rattle.translation_role.proofs.Early.{lead_none}
use Rattle.translation_role.proofs.laws.law_translation_lead.Goals as goal

pub returns : goal.returns
returns c = lead_none c.law_arrived.ensures
