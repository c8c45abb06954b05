use Rattle.member.proofs.ByRole.{led}
use Rattle.member.proofs.laws.law_role_lead.Goals as goal

pub returns : goal.returns
returns c = led c.law_bank_lead.ensures c.law_distribution_lead.ensures c.law_translation_lead.ensures
