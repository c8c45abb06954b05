use Rattle.member.proofs.ByRole.{ranged}
use Rattle.member.proofs.laws.law_ranged.Goals as goal

pub returns : goal.returns
returns c = ranged c.law_bank_ranged.ensures c.law_ranged.ensures c.law_ranged-2.ensures
