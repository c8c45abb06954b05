use Rattle.member.proofs.Taking.{takes}
use Rattle.member.proofs.laws.law_taking.Goals as goal

pub returns : goal.returns
returns c = takes c.law_accept.ensures.held c.law_bank_taking.ensures
