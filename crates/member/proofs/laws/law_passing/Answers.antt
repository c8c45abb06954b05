use Rattle.member.proofs.Taking.{keys_pass}
use Rattle.member.proofs.laws.law_passing.Goals as goal

pub returns : goal.returns
returns c = keys_pass c.law_accept.ensures.held c.law_bank_passing.ensures
