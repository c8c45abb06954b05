use Rattle.member.proofs.BankTaking.{takes}
use Rattle.member.proofs.bank_laws.law_bank_taking.Goals as goal

pub returns : goal.returns
returns c = takes c.law_taking.ensures
