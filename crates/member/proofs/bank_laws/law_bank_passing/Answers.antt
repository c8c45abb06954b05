use Rattle.member.proofs.BankTaking.{keys_pass}
use Rattle.member.proofs.bank_laws.law_bank_passing.Goals as goal

pub returns : goal.returns
returns c = keys_pass c.law_passing.ensures
