use Rattle.pay_auth.proofs.Wholly.{one_pay}
use Rattle.pay_auth.proofs.laws.law_one_pay.Goals as goal

pub returns : goal.returns
returns c = one_pay
