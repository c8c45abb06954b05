use Rattle.pay_auth.proofs.Once.{paid_once}
use Rattle.pay_auth.proofs.laws.law_paid.Goals as goal

pub returns : goal.returns
returns c = paid_once
