use Rattle.std.proofs.Common.{refl}
use Rattle.bank_orders.proofs.Ends.{purges}
use Rattle.bank_orders.proofs.laws.law_purges.Goals as goal

pub returns-clause-accepted : goal.returns-clause-accepted
returns-clause-accepted c = λ p moment. refl

pub returns-clause-purges : goal.returns-clause-purges
returns-clause-purges c = λ p moment w. purges c.law_drop.ensures.ended p w
