use Rattle.bank_orders.proofs.Ends.{resends_exactly, writes_again}
use Rattle.bank_orders.proofs.laws.law_writes_again.Goals as goal

pub returns-clause-exactly : goal.returns-clause-exactly
returns-clause-exactly c = λ p peer moment. resends_exactly p peer

pub returns-clause-again : goal.returns-clause-again
returns-clause-again c = λ p peer moment. writes_again p peer
