use Rattle.x_line.proofs.Limiting.{accepts_apart, pays_apart}
use Rattle.x_line.proofs.laws.law_ledger_apart.Goals as goal

pub returns-clause-pays : goal.returns-clause-pays
returns-clause-pays c = pays_apart

pub returns-clause-accepts : goal.returns-clause-accepts
returns-clause-accepts c = accepts_apart
