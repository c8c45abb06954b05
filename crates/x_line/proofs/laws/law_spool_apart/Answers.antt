use Rattle.x_line.proofs.Limiting.{spools_apart}
use Rattle.x_line.proofs.laws.law_spool_apart.Goals as goal

pub returns : goal.returns
returns c = spools_apart
