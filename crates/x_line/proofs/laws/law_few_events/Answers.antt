use Rattle.x_line.proofs.Limiting.{few_events}
use Rattle.x_line.proofs.laws.law_few_events.Goals as goal

pub returns : goal.returns
returns c = few_events
