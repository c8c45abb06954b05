use Rattle.x_gen.proofs.Drawn.{draws_strong}
use Rattle.x_gen.proofs.laws.law_draws_strong.Goals as goal

pub returns : goal.returns
returns c = draws_strong
