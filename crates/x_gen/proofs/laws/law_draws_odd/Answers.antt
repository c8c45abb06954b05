use Rattle.x_gen.proofs.Drawn.{draws_odd}
use Rattle.x_gen.proofs.laws.law_draws_odd.Goals as goal

pub returns : goal.returns
returns c = draws_odd
