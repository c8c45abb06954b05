use Rattle.world_laws.proofs.LiveKeys.AnyRun.{exchanged}
use Rattle.world_laws.proofs.LiveKeys.AnyDraw.{draws_moment}
use Rattle.world_laws.proofs.exchanged.law_exchanged.Goals as goal

pub returns-clause-draws : goal.returns-clause-draws
returns-clause-draws c = draws_moment

pub returns-clause-live : goal.returns-clause-live
returns-clause-live c = λ g h pair s t moment drawn draws roomy roomy'. exchanged g h pair s t moment drawn draws roomy roomy'
