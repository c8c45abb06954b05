use Rattle.std.proofs.Common.{refl}
use Rattle.world_laws.specs.World.{member_at}
use Rattle.mirror_laws.proofs.LostDisks.{changes}
use Rattle.mirror_laws.proofs.losses.law_losses.Goals as goal

pub returns : goal.returns
returns c = λ n w party which. changes w party which (member_at party w.members) refl
