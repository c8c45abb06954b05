use Rattle.std.proofs.Common.{subst}
use Rattle.course.specs.Meanings.{HeardOf}
use Rattle.course.proofs.Meant.{arrives_heard, arrives_unheard}
use Rattle.course.proofs.arriving.arrived.Goals as goal

pub returns-in-Ok : goal.returns-in-Ok
returns-in-Ok c = λ bytes hears. arrives_heard bytes c.in-Ok.arrival (subst (HeardOf bytes) c.in-Ok.is hears) c.args.party.now

pub returns-in-Err : goal.returns-in-Err
returns-in-Err c = λ bytes hears. arrives_unheard bytes c.in-Err.unheard (subst (HeardOf bytes) c.in-Err.is hears) c.args.party.now c.number.result c.number.ensures
