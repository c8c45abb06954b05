use Rattle.std.proofs.Common.{subst}
use Rattle.course.specs.Meanings.{HeardOf}
use Rattle.course.proofs.Meant.{returns_heard}
use Rattle.course.proofs.arriving.returned.Goals as goal

pub returns-in-Ok : goal.returns-in-Ok
returns-in-Ok c = λ bytes hears. returns_heard bytes c.in-Ok.arrival (subst (HeardOf bytes) c.in-Ok.is hears) c.receiver_of.result c.receiver_of.ensures
