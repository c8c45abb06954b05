use Rattle.std.proofs.Common.{◌≡◌, inr, Err, refl, ap}
use Rattle.open_parties.specs.declared.failure.Failure.TheVariants as failure
use Rattle.open_parties.proofs.Losing.{fails_undamaged}
use Rattle.replay.proofs.setting_up.end_all.Goals as goal

pub returns-in-Err-clause-end : goal.returns-in-Err-clause-end
returns-in-Err-clause-end g c = inr (c.in-Err.failure, fails_undamaged c.in-Err.failure (λ place is. c.in-Err.ensures.undamaged place (ap Err is)), refl)

pub returns-in-Err-clause-fault : goal.returns-in-Err-clause-fault
returns-in-Err-clause-fault g c = λ is. (let same : c.in-Err.failure ≡ failure.Fault = cc is in inr (c.in-Err.ensures.fault (ap Err same)))
