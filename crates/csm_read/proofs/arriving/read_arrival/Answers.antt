use Rattle.csm_read.proofs.ReadSteps.{refused_only, read_faultless}
use Rattle.csm_read.proofs.arriving.read_arrival.Goals as goal

pub returns-in-Err-clause-only : goal.returns-in-Err-clause-only
returns-in-Err-clause-only c = refused_only c.args.bytes.now c.answer.result c.in-Err.refusal c.answer.ensures c.in-Err.is

pub returns-in-Ok-push-clause-faults : goal.returns-in-Ok-push-clause-faults
returns-in-Ok-push-clause-faults c = λ r f. absurd (read_faultless c.args.bytes.now c.answer.result c.in-Ok.parsed c.answer.ensures c.in-Ok.is r f)
