use Rattle.csm_read.proofs.Arrived.{arrivals_read}
use Rattle.csm_read.proofs.laws.law_arrivals_read.Goals as goal

pub returns : goal.returns
returns c = arrivals_read
