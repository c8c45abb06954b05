use Rattle.bank_arrivals.proofs.Early.{rsi_closed, rsm_missing, esm_missing, dsm_missing}
use Rattle.bank_arrivals.proofs.laws.law_arrival_lead.Goals as goal

pub returns-clause-rsi : goal.returns-clause-rsi
returns-clause-rsi c = rsi_closed c.law_arrived.ensures

pub returns-clause-rsm : goal.returns-clause-rsm
returns-clause-rsm c = rsm_missing c.law_arrived.ensures

pub returns-clause-esm : goal.returns-clause-esm
returns-clause-esm c = esm_missing

pub returns-clause-dsm : goal.returns-clause-dsm
returns-clause-dsm c = dsm_missing c.law_arrived.ensures
