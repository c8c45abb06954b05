use Rattle.bank_arrivals.proofs.Beginning.{rsi_begins, rsm_begins, esm_begins, dsm_begins}
use Rattle.bank_arrivals.proofs.accepting.law_begins.Goals as goal

pub returns-clause-rsi : goal.returns-clause-rsi
returns-clause-rsi c = rsi_begins c.law_accept.ensures.tested

pub returns-clause-rsm : goal.returns-clause-rsm
returns-clause-rsm c = rsm_begins

pub returns-clause-esm : goal.returns-clause-esm
returns-clause-esm c = esm_begins

pub returns-clause-dsm : goal.returns-clause-dsm
returns-clause-dsm c = dsm_begins
