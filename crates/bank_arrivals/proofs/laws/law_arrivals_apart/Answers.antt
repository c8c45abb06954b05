use Rattle.bank_arrivals.proofs.ArrivalsApart.{rsi_apart, rsm_apart, esm_apart, dsm_apart}
use Rattle.bank_arrivals.proofs.laws.law_arrivals_apart.Goals as goal

pub returns-clause-rsi : goal.returns-clause-rsi
returns-clause-rsi c = rsi_apart (record { same = c.law_same.ensures.key; found = c.law_found.ensures.key; put = c.law_put.ensures.key })

pub returns-clause-rsm : goal.returns-clause-rsm
returns-clause-rsm c = rsm_apart (record { same = c.law_same.ensures.key; found = c.law_found.ensures.key; put = c.law_put.ensures.key })

pub returns-clause-esm : goal.returns-clause-esm
returns-clause-esm c = esm_apart (record { same = c.law_same.ensures.link; found = c.law_found.ensures.link; put = c.law_put.ensures.link }) (record { same = c.law_same.ensures.key; found = c.law_found.ensures.key; put = c.law_put.ensures.key })

pub returns-clause-dsm : goal.returns-clause-dsm
returns-clause-dsm c = dsm_apart (record { same = c.law_same.ensures.key; found = c.law_found.ensures.key; put = c.law_put.ensures.key })
