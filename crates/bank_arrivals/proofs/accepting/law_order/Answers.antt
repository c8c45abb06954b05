use Rattle.bank_arrivals.proofs.Ordered.{rsi_order, rsi_for_two_order, rsm_order, rsm_to_two_order, end_order, esm_order, plain_order, dsm_order}
use Rattle.bank_arrivals.proofs.accepting.law_order.Goals as goal

pub returns-clause-rsi : goal.returns-clause-rsi
returns-clause-rsi c = rsi_order

pub returns-clause-rsi_for_two : goal.returns-clause-rsi_for_two
returns-clause-rsi_for_two c = rsi_for_two_order

pub returns-clause-rsm : goal.returns-clause-rsm
returns-clause-rsm c = rsm_order

pub returns-clause-rsm_to_two : goal.returns-clause-rsm_to_two
returns-clause-rsm_to_two c = rsm_to_two_order

pub returns-clause-end : goal.returns-clause-end
returns-clause-end c = end_order

pub returns-clause-esm : goal.returns-clause-esm
returns-clause-esm c = esm_order

pub returns-clause-plain : goal.returns-clause-plain
returns-clause-plain c = plain_order

pub returns-clause-dsm : goal.returns-clause-dsm
returns-clause-dsm c = dsm_order
