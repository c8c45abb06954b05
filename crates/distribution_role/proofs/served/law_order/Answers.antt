use Rattle.distribution_role.proofs.Ordered.{rsi_order, rsi_front_order, alone_order, ers_order, ers_front_order}
use Rattle.distribution_role.proofs.served.law_order.Goals as goal

pub returns-clause-rsi : goal.returns-clause-rsi
returns-clause-rsi c = rsi_order

pub returns-clause-rsi_front : goal.returns-clause-rsi_front
returns-clause-rsi_front c = rsi_front_order

pub returns-clause-alone : goal.returns-clause-alone
returns-clause-alone c = alone_order

pub returns-clause-ers : goal.returns-clause-ers
returns-clause-ers c = ers_order

pub returns-clause-ers_front : goal.returns-clause-ers_front
returns-clause-ers_front c = ers_front_order
