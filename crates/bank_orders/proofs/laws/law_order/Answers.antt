use Rattle.bank_orders.proofs.Ordered.{start_order, start_kk_order, ask_order, translate_order, translate_front_order, end_order}
use Rattle.bank_orders.proofs.laws.law_order.Goals as goal

pub returns-clause-start : goal.returns-clause-start
returns-clause-start c = start_order

pub returns-clause-start_kk : goal.returns-clause-start_kk
returns-clause-start_kk c = start_kk_order

pub returns-clause-ask : goal.returns-clause-ask
returns-clause-ask c = ask_order

pub returns-clause-translate : goal.returns-clause-translate
returns-clause-translate c = translate_order

pub returns-clause-translate_front : goal.returns-clause-translate_front
returns-clause-translate_front c = translate_front_order

pub returns-clause-end : goal.returns-clause-end
returns-clause-end c = end_order
