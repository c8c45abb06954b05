use Rattle.bank_keys.proofs.Ordered.{ksm_order, ksm_front_order, brought_order, brought_front_order, translated_order, translated_front_order}
use Rattle.bank_keys.proofs.laws.law_order.Goals as goal

pub returns-clause-ksm : goal.returns-clause-ksm
returns-clause-ksm c = ksm_order

pub returns-clause-ksm_front : goal.returns-clause-ksm_front
returns-clause-ksm_front c = ksm_front_order

pub returns-clause-brought : goal.returns-clause-brought
returns-clause-brought c = brought_order

pub returns-clause-brought_front : goal.returns-clause-brought_front
returns-clause-brought_front c = brought_front_order

pub returns-clause-translated : goal.returns-clause-translated
returns-clause-translated c = translated_order

pub returns-clause-translated_front : goal.returns-clause-translated_front
returns-clause-translated_front c = translated_front_order
