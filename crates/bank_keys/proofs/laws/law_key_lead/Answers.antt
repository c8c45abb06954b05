use Rattle.bank_keys.proofs.Early.{ksm_none, rtr_none}
use Rattle.bank_keys.proofs.laws.law_key_lead.Goals as goal

pub returns-clause-ksm : goal.returns-clause-ksm
returns-clause-ksm c = ksm_none c.law_arrived.ensures

pub returns-clause-rtr : goal.returns-clause-rtr
returns-clause-rtr c = rtr_none c.law_arrived.ensures
