use Rattle.bank_keys.proofs.Beginning.{ksm_begins, rtr_begins}
use Rattle.bank_keys.proofs.laws.law_begins.Goals as goal

pub returns-clause-ksm : goal.returns-clause-ksm
returns-clause-ksm c = ksm_begins

pub returns-clause-rtr : goal.returns-clause-rtr
returns-clause-rtr c = rtr_begins c.law_accept.ensures.tested
