use Rattle.bank_keys.proofs.KeysApart.{ksm_apart, rtr_apart}
use Rattle.bank_keys.proofs.laws.law_keys_apart.Goals as goal

pub returns-clause-ksm : goal.returns-clause-ksm
returns-clause-ksm c = ksm_apart c.law_accept.ensures.tested (record { same = c.law_same.ensures.link; found = c.law_found.ensures.link; put = c.law_put.ensures.link }) (record { same = c.law_same.ensures.key; found = c.law_found.ensures.key; put = c.law_put.ensures.key })

pub returns-clause-rtr : goal.returns-clause-rtr
returns-clause-rtr c = rtr_apart c.law_accept.ensures.tested
