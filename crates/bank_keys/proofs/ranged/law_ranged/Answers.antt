use Rattle.bank_keys.proofs.KeysRanged.{ksm_ranged, rtr_ranged}
use Rattle.bank_keys.proofs.ranged.law_ranged.Goals as goal

pub returns-clause-ksm : goal.returns-clause-ksm
returns-clause-ksm c = λ p a m e w. ksm_ranged c.law_canon_short.ensures c.law_odd_stays.ensures (record { unwrapped = c.law_keys_below.ensures.unwrapped; unsealed = c.law_keys_below.ensures.unsealed }) c.law_accept.ensures.tested
    (record { same = c.law_same.ensures.link; found = c.law_found.ensures.link; put = c.law_put.ensures.link }) c.law_found_in_range.ensures.link p a m (c.law_arrived.ensures a) e w

pub returns-clause-rtr : goal.returns-clause-rtr
returns-clause-rtr c = λ p a m e w. rtr_ranged c.law_canon_short.ensures (record { unwrapped = c.law_keys_below.ensures.unwrapped; unsealed = c.law_keys_below.ensures.unsealed }) c.law_accept.ensures.tested
    (record { same = c.law_same.ensures.link; found = c.law_found.ensures.link; put = c.law_put.ensures.link }) c.law_found_in_range.ensures.link c.law_found_in_range.ensures.exchange p a m (c.law_arrived.ensures a) e w
