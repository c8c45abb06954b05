use Rattle.bank_arrivals.proofs.AskingShort.{is_heard}
use Rattle.bank_arrivals.proofs.ArrivalsRanged.{rsi_ranged, rsm_ranged, esm_ranged, dsm_ranged, rsm_originator, dsm_originator, told_count}
use Rattle.bank_arrivals.proofs.ranged.law_ranged.Goals as goal

pub returns-clause-rsi : goal.returns-clause-rsi
returns-clause-rsi c = rsi_ranged c.law_canon_short.ensures c.law_keys_below.ensures.wrapped c.law_draws_odd.ensures c.law_accept.ensures.tested c.law_first_link.ensures c.law_found_in_range.ensures.link

pub returns-clause-rsm : goal.returns-clause-rsm
returns-clause-rsm c = λ p a m e w. rsm_ranged c.law_found.ensures.link c.law_found.ensures.key c.law_found_in_range.ensures.link c.law_found_in_range.ensures.key p a m w (rsm_originator a m (c.law_arrived.ensures a) e)

pub returns-clause-esm : goal.returns-clause-esm
returns-clause-esm c = λ p a m e w. esm_ranged c.law_canon_short.ensures c.law_found.ensures.link c.law_found.ensures.key c.law_found_in_range.ensures.link c.law_found_in_range.ensures.key c.law_found_in_range.ensures.exchange p a m w
    (is_heard a m (c.law_arrived.ensures a) e) (told_count a m (c.law_arrived.ensures a) e)

pub returns-clause-dsm : goal.returns-clause-dsm
returns-clause-dsm c = λ p a m e w. dsm_ranged c.law_canon_short.ensures c.law_found.ensures.link c.law_found.ensures.key c.law_found_in_range.ensures.link c.law_found_in_range.ensures.key p a m w (dsm_originator a m (c.law_arrived.ensures a) e)
