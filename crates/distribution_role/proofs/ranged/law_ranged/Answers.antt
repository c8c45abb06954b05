use Rattle.distribution_role.proofs.AnswersRanged.{row_in_range}
use Rattle.distribution_role.proofs.ranged.law_ranged.Goals as goal

pub returns : goal.returns
returns c = row_in_range c.law_odd_stays.ensures c.law_canon_short.ensures c.law_keys_below.ensures.wrapped c.law_keys_below.ensures.sealed c.law_draws_odd.ensures c.law_accept.ensures.tested c.law_found.ensures.link c.law_found_in_range.ensures.link c.law_arrived.ensures
