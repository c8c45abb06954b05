use Rattle.bank_orders.proofs.OrdersRanged.{command_ranged}
use Rattle.bank_orders.proofs.ranged.law_ranged.Goals as goal

pub returns : goal.returns
returns c = command_ranged (record {
  short = c.law_canon_short.ensures;
  wraps = c.law_keys_below.ensures.wrapped;
  draws = c.law_draws_odd.ensures;
  odd = c.law_odd_stays.ensures;
  held = c.law_accept.ensures.tested;
  links = c.law_found.ensures.link;
  keys = c.law_found.ensures.key;
  first = c.law_first_link.ensures;
  links_in_range = c.law_found_in_range.ensures.link;
  keys_in_range = c.law_found_in_range.ensures.key;
  exchanges_in_range = c.law_found_in_range.ensures.exchange;
})
