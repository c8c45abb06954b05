use Rattle.party_tables.specs.Keys.{link_key, same_link}
use Rattle.party_tables.proofs.Rows.{distinct_alike}
use Rattle.party_state.proofs.parts.Parts.law.Goals as goal

pub returns : goal.returns
returns c = rw (← c.self.view_is) record {
  own = c.law_ident.ensures;
  generator = c.law_generator.ensures;
  links = c.law_rows.ensures.rows;
  keys = c.law_rows-2.ensures.rows;
  exchanges = c.law_rows-3.ensures.rows;
  answers = c.law_rows-4.ensures.rows;
  links_once = distinct_alike link_key _ same_link c.law_link_test.ensures _ c.law_rows.ensures.once;
  keys_once = c.law_rows-2.ensures.once;
  exchanges_once = c.law_rows-3.ensures.once;
  answers_once = c.law_rows-4.ensures.once;
}
