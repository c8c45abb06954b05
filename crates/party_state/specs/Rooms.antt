-- For how many more rows the tables of a party have room (this project's profile).
use Rattle.std.specs.Prelude.{ℕ, ◌≤◌, Bool, true, false, List, count_by}
use Rattle.party_state.specs.declared.edit.Edit.{Edit}
use Rattle.party_state.specs.declared.edit.Edit.TheVariants.{PutLink, PutKey, PutExchange, PutAnswer}

-- how many more rows each table has room for
pub record Rooms : Type 0 where
  pub links : ℕ
  pub keys : ℕ
  pub exchanges : ℕ
  pub answers : ℕ

abbrev pub puts_link : Edit → Bool
puts_link (PutLink l) = true
puts_link _ = false

abbrev pub puts_key : Edit → Bool
puts_key (PutKey k) = true
puts_key _ = false

abbrev pub puts_exchange : Edit → Bool
puts_exchange (PutExchange e) = true
puts_exchange _ = false

abbrev pub puts_answer : Edit → Bool
puts_answer (PutAnswer a) = true
puts_answer _ = false

-- there is room for all rows that the edits put
pub record HasSpaceFor (es : List Edit) (r : Rooms) : Type 0 where
  pub links : count_by puts_link es ≤ r.links
  pub keys : count_by puts_key es ≤ r.keys
  pub exchanges : count_by puts_exchange es ≤ r.exchanges
  pub answers : count_by puts_answer es ≤ r.answers
