-- The edits of an accepted row are apart, and begin an exchange only with a peer with whom none stands.
use Rattle.std.proofs.Common.{◌≡◌, ℕ, true}
use Rattle.csm_grammar.specs.declared.message.Message.{Message}
use Rattle.csm_grammar.specs.declared.message.Message.TheVariants as message
use Rattle.csm_grammar.specs.declared.message.Rsi.{Rsi}
use Rattle.csm_grammar.specs.declared.message.Rtr.{Rtr}
use Rattle.csm_grammar.specs.declared.message.Ksm.{Ksm}
use Rattle.csm_grammar.specs.declared.message.Rsm.{Rsm}
use Rattle.csm_grammar.specs.declared.message.Esm.{Esm}
use Rattle.csm_grammar.specs.declared.message.Dsm.{Dsm}
use Rattle.csm_grammar.specs.declared.arrival.Arrival.{Arrival}
use Rattle.party_state.specs.declared.command.Command.{Command}
use Rattle.party_state.specs.declared.command.Input.{Input}
use Rattle.party_state.specs.declared.command.Input.TheVariants as input
use Rattle.party_tables.specs.Keys.{link_key, same_link}
use Rattle.party_tables.specs.Tables.{Distinct}
use Rattle.party_state.specs.State.{Party}
use Rattle.party_state.specs.Verdicts.{is_accept}
use Rattle.role_base.specs.Beginning.{AllBeginFree}
use Rattle.role_base.specs.Apart.{AreApart}
use Rattle.bank_orders.specs.Orders.{command_row}
use Rattle.bank_keys.specs.Ksm.{key_arrives}
use Rattle.bank_keys.specs.Rtr.{rtr}
use Rattle.bank_arrivals.specs.Rsi.{rsi}
use Rattle.bank_arrivals.specs.Rsm.{rsm}
use Rattle.bank_arrivals.specs.Esm.{error}
use Rattle.bank_arrivals.specs.Dsm.{dsm}
use Rattle.member.specs.BankRows.{message_row, row_of}

-- it is so of the rows of each class, and of commands
pub record RowsApart : Type 0 where
  pub command : (p : Party) (c : Command) (moment : ℕ) → is_accept (command_row p c moment).verdict ≡ true → AreApart (command_row p c moment).edits
  pub rsi : (p : Party) (a : Arrival) (m : Rsi) (moment : ℕ) → AreApart (rsi p a m moment).edits
  pub rtr : (p : Party) (a : Arrival) (m : Rtr) → is_accept (rtr p a m).verdict ≡ true → AreApart (rtr p a m).edits
  pub ksm : (p : Party) (a : Arrival) (m : Ksm) → Distinct link_key same_link p.links → is_accept (key_arrives p a m).verdict ≡ true → AreApart (key_arrives p a m).edits
  pub rsm : (p : Party) (a : Arrival) (m : Rsm) → AreApart (rsm p a m).edits
  pub esm : (p : Party) (a : Arrival) (m : Esm) → AreApart (error p a m).edits
  pub dsm : (p : Party) (a : Arrival) (m : Dsm) → AreApart (dsm p a m).edits

message_apart : RowsApart → (p : Party) (a : Arrival) (m : Message) (moment : ℕ) → Distinct link_key same_link p.links → is_accept (message_row p a m moment).verdict ≡ true → AreApart (message_row p a m moment).edits
message_apart r p a (message.Rsi m) moment d h = r.rsi p a m moment
message_apart r p a (message.Rfs m) moment d h = tt
message_apart r p a (message.Rtr m) moment d h = r.rtr p a m h
message_apart r p a (message.Ksm m) moment d h = r.ksm p a m d h
message_apart r p a (message.Rsm m) moment d h = r.rsm p a m
message_apart r p a (message.Ers m) moment d h = tt
message_apart r p a (message.Esm m) moment d h = r.esm p a m
message_apart r p a (message.Dsm m) moment d h = r.dsm p a m

pub row_apart : RowsApart → (p : Party) (i : Input) (moment : ℕ) → Distinct link_key same_link p.links → is_accept (row_of p i moment).verdict ≡ true → AreApart (row_of p i moment).edits
row_apart r p (input.Ordered c) moment d h = r.command p c moment h
row_apart r p (input.Arrived a) moment d h = message_apart r p a a.parsed.message moment d h

pub record RowsBegin : Type 0 where
  pub command : (p : Party) (c : Command) (moment : ℕ) → is_accept (command_row p c moment).verdict ≡ true → AllBeginFree p (command_row p c moment).edits
  pub rsi : (p : Party) (a : Arrival) (m : Rsi) (moment : ℕ) → is_accept (rsi p a m moment).verdict ≡ true → AllBeginFree p (rsi p a m moment).edits
  pub rtr : (p : Party) (a : Arrival) (m : Rtr) → is_accept (rtr p a m).verdict ≡ true → AllBeginFree p (rtr p a m).edits
  pub ksm : (p : Party) (a : Arrival) (m : Ksm) → AllBeginFree p (key_arrives p a m).edits
  pub rsm : (p : Party) (a : Arrival) (m : Rsm) → AllBeginFree p (rsm p a m).edits
  pub esm : (p : Party) (a : Arrival) (m : Esm) → AllBeginFree p (error p a m).edits
  pub dsm : (p : Party) (a : Arrival) (m : Dsm) → AllBeginFree p (dsm p a m).edits

message_begins : RowsBegin → (p : Party) (a : Arrival) (m : Message) (moment : ℕ) → is_accept (message_row p a m moment).verdict ≡ true → AllBeginFree p (message_row p a m moment).edits
message_begins r p a (message.Rsi m) moment h = r.rsi p a m moment h
message_begins r p a (message.Rfs m) moment h = tt
message_begins r p a (message.Rtr m) moment h = r.rtr p a m h
message_begins r p a (message.Ksm m) moment h = r.ksm p a m
message_begins r p a (message.Rsm m) moment h = r.rsm p a m
message_begins r p a (message.Ers m) moment h = tt
message_begins r p a (message.Esm m) moment h = r.esm p a m
message_begins r p a (message.Dsm m) moment h = r.dsm p a m

pub row_begins : RowsBegin → (p : Party) (i : Input) (moment : ℕ) → is_accept (row_of p i moment).verdict ≡ true → AllBeginFree p (row_of p i moment).edits
row_begins r p (input.Ordered c) moment h = r.command p c moment h
row_begins r p (input.Arrived a) moment h = message_begins r p a a.parsed.message moment h
