-- The row of each input at a bank.
use Rattle.std.specs.Prelude.{ℕ}
use Rattle.csm_grammar.specs.declared.message.Message.{Message}
use Rattle.csm_grammar.specs.declared.message.Message.TheVariants as message
use Rattle.csm_grammar.specs.declared.arrival.Arrival.{Arrival}
use Rattle.party_state.specs.declared.command.Input.{Input}
use Rattle.party_state.specs.declared.command.Input.TheVariants as input
use Rattle.party_state.specs.State.{Party}
use Rattle.party_state.specs.Rows.{Row}
use Rattle.role_base.specs.Conditions.{other_class}
use Rattle.bank_orders.specs.Orders.{command_row}
use Rattle.bank_keys.specs.Ksm.{key_arrives}
use Rattle.bank_keys.specs.Rtr.{rtr}
use Rattle.bank_arrivals.specs.Rsi.{rsi}
use Rattle.bank_arrivals.specs.Rsm.{rsm}
use Rattle.bank_arrivals.specs.Esm.{error}
use Rattle.bank_arrivals.specs.Dsm.{dsm}

abbrev pub message_row : Party → Arrival → Message → ℕ → Row
message_row p a (message.Rsi m) moment = rsi p a m moment
message_row p a (message.Rfs m) moment = other_class p m.receiver m.originator m.originator
message_row p a (message.Rtr m) moment = rtr p a m
message_row p a (message.Ksm m) moment = key_arrives p a m
message_row p a (message.Rsm m) moment = rsm p a m
message_row p a (message.Ers m) moment = other_class p m.receiver m.originator m.originator
message_row p a (message.Esm m) moment = error p a m
message_row p a (message.Dsm m) moment = dsm p a m

abbrev pub row_of : Party → Input → ℕ → Row
row_of p (input.Ordered c) moment = command_row p c moment
row_of p (input.Arrived a) moment = message_row p a a.parsed.message moment
