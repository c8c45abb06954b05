-- The row of each input at a key distribution centre (ANSI X9.17), and the key under which the code of an arrival is
-- tested.
use Rattle.std.specs.Prelude.{ℕ, Option, None}
use Rattle.csm_grammar.specs.declared.message.Message.{Message}
use Rattle.csm_grammar.specs.declared.message.Message.TheVariants as message
use Rattle.csm_grammar.specs.declared.arrival.Arrival.{Arrival}
use Rattle.party_state.specs.declared.command.Input.{Input}
use Rattle.party_state.specs.declared.command.Input.TheVariants as input
use Rattle.party_state.specs.declared.decision.Lead.{Lead}
use Rattle.party_state.specs.State.{Party}
use Rattle.party_state.specs.Rows.{Row}
use Rattle.role_base.specs.Conditions.{other_class, body_issuer}
use Rattle.role_base.specs.Centres.{unserved}
use Rattle.role_base.specs.Centres.{centre_command}
use Rattle.distribution_role.specs.Requests.{rsi}
use Rattle.distribution_role.specs.Recovery.{ers, ers_lead}

abbrev pub distribution_message : Party → Arrival → Message → ℕ → Row
distribution_message p a (message.Rsi m) moment = rsi p a m moment
distribution_message p a (message.Rfs m) moment = other_class p m.receiver m.originator m.originator
distribution_message p a (message.Rtr m) moment = other_class p m.receiver m.originator m.originator
distribution_message p a (message.Ksm m) moment = other_class p m.receiver m.originator (body_issuer m.originator m.body)
distribution_message p a (message.Rsm m) moment = unserved p m.receiver m.originator
distribution_message p a (message.Ers m) moment = ers p a m moment
distribution_message p a (message.Esm m) moment = unserved p m.receiver m.originator
distribution_message p a (message.Dsm m) moment = unserved p m.receiver m.originator

abbrev pub distribution_row : Party → Input → ℕ → Row
distribution_row p (input.Ordered c) moment = centre_command p c
distribution_row p (input.Arrived a) moment = distribution_message p a a.parsed.message moment

abbrev pub distribution_lead : Party → Arrival → Message → Option Lead
distribution_lead p a (message.Ers m) = ers_lead p a m
distribution_lead p a _ = None
