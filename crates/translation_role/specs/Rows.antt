-- The row of each input at a key translation centre (ANSI X9.17), and the key under which the code of an arrival is
-- tested.
use Rattle.std.specs.Prelude.{Option, None}
use Rattle.csm_grammar.specs.declared.message.Message.{Message}
use Rattle.csm_grammar.specs.declared.message.Message.TheVariants as message
use Rattle.csm_grammar.specs.declared.arrival.Arrival.{Arrival}
use Rattle.party_state.specs.declared.command.Input.{Input}
use Rattle.party_state.specs.declared.command.Input.TheVariants as input
use Rattle.party_state.specs.declared.decision.Lead.{Lead}
use Rattle.party_state.specs.State.{Party}
use Rattle.party_state.specs.Rows.{Row}
use Rattle.role_base.specs.Conditions.{other_class, body_issuer}
use Rattle.role_base.specs.Centres.{unserved}
use Rattle.role_base.specs.Centres.{centre_command}
use Rattle.translation_role.specs.Service.{rfs, rfs_lead}

abbrev pub translation_message : Party → Arrival → Message → Row
translation_message p a (message.Rsi m) = other_class p m.receiver m.originator m.originator
translation_message p a (message.Rfs m) = rfs p a m
translation_message p a (message.Rtr m) = other_class p m.receiver m.originator m.originator
translation_message p a (message.Ksm m) = other_class p m.receiver m.originator (body_issuer m.originator m.body)
translation_message p a (message.Rsm m) = unserved p m.receiver m.originator
translation_message p a (message.Ers m) = other_class p m.receiver m.originator m.originator
translation_message p a (message.Esm m) = unserved p m.receiver m.originator
translation_message p a (message.Dsm m) = unserved p m.receiver m.originator

abbrev pub translation_row : Party → Input → Row
translation_row p (input.Ordered c) = centre_command p c
translation_row p (input.Arrived a) = translation_message p a a.parsed.message

abbrev pub translation_lead : Party → Arrival → Message → Option Lead
translation_lead p a (message.Rfs m) = rfs_lead p a m
translation_lead p a _ = None
