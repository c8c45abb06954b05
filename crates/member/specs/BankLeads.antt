-- The key under which the code of an arrival is tested, with its full name: none where the arrival is closed
-- by an error detection code, or is refused before its code is looked at.
use Rattle.std.specs.Prelude.{Option, None}
use Rattle.csm_grammar.specs.declared.message.Message.{Message}
use Rattle.csm_grammar.specs.declared.message.Message.TheVariants as message
use Rattle.csm_grammar.specs.declared.arrival.Arrival.{Arrival}
use Rattle.party_state.specs.declared.decision.Lead.{Lead}
use Rattle.party_state.specs.State.{Party}
use Rattle.bank_keys.specs.Ksm.{key_lead}
use Rattle.bank_keys.specs.Rtr.{rtr_lead}
use Rattle.bank_arrivals.specs.Rsm.{rsm_lead}
use Rattle.bank_arrivals.specs.Esm.{esm_lead}
use Rattle.bank_arrivals.specs.Dsm.{dsm_lead}

abbrev pub message_lead : Party → Arrival → Message → Option Lead
message_lead p a (message.Rsi m) = None
message_lead p a (message.Rfs m) = None
message_lead p a (message.Rtr m) = rtr_lead p a m
message_lead p a (message.Ksm m) = key_lead p a m
message_lead p a (message.Rsm m) = rsm_lead p a m
message_lead p a (message.Ers m) = None
message_lead p a (message.Esm m) = esm_lead p a m
message_lead p a (message.Dsm m) = dsm_lead p a m

abbrev pub lead_of : Party → Arrival → Option Lead
lead_of p a = message_lead p a a.parsed.message
