-- What a key translation centre serves, and the number with which it refuses everything else (ANSI X9.17; the numbers are
-- this project's profile).
use Rattle.x_base.specs.declared.verdict.Verdict.{Verdict}
use Rattle.csm_grammar.specs.declared.message.Message.{Message}
use Rattle.csm_grammar.specs.declared.message.Message.TheVariants as message
use Rattle.party_state.specs.declared.command.Input.{Input}
use Rattle.party_state.specs.declared.command.Input.TheVariants as input
use Rattle.party_state.specs.State.{Party}
use Rattle.role_base.specs.Serving.{IsOwnLoad, RefusesAnswer, RefusesOther, names}

-- a request for service
abbrev pub IsRequest : Message → Type 0
IsRequest (message.Rfs m) = Unit {0}
IsRequest _ = ⊥

-- that, and loading under the label of centres
abbrev pub IsServed : Input → Type 0
IsServed (input.Ordered c) = IsOwnLoad c
IsServed (input.Arrived a) = IsRequest a.parsed.message

-- the number for each class that isn't served
abbrev pub Refuses : Party → Message → Verdict → Type 0
Refuses p (message.Rsi m) v = RefusesOther p m.receiver m.originator m.originator v
Refuses p (message.Ers m) v = RefusesOther p m.receiver m.originator m.originator v
Refuses p (message.Rfs m) v = Unit {0}
Refuses p (message.Rtr m) v = RefusesOther p m.receiver m.originator m.originator v
Refuses p (message.Ksm m) v = RefusesOther p m.receiver m.originator (names m.originator m.body) v
Refuses p (message.Rsm m) v = RefusesAnswer p m.receiver m.originator v
Refuses p (message.Esm m) v = RefusesAnswer p m.receiver m.originator v
Refuses p (message.Dsm m) v = RefusesAnswer p m.receiver m.originator v
