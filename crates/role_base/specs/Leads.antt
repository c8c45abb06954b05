-- What is found of an input before it is decided: the key under which the code of an arrival is tested.
use Rattle.std.specs.Prelude.{Option, None}
use Rattle.csm_grammar.specs.declared.arrival.Arrival.{Arrival}
use Rattle.party_state.specs.declared.command.Input.{Input}
use Rattle.party_state.specs.declared.command.Input.TheVariants as input
use Rattle.party_state.specs.declared.decision.Lead.{Lead}

-- of a command nothing
abbrev pub of_arrival : (Arrival → Option Lead) → Input → Option Lead
of_arrival found (input.Ordered c) = None
of_arrival found (input.Arrived a) = found a
