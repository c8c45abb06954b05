-- What holds of the inputs of events.
use Rattle.std.proofs.Common.{List}
use Rattle.party_state.specs.declared.command.Input.{Input}
use Rattle.party_state.specs.declared.command.Input.TheVariants as input
use Rattle.party_state.specs.State.{Party}
use Rattle.world_laws.specs.World.{Fact}
use Rattle.world_laws.specs.Events.{IsCommand}
use Rattle.world_laws.specs.Honest.{HonestArrival}

-- a command that is an event, or a message
abbrev pub IsInput : Input → Type 0
IsInput (input.Ordered c) = IsCommand c
IsInput (input.Arrived a) = Unit {0}

abbrev pub HonestInput : List Fact → Party → Input → Type 0
HonestInput facts p (input.Ordered c) = Unit {0}
HonestInput facts p (input.Arrived a) = HonestArrival facts p a
