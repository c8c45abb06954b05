-- What holds of the end of each honest run from a start (this project's profile).
use Rattle.std.specs.Prelude.{◌≡◌, List}
use Rattle.world_laws.specs.World.{World}
use Rattle.world_laws.specs.Events.{Event, AreEvents}
use Rattle.world_laws.specs.Steps.{run}
use Rattle.world_laws.specs.Honest.{HonestRun}
use Rattle.world_laws.specs.Laws.{Agreement, OneKeyPerCount, Once, EndedBoth}
use Rattle.world_laws.specs.Starts.{IsStart}

-- a network to which these events led from a start, and what holds of it
pub record IsLawful (start : World) (events : List Event) (w : World) : Type 0 where
  -- at the start the identities of the parties don't expand alike, each key-encrypting key stands at both its ends, no two
  -- have the same pair, no count of one was used, and nothing has happened
  pub begins : IsStart start
  -- the network is the end of the run of the events: commands, arriving bytes and crashes
  pub are : AreEvents events
  pub ran : w ≡ run 1 start events
  -- the run is honest: at each arrival whose code agrees, that code was made before, by a holder of its key
  pub honest : HonestRun 1 start events
  -- a key that its originator counts as live is held by its partner with the same value, name and counter, unless the partner
  -- accepted its end
  pub agreement : Agreement w
  -- no count offsets two different keys under one key-encrypting key
  pub counts : OneKeyPerCount w
  -- each key service message takes effect at most once
  pub once : Once w
  -- where the answer to the end of a key was accepted, the partner's record of that key is ended or absent
  pub ended : EndedBoth w
