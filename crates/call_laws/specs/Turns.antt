-- A turn of a node as an event of a network (this project's profile).
use Rattle.std.specs.Prelude.{◌≡◌, ℕ, Some, List}
use Rattle.key_store.specs.Store.{Stored, StandsWith}
use Rattle.member.specs.Member.{Member}
use Rattle.node_core.specs.Turns.{member_of}
use Rattle.node_core.specs.declared.node.Turn.{Turn}
use Rattle.node_core.specs.declared.node.Turn.TheVariants.{Done, Broken, NoMemory}
use Rattle.world_laws.specs.World.{World, HasMember, member_at}
use Rattle.world_laws.specs.Events.{Completion, Whole, IsCutOff}
use Rattle.world_laws.specs.Noted.{noted}
use Rattle.world_laws.specs.Nodes.{IsAfter}

-- a turn of a node that is done is the whole event: the node afterwards is the member then, and what was handed out is the
-- text that is written. Where no memory was left, nothing happened
abbrev pub IsTurnEvent : {D : Type 0} → Stored D → (ℕ → World → Completion → World) → Turn D → Type 0
IsTurnEvent old event (Done node verdict reply under) = (n : ℕ) (w : World) → member_at old.party.own w.members ≡ Some (member_of old) → IsAfter w (event n w Whole) (member_of node) reply (noted under reply)
IsTurnEvent old event (Broken b) = Unit {0}
IsTurnEvent old event (NoMemory node) = node ≡ old

-- the image stands for the member after the event that is cut off, with its space
pub record IsCutEvent (x : Member) (event : ℕ → World → Completion → World) (image : List ℕ) : Type 0 where
  pub completion : Completion
  pub cut : IsCutOff completion
  pub stands : (n : ℕ) (w : World) → member_at x.party.own w.members ≡ Some x → HasMember (event n w completion) x.party.own (StandsWith image)
