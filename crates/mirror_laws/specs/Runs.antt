-- Runs of a network whose parties keep one disk or two: its events, and one more (this project's profile).
use Rattle.std.specs.Prelude.{ℕ, suc, Option, Some, None, List, [], ◌∷◌}
use Rattle.change_code.specs.declared.format.Format.TheVariants.{Two}
use Rattle.member.specs.Member.{Member}
use Rattle.world_laws.specs.World.{World, member_at}
use Rattle.world_laws.specs.Events.{Event, Whole, IsAction}
use Rattle.world_laws.specs.Steps.{step, world_rewritten}
use Rattle.world_laws.specs.Honest.{HonestAt}

-- a party's two disks
pub data Which : Type 0 where
  FirstDisk SecondDisk : Which

-- an event of the network, at a party that is kept on its one disk or on both its disks; or one of the two disks of the party of
-- this name becomes blank, the other stays, and the pair is opened again: between two events, or behind one that is cut off
pub data PairEvent : Type 0 where
  Happens : Event → PairEvent
  Loses : List ℕ → Which → PairEvent

-- the opening writes the party whole on a first disk that is blank, in format 2, where it isn't too large for that: the room and
-- the format that the party has are those of its first disk. A second disk that is blank is made equal to the first
abbrev pub world_after_loss : World → Which → Option Member → World
world_after_loss w which None = w
world_after_loss w FirstDisk (Some x) = world_rewritten (Some Two) w x Whole
world_after_loss w SecondDisk (Some x) = w

-- the network after the event of this number
abbrev pub pair_step : ℕ → World → PairEvent → World
pair_step n w (Happens e) = step n w e
pair_step n w (Loses party which) = world_after_loss w which (member_at party w.members)

-- the end of a run whose first event has this number
abbrev pub pair_run : ℕ → World → List PairEvent → World
pair_run n w [] = w
pair_run n w (e ∷ es) = pair_run (suc n) (pair_step n w e) es

abbrev pub IsPairAction : PairEvent → Type 0
IsPairAction (Happens e) = IsAction e.action
IsPairAction (Loses party which) = Unit {0}

-- events and losses, in any order
abbrev pub ArePairEvents : List PairEvent → Type 0
ArePairEvents [] = Unit {0}
ArePairEvents (e ∷ es) = IsPairAction e × ArePairEvents es

-- a loss is always honest
abbrev pub HonestPairAt : World → PairEvent → Type 0
HonestPairAt w (Happens e) = HonestAt w.facts (member_at e.party w.members) e.action
HonestPairAt w (Loses party which) = Unit {0}

-- each event is honest before it happens
abbrev pub HonestPairRun : ℕ → World → List PairEvent → Type 0
HonestPairRun n w [] = Unit {0}
HonestPairRun n w (e ∷ es) = HonestPairAt w e × HonestPairRun (suc n) (pair_step n w e) es

-- the loss of this disk of the party of this name, or of none
abbrev pub losses : List ℕ → Option Which → List PairEvent
losses party None = []
losses party (Some which) = Loses party which ∷ []
