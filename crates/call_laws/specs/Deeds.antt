-- Which events the deeds of a session are (this project's profile).
use Rattle.std.specs.Prelude.{◌≡◌, ◌⊎◌, ℕ, List, [], ◌∷◌, ◌++◌, Some}
use Rattle.x_disk.specs.Disk.{View, Tells}
use Rattle.x_party.specs.Images.{ReadsAs}
use Rattle.x_party.specs.declared.outcome.Outcome.{Outcome}
use Rattle.x_party.specs.declared.outcome.Outcome.TheVariants as outcome
use Rattle.member.specs.Member.{Member}
use Rattle.world_laws.specs.World.{World, member_at}
use Rattle.world_laws.specs.Events.{Action, Completion, Whole, IsCutOff, Event, AreEvents}
use Rattle.world_laws.specs.Honest.{HonestRun}
use Rattle.world_laws.specs.Laws.{OneKeyPerCount, Once, Agreement, EndedBoth}
use Rattle.call_laws.specs.Sessions.{Deed, Called, CutOff, PowerFails, texts_in}
use Rattle.world_laws.specs.Steps.{run}

-- this action at the party of this name
abbrev pub event_of : List ℕ → Action → ℕ → Completion → Event
event_of name action moment completion = record { party = name; moment = moment; action = action; completion = completion }

-- the event is cut off, with the old state or the new one
pub record IsCut (name : List ℕ) (action : Action) (moment : ℕ) (es : List Event) : Type 0 where
  pub completion : Completion
  pub cut : IsCutOff completion
  pub is : es ≡ event_of name action moment completion ∷ []

-- or there is none
abbrev pub IsCutOrNone : List ℕ → Action → ℕ → List Event → Type 0
IsCutOrNone name action moment es = (es ≡ []) ⊎ IsCut name action moment es

-- of a call that answered it is the whole event; of one that ended with a fault or with no memory it is cut off, or none
abbrev pub IsCallOf : Outcome → List ℕ → Action → ℕ → List Event → Type 0
IsCallOf (outcome.Done reply) name action moment es = es ≡ event_of name action moment Whole ∷ []
IsCallOf (outcome.Refused verdict reply) name action moment es = es ≡ event_of name action moment Whole ∷ []
IsCallOf (outcome.OtherParty asked found) name action moment es = ⊥
IsCallOf (outcome.Damaged place) name action moment es = ⊥
IsCallOf outcome.Fault name action moment es = IsCutOrNone name action moment es
IsCallOf outcome.NoMemory name action moment es = IsCutOrNone name action moment es

-- of a call in which the power failed it is cut off, or none; a failure of power between two calls is none
abbrev pub IsOfDeed : Deed → List Event → Type 0
IsOfDeed (Called name action moment o) es = IsCallOf o name action moment es
IsOfDeed (CutOff name action moment o) es = IsCutOrNone name action moment es
IsOfDeed PowerFails es = es ≡ []

-- the events are those of the first deed, and then those of the others
pub record IsFollowed (d : Deed) (rest : List Event → Type 0) (es : List Event) : Type 0 where
  pub first : List Event
  pub others : List Event
  pub whole : es ≡ first ++ others
  pub is : IsOfDeed d first
  pub follow : rest others

-- the events of the deeds, in their order
abbrev pub AreOfDeeds : List Deed → List Event → Type 0
AreOfDeeds [] es = es ≡ []
AreOfDeeds (d ∷ ds) es = IsFollowed d (AreOfDeeds ds) es

-- there are events of these deeds after which the network reads from the disks, and has written what was handed out; so the laws
-- hold of it
pub record EndsAsDone (start : World) (deeds : List Deed) (disks : List ℕ → View) : Type 0 where
  pub events : List Event
  pub of_deeds : AreOfDeeds deeds events
  pub are_events : AreEvents events
  pub reads : (name : List ℕ) (x : Member) → member_at name (run 1 start events).members ≡ Some x → Tells (disks name) × ReadsAs (disks name) x.party x.space
  pub texts_are : (run 1 start events).texts ≡ start.texts ++ texts_in deeds
  pub counts : OneKeyPerCount (run 1 start events)
  pub once : Once (run 1 start events)
  pub agreement : HonestRun 1 start events → Agreement (run 1 start events)
  pub ended : HonestRun 1 start events → EndedBoth (run 1 start events)
