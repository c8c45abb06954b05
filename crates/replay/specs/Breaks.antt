-- An event that breaks off: at its party, in the network and over its line (this project's profile).
use Rattle.std.specs.Prelude.{◌≡◌, ℕ, true, List, Option, Some}
use Rattle.x_disk.specs.Disk.{View}
use Rattle.party_state.specs.declared.command.Input.{Input}
use Rattle.member.specs.Member.{Member}
use Rattle.world_laws.specs.World.{World, member_at}
use Rattle.world_laws.specs.Events.{Completion, Event}
use Rattle.world_laws.specs.Steps.{step}
use Rattle.world_laws.specs.Honest.{HonestAt}
use Rattle.course.specs.Acts.{Means}
use Rattle.course.specs.Forging.{HonestInput}
use Rattle.replay.specs.Breaking.{StandForAll}
use Rattle.course.specs.Parts.{IsEventOf}
use Rattle.course.specs.Course.{Course}
use Rattle.open_parties.specs.Failing.{IsFailing}
use Rattle.course.specs.LineEvents.{LineEvent}
use Rattle.replay.specs.PlayState.{Shows}
use Rattle.course.specs.Outcomes.{world_after_given}
use Rattle.open_parties.specs.OpenParties.{IsPlace}
use Rattle.course.specs.declared.act.LineAct.{LineAct}
use Rattle.open_parties.specs.declared.failure.Failure.{Failure}
use Rattle.course.specs.declared.progress.Progress.{Progress}
use Rattle.replay.specs.declared.play_state.PlayState.{PlayState}
use Rattle.open_parties.specs.declared.open_party.OpenParty.{OpenParty}

-- an event at the member of a place, whole or cut; what is held, and the shelf, stand for the network behind it
pub record IsBrokenOff {D : Type 0} (told : D → View) (entry : List ℕ → View) (w : World) (n : ℕ) (own : List ℕ) (new : List (OpenParty D)) (i : Option Input) (moment : ℕ) : Type 0 where
  pub member : Member
  pub at : member_at own w.members ≡ Some member
  pub completion : Completion
  pub stands : StandForAll told entry new (world_after_given n w member i moment completion).members

-- whichever network the old state shows
abbrev pub BreaksOff : {D : Type 0} → (D → View) → (List ℕ → View) → PlayState D → PlayState D → ℕ → Option Input → ℕ → Failure → Type 0
BreaksOff told entry old new place i moment why = (w : World) (n : ℕ) (own : List ℕ) → IsPlace old.parties own place → Shows true told w old → IsFailing why × IsBrokenOff told entry w n own new.parties i moment

-- and the event is honest
abbrev pub BreaksHonest : {D : Type 0} → (D → View) → (List ℕ → View) → PlayState D → PlayState D → ℕ → Option Input → ℕ → Failure → Type 0
BreaksHonest told entry old new place i moment why = (w : World) (n : ℕ) (own : List ℕ) → IsPlace old.parties own place → Shows true told w old
    → IsFailing why × (b : IsBrokenOff told entry w n own new.parties i moment) × HonestInput w.facts b.member.party i

-- an honest event of what happens, whole or cut, or none has begun; what is held, and the shelf, stand for the network behind it
pub record IsBrokenAct {D : Type 0} (told : D → View) (entry : List ℕ → View) (c : Course) (new : List (OpenParty D)) (h : LineEvent) : Type 0 where
  pub event : Event
  pub is : IsEventOf c.now.moment h event
  pub honest : HonestAt c.world.facts (member_at event.party c.world.members) event.action
  pub stands : StandForAll told entry new (step c.now.number c.world event).members

-- from every course that the old state shows
abbrev pub BreaksAct : {D : Type 0} → (D → View) → (List ℕ → View) → LineAct → PlayState D → PlayState D → Progress → Failure → Type 0
BreaksAct told entry a old new now why = (c : Course) (h : LineEvent) → c.now ≡ now → Shows true told c.world old → Means a h → IsFailing why × IsBrokenAct told entry c new.parties h
