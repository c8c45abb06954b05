-- An event over the open disks, and the network that they show.
use Rattle.std.specs.Prelude.{◌≡◌, ◌≤◌, ℕ, Bool, List, Option, Some}
use Rattle.x_disk.specs.Disk.{View}
use Rattle.party_state.specs.declared.command.Input.{Input}
use Rattle.member.specs.Member.{Member}
use Rattle.world_laws.specs.World.{World, member_at}
use Rattle.world_laws.specs.Events.{Completion, Event}
use Rattle.world_laws.specs.Steps.{step}
use Rattle.course.specs.LineEvents.{LineEvent}
use Rattle.course.specs.Outcomes.{IsCompleted, IsOutcome, world_after_given}
use Rattle.replay.specs.PlayState.{Shows}
use Rattle.open_parties.specs.OpenParties.{IsPlace}
use Rattle.course.specs.Course.{Course, IsDone, IsForgedAt}
use Rattle.course.specs.declared.act.LineAct.{LineAct}
use Rattle.course.specs.declared.progress.EventOutcome.{EventOutcome}
use Rattle.course.specs.declared.progress.Progress.{Progress}
use Rattle.replay.specs.declared.play_state.PlayState.{PlayState}
use Rattle.course.specs.Acts.{Means}
use Rattle.course.specs.Forging.{HonestInput}

-- an event at the member of a place: honest, completed, with its outcome; and the new state shows what it makes
pub record IsPlayedAt {D : Type 0} (tell : Bool) (told : D → View) (before after : ℕ) (w : World) (n : ℕ) (own : List ℕ) (new : PlayState D) (i : Option Input) (number : ℕ) (now : Progress) (o : EventOutcome) : Type 0 where
  pub member : Member
  pub at : member_at own w.members ≡ Some member
  pub honest : HonestInput w.facts member.party i
  pub completion : Completion
  pub completes : IsCompleted tell before after now.stop member now.moment i completion
  pub becomes : IsOutcome now.stop member now.moment i number o
  pub shows : Shows tell told (world_after_given n w member i now.moment completion) new

-- whichever network the old state shows; between counts of the shelf's faults that hold these two
abbrev pub PlaysAt : {D : Type 0} → (D → View) → ℕ → ℕ → PlayState D → PlayState D → ℕ → Option Input → ℕ → Progress → EventOutcome → Type 0
PlaysAt told low high old new place i number now o = (tell : Bool) (before after : ℕ) → before ≤ low → high ≤ after → (w : World) (n : ℕ) (own : List ℕ) → IsPlace old.parties own place → Shows tell told w old
    → IsPlayedAt tell told before after w n own new i number now o

-- the member of the place has an input that nobody who holds the key made
abbrev pub ForgesAt : {D : Type 0} → (D → View) → PlayState D → ℕ → Input → Type 0
ForgesAt told old place i = (tell : Bool) (w : World) (own : List ℕ) → IsPlace old.parties own place → Shows tell told w old
    → (x : Member) × (member_at own w.members ≡ Some x) × (HonestInput w.facts x.party (Some i) → ⊥)

-- from every course that the old state shows, the act is an event to one that the new state shows
pub record IsActed {D : Type 0} (tell : Bool) (told : D → View) (before after : ℕ) (c : Course) (new : PlayState D) (h : LineEvent) (o : EventOutcome) : Type 0 where
  pub event : Event
  pub done : IsDone tell before after c h event o
  pub shows : Shows tell told (step c.now.number c.world event) new

abbrev pub Acts : {D : Type 0} → (D → View) → ℕ → ℕ → LineAct → PlayState D → PlayState D → Progress → EventOutcome → Type 0
Acts told low high a old new now o = (tell : Bool) (before after : ℕ) → before ≤ low → high ≤ after → (c : Course) (h : LineEvent) → c.now ≡ now → Shows tell told c.world old → Means a h → IsActed tell told before after c new h o

abbrev pub Forges : {D : Type 0} → (D → View) → LineAct → PlayState D → Type 0
Forges told a old = (tell : Bool) (c : Course) (h : LineEvent) → Shows tell told c.world old → Means a h → IsForgedAt c h
