-- A call over a party on a shelf, as an event of a network (this project's profile). `old` and `new` are what the shelf
-- tells of the party's disk before and after.
use Rattle.std.specs.Prelude.{◌≡◌, ◌≢◌, ℕ, Some, List, ◌++◌, Option, option_to_list}
use Rattle.x_disk.specs.Disk.{View, LeavesOnly, IsUntouched}
use Rattle.party_state.specs.State.{Party}
use Rattle.change_code.specs.declared.space.Space.{Space}
use Rattle.key_store.specs.Store.{Stands, StandsWith}
use Rattle.x_party.specs.Images.{DiskStandsFor, OrBefore}
use Rattle.x_party.specs.declared.outcome.Outcome.{Outcome}
use Rattle.x_party.specs.declared.outcome.Outcome.TheVariants as outcome
use Rattle.member.specs.Member.{Member}
use Rattle.world_laws.specs.World.{World, HasMember, member_at}
use Rattle.world_laws.specs.Events.{Action, Completion, Whole, IsCutOff, Event}
use Rattle.world_laws.specs.Steps.{step}

-- this action at a member, which is done as a whole, or cut off
abbrev pub event_at : Member → ℕ → Action → Completion → Event
event_at x moment action completion = record { party = x.party.own; moment = moment; action = action; completion = completion }

-- this holds of every network of which the party is a member, and of that network after the event
abbrev pub InEveryNetwork : Member → Event → (World → World → Type 0) → Type 0
InEveryNetwork x e P = (n : ℕ) (w : World) → member_at x.party.own w.members ≡ Some x → P w (step n w e)

-- the whole event: the disk stands for the party as it is then, and what was handed out is the text that was written
pub record IsWholeCall (x : Member) (e : Event) (new : View) (reply : Option (List ℕ)) : Type 0 where
  pub stands : InEveryNetwork x e (λ w after. HasMember after x.party.own (DiskStandsFor new))
  pub texts : InEveryNetwork x e (λ w after. after.texts ≡ w.texts ++ option_to_list reply)

-- a party that answered did the whole event; of one that stands the disk isn't damaged
abbrev pub AnswersWhole : Member → Event → View → Outcome → Type 0
AnswersWhole x e new (outcome.Done reply) = IsWholeCall x e new reply
AnswersWhole x e new (outcome.Refused verdict reply) = IsWholeCall x e new reply
AnswersWhole x e new (outcome.OtherParty asked found) = ⊥
AnswersWhole x e new (outcome.Damaged place) = ⊥
AnswersWhole x e new outcome.Fault = Unit {0}
AnswersWhole x e new outcome.NoMemory = Unit {0}

-- the event is cut off, and the image stands for the party as it is then
pub record IsCutCall (x : Member) (e : Completion → Event) (image : List ℕ) : Type 0 where
  pub completion : Completion
  pub cut : IsCutOff completion
  pub stands : InEveryNetwork x (e completion) (λ w after. HasMember after x.party.own (StandsWith image))

-- the call is the event: whole, where the party answered; and whatever comes, a crash at any moment of it leaves the party
-- as it is after the event that is cut off, or what could be left before
pub record IsCallEvent (x : Member) (e : Completion → Event) (old new : View) (o : Outcome) : Type 0 where
  pub whole : AnswersWhole x (e Whole) new o
  pub cut : LeavesOnly old new (OrBefore old (IsCutCall x e))

-- the call is this action at the party that stands on the disk, with its format and the room that is left there
abbrev pub IsCall : View → View → Action → ℕ → Outcome → Type 0
IsCall old new action moment o = (image : List ℕ) (party : Party) (space : Space) → old.now ≡ Some image → StandsWith image party space
    → IsCallEvent (record { party = party; space = space }) (event_at (record { party = party; space = space }) moment action) old new o

-- it answers that another party stands on the disk, or it failed
abbrev pub AnswersOther : List ℕ → List ℕ → Outcome → Type 0
AnswersOther name own (outcome.Done reply) = ⊥
AnswersOther name own (outcome.Refused verdict reply) = ⊥
AnswersOther name own (outcome.OtherParty asked found) = (asked ≡ name) × (found ≡ own)
AnswersOther name own (outcome.Damaged place) = ⊥
AnswersOther name own outcome.Fault = Unit {0}
AnswersOther name own outcome.NoMemory = Unit {0}

-- a call of the party of this name
pub record IsNamedCall (name : List ℕ) (old new : View) (action : Action) (moment : ℕ) (o : Outcome) : Type 0 where
  -- where that party stands on the disk, the call is this action at it, with its format and the room that is left there
  pub own : (image : List ℕ) (party : Party) (space : Space) → old.now ≡ Some image → StandsWith image party space → party.own ≡ name
      → IsCallEvent (record { party = party; space = space }) (event_at (record { party = party; space = space }) moment action) old new o
  -- where another does, it is no event: nothing is written to the disk, and the party answers nothing
  pub other : (image : List ℕ) (party : Party) → old.now ≡ Some image → Stands image party → party.own ≢ name → IsUntouched old new × AnswersOther name party.own o
