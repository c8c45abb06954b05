-- The course of a scenario: line after line, what happens in the network and what is written (this project's profile).
use Rattle.std.specs.Prelude.{◌≡◌, ℕ, Bool, ◌++◌, List, [], ◌∷◌, map, Option, Some, None, is_some}
use Rattle.scenario.specs.declared.line.Line.{Line}
use Rattle.member.specs.Member.{Member}
use Rattle.world_laws.specs.World.{World, member_at}
use Rattle.world_laws.specs.Events.{Action, Compacts, Completion, CutOld, Event}
use Rattle.world_laws.specs.Steps.{step}
use Rattle.world_laws.specs.Honest.{HonestAction}
use Rattle.course.specs.LineEvents.{LineEvent, Nothing, At, MakesEvent, IsFormed, IsNumbered}
use Rattle.course.specs.Outcomes.{input_in, IsCompleted, IsOutcome, after_outcome}
use Rattle.course.specs.Transcript.{event_lines, written_between}
use Rattle.course.specs.declared.progress.EventOutcome.{EventOutcome}
use Rattle.course.specs.declared.progress.Progress.{Progress}
use Rattle.scenario.specs.declared.line.Line.TheVariants as line
use Rattle.course.specs.declared.progress.EventOutcome.TheVariants as outcome

-- an event that happened, and what became of it
pub record Happened : Type 0 where
  pub event : Event
  pub outcome : EventOutcome

abbrev pub events_of : List Happened → List Event
events_of happened = map (λ (h : Happened). h.event) happened

-- where a scenario stands: the moment, the stop that waits, the number of the next event and the outcomes so far; the
-- network; and what happened and the transcript so far
pub record Course : Type 0 where
  pub now : Progress
  pub world : World
  pub happened : List Happened
  pub transcript : List ℕ

-- an event that changes nothing: that of a line whose text or party isn't there
abbrev pub no_event : ℕ → Event
no_event moment = record { party = []; moment = moment; action = Compacts; completion = CutOld }

abbrev pub event_at : List ℕ → ℕ → Action → Completion → Event
event_at own moment action completion = record { party = own; moment = moment; action = action; completion = completion }

-- behind an event with its outcome
abbrev pub after_event : Course → Event → EventOutcome → Course
after_event c e o = record {
  now = after_outcome c.now o (is_some (written_between c.world.texts (step c.now.number c.world e).texts));
  world = step c.now.number c.world e;
  happened = c.happened ++ record { event = e; outcome = o } ∷ [];
  transcript = c.transcript ++ event_lines c.now.number o c.world.texts (step c.now.number c.world e).texts;
}

-- an honest event at a member: whole, or cut where a stop waits, as the stop fixes it between these counts of the shelf's
-- faults, where the disks tell their bytes; and what becomes of it
pub record IsDoneAt (tell : Bool) (before after : ℕ) (c : Course) (own : List ℕ) (x : Member) (action : Action) (e : Event) (o : EventOutcome) : Type 0 where
  pub completion : Completion
  pub number : ℕ
  pub honest : HonestAction c.world.facts x.party action
  pub numbered : IsNumbered action number
  pub completes : IsCompleted tell before after c.now.stop x c.now.moment (input_in action) completion
  pub becomes : IsOutcome c.now.stop x c.now.moment (input_in action) number o
  pub is : e ≡ event_at own c.now.moment action completion

-- where there is no such party, nothing happens
abbrev pub IsDoneBy : Bool → ℕ → ℕ → Course → List ℕ → Option Member → Action → Event → EventOutcome → Type 0
IsDoneBy tell before after c own None action e o = (e ≡ no_event c.now.moment) × (o ≡ outcome.Nothing)
IsDoneBy tell before after c own (Some x) action e o = IsDoneAt tell before after c own x action e o

abbrev pub IsDone : Bool → ℕ → ℕ → Course → LineEvent → Event → EventOutcome → Type 0
IsDone tell before after c Nothing e o = (e ≡ no_event c.now.moment) × (o ≡ outcome.Nothing)
IsDone tell before after c (At own action) e o = IsDoneBy tell before after c own (member_at own c.world.members) action e o

-- a line that is an event leads from one course to the next
pub record IsEvent (tell : Bool) (before after : ℕ) (l : Line) (c next : Course) : Type 0 where
  pub line_event : LineEvent
  pub makes_event : MakesEvent l c.world.texts line_event
  pub formed : IsFormed line_event
  pub event : Event
  pub outcome : EventOutcome
  pub done : IsDone tell before after c line_event event outcome
  pub leads : next ≡ after_event c event outcome

-- what a line makes of the course
abbrev pub IsNext : Bool → ℕ → ℕ → Line → Course → Course → Type 0
IsNext tell before after (line.Party name role pair v) c next = next ≡ c
IsNext tell before after (line.Link origin recipient label pair) c next = next ≡ c
IsNext tell before after (line.Time moment) c next = next ≡ record c { now = record c.now { moment = moment } }
IsNext tell before after (line.Stop n choice) c next = next ≡ record c { now = record c.now { stop = Some (record { n = n; choice = choice }) } }
IsNext tell before after l c next = IsEvent tell before after l c next

-- the lines lead from one course to another
abbrev pub LinesLead : Bool → ℕ → ℕ → List Line → Course → Course → Type 0
LinesLead tell before after [] c next = next ≡ c
LinesLead tell before after (l ∷ lines) c next = (mid : Course) × IsNext tell before after l c mid × LinesLead tell before after lines mid next

-- a code that agrees was made by nobody who holds its key
abbrev pub IsForgedBy : Course → Option Member → Action → Type 0
IsForgedBy c None action = ⊥
IsForgedBy c (Some x) action = HonestAction c.world.facts x.party action → ⊥

abbrev pub IsForgedAt : Course → LineEvent → Type 0
IsForgedAt c Nothing = ⊥
IsForgedAt c (At own action) = IsForgedBy c (member_at own c.world.members) action

-- the line is an event with such a code
pub record IsForged (l : Line) (c : Course) : Type 0 where
  pub line_event : LineEvent
  pub makes_event : MakesEvent l c.world.texts line_event
  pub formed : IsFormed line_event
  pub forged : IsForgedAt c line_event
