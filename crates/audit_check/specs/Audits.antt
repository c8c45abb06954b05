-- The audit of a scenario: its course, in which each stopped event is cut as a letter says (this project's profile).
use Rattle.std.specs.Prelude.{◌≡◌, ◌⊎◌, ℕ, List, [], ◌∷◌, Option, Some, None}
use Rattle.party_state.specs.declared.command.Input.{Input}
use Rattle.scenario.specs.declared.line.Line.{Line}
use Rattle.member.specs.Member.{Member}
use Rattle.world_laws.specs.World.{member_at}
use Rattle.world_laws.specs.Events.{Action, Completion, Whole, CutOld, CutNew, Event}
use Rattle.world_laws.specs.Honest.{HonestAction}
use Rattle.course.specs.Course.{Course, IsForged, no_event, event_at, after_event}
use Rattle.course.specs.LineEvents.{LineEvent, Nothing, At, MakesEvent, IsFormed, IsNoEvent, IsNumbered}
use Rattle.course.specs.Lines.{IsQuietNext}
use Rattle.course.specs.Outcomes.{input_in, IsOutcome}
use Rattle.course.specs.Stops.{KeepsChange}
use Rattle.course.specs.declared.progress.EventOutcome.{EventOutcome}
use Rattle.course.specs.declared.progress.Progress.{Progress}
use Rattle.course.specs.declared.progress.Stop.{Stop}
use Rattle.scenario.specs.AuditFaults.{fault_place}
use Rattle.scenario.specs.declared.audit_fault.AuditFault.{AuditFault}
use Rattle.course.specs.declared.progress.EventOutcome.TheVariants as outcome
use Rattle.scenario.specs.declared.audit_fault.AuditFault.TheVariants as fault

-- where an audit stands: the course so far, and the letters of the stopped events that are to come
pub record Audit : Type 0 where
  pub course : Course
  pub letters : List ℕ

-- O, where the old state stands after a stopped event; and N, where the new one does
abbrev pub letter_old : ℕ
letter_old = 79

abbrev pub letter_new : ℕ
letter_new = 78

abbrev pub IsLetter : ℕ → Type 0
IsLetter letter = (letter ≡ letter_old) ⊎ (letter ≡ letter_new)

-- how a stopped event of this letter is cut; only a change leaves a new state
abbrev pub IsCut : ℕ → Member → Option Input → ℕ → Completion → Type 0
IsCut letter x i moment completion = ((letter ≡ letter_old) × (completion ≡ CutOld)) ⊎ ((letter ≡ letter_new) × KeepsChange x i moment × (completion ≡ CutNew))

-- an event is whole, or, where a stop waits, cut as the next letter says; these letters are left
abbrev pub IsCompleted : Option Stop → List ℕ → Member → Option Input → ℕ → Completion → List ℕ → Type 0
IsCompleted None letters x i moment completion left = (completion ≡ Whole) × (left ≡ letters)
IsCompleted (Some stop) letters x i moment completion left = (letter : ℕ) × (letters ≡ letter ∷ left) × IsCut letter x i moment completion

-- an honest event at a member, what becomes of it, and the letters that are left
pub record IsDoneAt (a : Audit) (own : List ℕ) (x : Member) (action : Action) (e : Event) (o : EventOutcome) (left : List ℕ) : Type 0 where
  pub completion : Completion
  pub number : ℕ
  pub honest : HonestAction a.course.world.facts x.party action
  pub numbered : IsNumbered action number
  pub completes : IsCompleted a.course.now.stop a.letters x (input_in action) a.course.now.moment completion left
  pub becomes : IsOutcome a.course.now.stop x a.course.now.moment (input_in action) number o
  pub is : e ≡ event_at own a.course.now.moment action completion

-- nothing happens, and no letter is taken
pub record IsNothing (a : Audit) (e : Event) (o : EventOutcome) (left : List ℕ) : Type 0 where
  pub event : e ≡ no_event a.course.now.moment
  pub outcome : o ≡ outcome.Nothing
  pub letters : left ≡ a.letters

abbrev pub IsDoneBy : Audit → List ℕ → Option Member → Action → Event → EventOutcome → List ℕ → Type 0
IsDoneBy a own None action e o left = IsNothing a e o left
IsDoneBy a own (Some x) action e o left = IsDoneAt a own x action e o left

abbrev pub IsDone : Audit → LineEvent → Event → EventOutcome → List ℕ → Type 0
IsDone a Nothing e o left = IsNothing a e o left
IsDone a (At own action) e o left = IsDoneBy a own (member_at own a.course.world.members) action e o left

-- a line that is an event leads from one audit to the next
pub record IsEvent (l : Line) (a next : Audit) : Type 0 where
  pub line_event : LineEvent
  pub makes_event : MakesEvent l a.course.world.texts line_event
  pub formed : IsFormed line_event
  pub event : Event
  pub outcome : EventOutcome
  pub left : List ℕ
  pub done : IsDone a line_event event outcome left
  pub leads : next ≡ record { course = after_event a.course event outcome; letters = left }

-- a line that is no event
pub record IsQuiet (l : Line) (a next : Audit) : Type 0 where
  pub none : IsNoEvent l
  pub now : Progress
  pub changes : IsQuietNext l a.course.now now
  pub leads : next ≡ record { course = record a.course { now = now }; letters = a.letters }

abbrev pub IsNext : Line → Audit → Audit → Type 0
IsNext l a next = IsQuiet l a next ⊎ IsEvent l a next

-- the lines lead from one audit to another
abbrev pub AuditLeads : List Line → Audit → Audit → Type 0
AuditLeads [] a end = end ≡ a
AuditLeads (l ∷ lines) a end = (next : Audit) × IsNext l a next × AuditLeads lines next end

-- the line is an honest event at a member, and it is stopped
pub record IsStopped (l : Line) (c : Course) : Type 0 where
  pub own : List ℕ
  pub action : Action
  pub makes_event : MakesEvent l c.world.texts (At own action)
  pub formed : IsFormed (At own action)
  pub member : Member
  pub at : member_at own c.world.members ≡ Some member
  pub honest : HonestAction c.world.facts member.party action
  pub stop : Stop
  pub waits : c.now.stop ≡ Some stop

-- its letter is N, and it changes nothing
pub record IsImpossible (l : Line) (a : Audit) : Type 0 where
  pub stopped : IsStopped l a.course
  pub left : List ℕ
  pub letter : a.letters ≡ letter_new ∷ left
  pub unchanged : KeepsChange stopped.member (input_in stopped.action) a.course.now.moment → ⊥

-- it has no letter
pub record IsLetterless (l : Line) (a : Audit) : Type 0 where
  pub stopped : IsStopped l a.course
  pub none : a.letters ≡ []

-- what is wrong with the event of a line
abbrev pub IsWrong : Line → Audit → AuditFault → Type 0
IsWrong l a (fault.Forged n) = IsForged l a.course
IsWrong l a (fault.Impossible n) = IsImpossible l a
IsWrong l a (fault.Letters n) = IsLetterless l a
IsWrong l a (fault.Differs n) = ⊥

-- the lines lead to the first one whose event has a fault, which names that event
abbrev pub Fails : List Line → Audit → AuditFault → Type 0
Fails [] a f = ⊥
Fails (l ∷ lines) a f = (IsWrong l a f × (fault_place f ≡ a.course.now.number)) ⊎ ((next : Audit) × IsNext l a next × Fails lines next f)
