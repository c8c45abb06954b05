-- An event that may not have ended: whole, cut or not begun, and the part of its lines that is written (this project's
-- profile).
use Rattle.std.specs.Prelude.{◌≡◌, ◌⊎◌, ℕ, true, List, [], take}
use Rattle.scenario.specs.declared.line.Line.{Line}
use Rattle.world_laws.specs.Events.{Event}
use Rattle.world_laws.specs.Steps.{step}
use Rattle.course.specs.Course.{Course, IsDone, no_event, event_at}
use Rattle.course.specs.LineEvents.{LineEvent, Nothing, At, MakesEvent, IsFormed, IsNoEvent}
use Rattle.course.specs.Transcript.{event_lines}
use Rattle.course.specs.declared.progress.EventOutcome.{EventOutcome}

-- the event that happens, whole or cut
abbrev pub IsBegun : ℕ → LineEvent → Event → Type 0
IsBegun moment Nothing e = ⊥
IsBegun moment (At own action) e = e ≡ event_at own moment action e.completion

-- or none has begun
abbrev pub IsEventOf : ℕ → LineEvent → Event → Type 0
IsEventOf moment h e = (e ≡ no_event moment) ⊎ IsBegun moment h e

-- a beginning of the lines of an event that is done over disks that tell their bytes, which may be nothing
abbrev pub IsPartDone : ℕ → ℕ → Course → LineEvent → Event → List ℕ → Type 0
IsPartDone before after c h e part = (o : EventOutcome) × (n : ℕ) × IsDone true before after c h e o × (part ≡ take n (event_lines c.now.number o c.world.texts (step c.now.number c.world e).texts))

-- or nothing, of an event that is done or not
abbrev pub IsPartOf : ℕ → ℕ → Course → LineEvent → Event → List ℕ → Type 0
IsPartOf before after c h e part = (part ≡ []) ⊎ IsPartDone before after c h e part

-- what an event's line makes happen; of a line that is no event, nothing
abbrev pub MakesEventOrNone : Line → List (List ℕ) → LineEvent → Type 0
MakesEventOrNone l texts h = (IsNoEvent l × (h ≡ Nothing)) ⊎ (MakesEvent l texts h × IsFormed h)

abbrev pub HasLineEvent : Line → List (List ℕ) → Type 0
HasLineEvent l texts = (h : LineEvent) × MakesEventOrNone l texts h
