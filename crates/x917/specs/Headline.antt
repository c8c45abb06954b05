-- What the playing of a scenario says (this project's profile). `old` and `entry` are what the shelf tells of the disks
-- before and after.
use Rattle.std.specs.Prelude.{◌≡◌, ◌⊎◌, ◌++◌, ℕ, true, false, List, [], ◌∷◌, Contains, Option, Some, IfSome}
use Rattle.x_base.specs.Edge.{AppendsTo}
use Rattle.x_base.specs.declared.verdict.Verdict.TheVariants.{NotEmpty}
use Rattle.x_disk.specs.Disk.{View}
use Rattle.x_disk.specs.Shelf.{IsAlike, AllStay}
use Rattle.scenario.specs.declared.line.Line.{Line}
use Rattle.scenario.specs.Reading.{IsFirstBad, IsScenario}
use Rattle.world_laws.specs.Events.{Event}
use Rattle.replay.specs.Breaking.{AreOnShelf, AreDurable}
use Rattle.course.specs.Course.{Course, LinesLead, events_of}
use Rattle.course.specs.Lawful.{IsLawful}
use Rattle.course.specs.Lines.{IsForgedIn}
use Rattle.replay.specs.Playing.{Surroundings, around, broken_world, CrashLeaves, IsBrokenAhead, IsBrokenPlay, IsBrokenSetUp, IsDoneAhead, IsNotEmpty, WereBlank}
use Rattle.replay.specs.SettingUp.{AllTell}
use Rattle.course.specs.Parties.{parties_in}
use Rattle.course.specs.Starts.{start_course, start_world}
use Rattle.course.specs.Transcript.{show_lines}
use Rattle.replay.specs.declared.result.PlayResult.{PlayResult}
use Rattle.replay.specs.declared.result.PlayResult.TheVariants as played
use Rattle.call_ends.specs.declared.status.Refusal.TheVariants.{Decided}
use Rattle.call_ends.specs.declared.status.Status.{Status}
use Rattle.call_ends.specs.declared.status.Status.TheVariants as status

-- ---- the playing of a scenario

-- the scenario was played to its end
pub record IsPlayedWhole (old : List ℕ → View) (g : Surroundings) : Type 0 where
  -- the disk of each party was blank
  pub blank : WereBlank old g
  -- line by line the scenario led from its start to this end: the parties of its PARTY lines with the links of its LINK lines,
  -- and then each event in the network that those before it left. An event is whole; or, behind a STOP line, cut with one of
  -- its two outcomes. Which one, is in `IsFixed`: where the change fits, the old state stands with the disk call 1 or 2, and
  -- with 3 or 4 under choice 0; the new one with 4 under choice 1, where the shelf's faults didn't rise, and with 5
  pub course : Course
  pub leads : LinesLead true g.before g.after g.lines (start_course g.lines) course
  -- what happened on the way is an honest run, and the laws hold of its end
  pub lawful : IsLawful (start_world g.lines) (events_of course.happened) course.world
  -- the image of each party's disk stands for its state in the end, with the room that is left; a crash leaves no other
  pub images : AreOnShelf g.entry course.world.members
  pub durable : AreDurable g.entry course.world.members
  -- what was written is the transcript: the lines of each event, and behind them what each party shows
  pub out : AppendsTo g.start g.written (course.transcript ++ show_lines course.world.members)

-- the scenario was played up to the event of this number
pub record IsPlayedUpTo (old : List ℕ → View) (g : Surroundings) (number : ℕ) : Type 0 where
  pub blank : WereBlank old g
  -- the lines in front led to this course, in which the next event is the first forged one: a code agrees that no holder of
  -- its key made
  pub course : Course
  pub forged : IsForgedIn true g.before g.after g.lines (start_course g.lines) course number
  -- what happened before it is an honest run, and the laws hold of its end
  pub lawful : IsLawful (start_world g.lines) (events_of course.happened) course.world
  -- the image of each party's disk stands for its state there, with its room
  pub images : AreOnShelf g.entry course.world.members
  pub durable : AreDurable g.entry course.world.members
  -- the lines of the events before it were written, and nothing else
  pub out : AppendsTo g.start g.written course.transcript

-- what led to the network where a play broke off: behind the event at hand, or behind all
abbrev pub broken_events : (g : Surroundings) (back : List Line) (c : Course) → IsBrokenAhead g back c → List Event
broken_events g [] c at = events_of c.happened
broken_events g (line ∷ back) c at = events_of c.happened ++ at.event ∷ []

-- the play broke off behind the set-up
pub record IsPlayedInPart (old : List ℕ → View) (g : Surroundings) : Type 0 where
  pub blank : WereBlank old g
  -- the lines in front led to a course. Of the event of the next line, which is honest, all is done, or it is cut with one of
  -- its outcomes, or it hasn't begun. A crash then leaves of each party's disk an image of the party before it or behind it.
  -- The lines of the events before it were written, and a beginning of its own; or, where all events are done, a beginning of
  -- what the parties show
  pub part : IsBrokenPlay g
  -- the events so far are an honest run, and the laws hold of its end
  pub lawful : IsLawful (start_world g.lines) (broken_events g part.back part.course part.broken) (broken_world g part.back part.course part.broken)
  -- the image of each party's disk stands for its state there, with its room
  pub images : AreOnShelf g.entry (broken_world g part.back part.course part.broken).members

-- the sink failed behind the set-up
pub record IsPlayedUnwritten (old : List ℕ → View) (g : Surroundings) : Type 0 where
  pub part : IsPlayedInPart old g
  -- the event at hand is done, with the outcome of which a beginning of the lines was written
  pub done : IsDoneAhead g part.part.back part.part.course part.part.broken
  -- a crash leaves no other image
  pub durable : AreDurable g.entry (broken_world g part.part.back part.part.course part.part.broken).members

-- a play ended early: in the set-up, or behind it
abbrev pub IsPlayedEarly : (List ℕ → View) → Surroundings → Type 0
IsPlayedEarly old g = IsBrokenSetUp old g ⊎ IsPlayedInPart old g

-- the disk of each party told its bytes
abbrev pub DisksTell : (List ℕ → View) → Surroundings → Type 0
DisksTell old g = AllTell old (parties_in g.lines)

-- the statuses with which the playing of a scenario ends, and what each says where the disks told their bytes
abbrev pub Says : (List ℕ → View) → Surroundings → Status → Type 0
Says old g status.Done = DisksTell old g → IsPlayedWhole old g
Says old g (status.Refused (Decided NotEmpty)) = DisksTell old g → IsNotEmpty old g
Says old g (status.Forged number) = DisksTell old g → IsPlayedUpTo old g number
Says old g status.WriteFault = DisksTell old g → IsPlayedUnwritten old g
Says old g status.DiskFault = DisksTell old g → IsPlayedEarly old g
Says old g status.NoMemory = DisksTell old g → IsPlayedEarly old g
Says old g (status.Damaged place) = DisksTell old g → ⊥
Says old g s = ⊥

-- over every shelf, whether its disks tell their bytes or not, the scenario was played to its end
pub record IsRunWhole (g : Surroundings) : Type 0 where
  -- line by line the scenario led from its start to this end. An event is whole; or, behind a STOP line, cut with the old
  -- state or the new one, and with the new one only where a change is kept
  pub course : Course
  pub leads : LinesLead false g.before g.after g.lines (start_course g.lines) course
  -- what happened on the way is an honest run, and the laws hold of its end
  pub lawful : IsLawful (start_world g.lines) (events_of course.happened) course.world
  -- what was written is the transcript: the lines of each event, and behind them what each party shows
  pub out : AppendsTo g.start g.written (course.transcript ++ show_lines course.world.members)

-- or up to the event of this number, the first forged one
pub record IsRunUpTo (g : Surroundings) (number : ℕ) : Type 0 where
  pub course : Course
  pub forged : IsForgedIn false g.before g.after g.lines (start_course g.lines) course number
  pub lawful : IsLawful (start_world g.lines) (events_of course.happened) course.world
  -- the lines of the events before it were written, and nothing else
  pub out : AppendsTo g.start g.written course.transcript

-- what the status says over every shelf
abbrev pub SaysOfRun : Surroundings → Status → Type 0
SaysOfRun g status.Done = IsRunWhole g
SaysOfRun g (status.Forged number) = IsRunUpTo g number
SaysOfRun g s = Unit {0}

-- the status of what became of a scenario
abbrev pub status_of_play : PlayResult → Status
status_of_play (played.Done tally) = status.Done
status_of_play (played.Refused verdict) = status.Refused (Decided verdict)
status_of_play (played.Forged number) = status.Forged number
status_of_play played.WriteFault = status.WriteFault
status_of_play played.DiskFault = status.DiskFault
status_of_play (played.Damaged place) = status.Damaged place
status_of_play played.NoMemory = status.NoMemory

-- ---- the scenario that is read

-- the source was read to its end, and its bytes are a scenario with these lines
abbrev pub ReadsScenario : Option (List ℕ) → Option (List ℕ) → List Line → Type 0
ReadsScenario left rest lines = IfSome left (λ all. (rest ≡ Some []) × IsScenario all lines)

-- no scenario was read: the source failed, or no memory was left, or this line of its bytes is the first bad one
abbrev pub IsUnread : Option (List ℕ) → Status → Type 0
IsUnread left s = ((s ≡ status.ReadFault) ⊎ (s ≡ status.NoMemory))
    ⊎ ((number : ℕ) × (s ≡ status.BadScenario number) × IfSome left (λ all. IsFirstBad all number))

-- a scenario was read, and the status says what became of it; the disks of names that are no party's stay. A crash at any
-- moment leaves of each disk what it could leave before, or an image of its party: as it is set up, with none or some of its
-- links; or behind some of the lines, from the first on, the last event whole or cut
pub record IsReplayed (left rest : Option (List ℕ)) (old : List ℕ → View) (g : Surroundings) (s : Status) : Type 0 where
  pub read : ReadsScenario left rest g.lines
  pub says : Says old g s
  pub runs : SaysOfRun g s
  pub crash : DisksTell old g → CrashLeaves old g
  pub others : (own : List ℕ) → (Contains (parties_in g.lines) own → ⊥) → IsAlike (old own) (g.entry own)

-- what `replay` says. `left` and `rest` are what the source has before and after, `before` and `after` what the sink has, and
-- `fault` and `faults` the shelf's counts of faults. Where no scenario is read, nothing is written and all disks stay
abbrev pub IsReplay : Status → Option (List ℕ) → Option (List ℕ) → Option (List ℕ) → Option (List ℕ) → (List ℕ → View) → (List ℕ → View) → ℕ → ℕ → Type 0
IsReplay s left rest before after old new fault faults = (IsUnread left s × (after ≡ before) × AllStay old new)
    ⊎ ((lines : List Line) × IsReplayed left rest old (around lines new fault faults before after) s)
