-- What the playing of a scenario answers, and what it leaves (this project's profile).
use Rattle.std.specs.Prelude.{◌≡◌, ◌⊎◌, ◌++◌, ℕ, true, false, List, [], ◌∷◌, take, Option, Some}
use Rattle.x_base.specs.Edge.{AppendsTo}
use Rattle.x_disk.specs.Disk.{View}
use Rattle.scenario.specs.declared.line.Line.{Line}
use Rattle.member.specs.Member.{Member}
use Rattle.world_laws.specs.World.{World, member_at}
use Rattle.world_laws.specs.Events.{Event}
use Rattle.world_laws.specs.Steps.{step}
use Rattle.world_laws.specs.Honest.{HonestAt}
use Rattle.replay.specs.Breaking.{AreOnShelf, AreDurable}
use Rattle.course.specs.Parts.{IsEventOf, IsPartDone, IsPartOf, MakesEventOrNone}
use Rattle.course.specs.Course.{Course, LinesLead}
use Rattle.course.specs.LineEvents.{LineEvent}
use Rattle.course.specs.Lines.{IsForgedIn}
use Rattle.course.specs.Parties.{parties_in}
use Rattle.replay.specs.Crash.{AddsOnly, IsBehind, IsOfPlay, IsPartyOf}
use Rattle.replay.specs.SettingUp.{ReadsBlank, AllReadBlank, IsSetUpEnd}
use Rattle.course.specs.Starts.{start_course}
use Rattle.course.specs.Transcript.{show_lines}
use Rattle.open_parties.specs.declared.failure.Failure.{Failure}
use Rattle.replay.specs.declared.making.SetUpEnd.TheVariants.{NotEmpty, Failed}
use Rattle.course.specs.declared.tally.Tally.{Tally}
use Rattle.replay.specs.declared.result.PlayResult.{PlayResult}
use Rattle.course.specs.Tallies.{IsTallied}
use Rattle.replay.specs.declared.result.PlayResult.TheVariants as played

-- what a play leaves: the lines that were to be played; what the shelf tells of the disks afterwards; two counts that hold
-- the shelf's faults before and afterwards; and what the sink told at first, and tells now
pub record Surroundings : Type 1 where
  pub lines : List Line
  pub entry : List ℕ → View
  pub before : ℕ
  pub after : ℕ
  pub start : Option (List ℕ)
  pub written : Option (List ℕ)

abbrev pub around : List Line → (List ℕ → View) → ℕ → ℕ → Option (List ℕ) → Option (List ℕ) → Surroundings
around lines entry before after start written = record { lines = lines; entry = entry; before = before; after = after; start = start; written = written }

-- all lines were played: to this course, whose transcript was written, with the show lines behind it
pub record IsPlayed (s : Surroundings) (tally : Tally) : Type 0 where
  pub course : Course
  pub leads : LinesLead true s.before s.after s.lines (start_course s.lines) course
  pub images : AreOnShelf s.entry course.world.members
  pub durable : AreDurable s.entry course.world.members
  pub out : AppendsTo s.start s.written (course.transcript ++ show_lines course.world.members)
  pub tallied : IsTallied course.now course.world.members tally

-- the event of this number is forged: the lines before it led to this course, and nothing else was written
pub record IsPlayedToForged (s : Surroundings) (number : ℕ) : Type 0 where
  pub course : Course
  pub forged : IsForgedIn true s.before s.after s.lines (start_course s.lines) course number
  pub images : AreOnShelf s.entry course.world.members
  pub durable : AreDurable s.entry course.world.members
  pub out : AppendsTo s.start s.written course.transcript

-- at a line: an honest event was whole or cut, or none has begun; a beginning of its lines is out
pub record IsBrokenLine (s : Surroundings) (line : Line) (c : Course) : Type 0 where
  pub line_event : LineEvent
  pub makes_event : MakesEventOrNone line c.world.texts line_event
  pub event : Event
  pub is : IsEventOf c.now.moment line_event event
  pub honest : HonestAt c.world.facts (member_at event.party c.world.members) event.action
  pub images : AreOnShelf s.entry (step c.now.number c.world event).members
  -- and each image that a crash may leave stands for the party there, or behind the same event, whole or cut otherwise
  pub leaves : (own : List ℕ) (x : Member) → member_at own c.world.members ≡ Some x → (image : List ℕ) → (s.entry own).may_leave image → IsPartyOf (step c.now.number c.world event) own image ⊎ IsBehind c line_event own image
  pub part : List ℕ
  pub part_is : IsPartOf s.before s.after c line_event event part
  pub out : AppendsTo s.start s.written (c.transcript ++ part)

-- behind the last line: a beginning of the show lines is out
pub record IsBrokenEnd (s : Surroundings) (c : Course) : Type 0 where
  pub images : AreOnShelf s.entry c.world.members
  pub durable : AreDurable s.entry c.world.members
  pub shown : ℕ
  pub out : AppendsTo s.start s.written (c.transcript ++ take shown (show_lines c.world.members))

abbrev pub IsBrokenAhead : Surroundings → List Line → Course → Type 0
IsBrokenAhead s [] c = IsBrokenEnd s c
IsBrokenAhead s (line ∷ back) c = IsBrokenLine s line c

-- the lines in front led to this course, where the play broke off
pub record IsBrokenPlay (s : Surroundings) : Type 0 where
  pub front : List Line
  pub back : List Line
  pub split : s.lines ≡ front ++ back
  pub course : Course
  pub leads : LinesLead true s.before s.after front (start_course s.lines) course
  pub broken : IsBrokenAhead s back course

-- the network where it broke off: behind the event at hand, or behind all
abbrev pub broken_world : (s : Surroundings) (back : List Line) (c : Course) → IsBrokenAhead s back c → World
broken_world s [] c at = c.world
broken_world s (line ∷ back) c at = step c.now.number c.world at.event

-- where the sink failed at a line, its event is done
abbrev pub IsDoneAhead : (s : Surroundings) (back : List Line) (c : Course) → IsBrokenAhead s back c → Type 0
IsDoneAhead s [] c broken = Unit {0}
IsDoneAhead s (line ∷ back) c broken = IsPartDone s.before s.after c broken.line_event broken.event broken.part

-- the sink failed
pub record IsUnwritten (s : Surroundings) : Type 0 where
  pub play : IsBrokenPlay s
  pub done : IsDoneAhead s play.back play.course play.broken
  pub durable : AreDurable s.entry (broken_world s play.back play.course play.broken).members

-- the disk of a PARTY line isn't blank, and nothing was written; `old` is what the shelf told of the disks at first
pub record IsNotEmpty (old : List ℕ → View) (s : Surroundings) : Type 0 where
  pub ended : IsSetUpEnd s.lines old s.entry NotEmpty
  pub out : s.written ≡ s.start

-- the set-up of a party broke off, and nothing was written
pub record IsBrokenSetUp (old : List ℕ → View) (s : Surroundings) : Type 0 where
  pub why : Failure
  pub ended : IsSetUpEnd s.lines old s.entry (Failed why)
  pub out : s.written ≡ s.start

-- the disk of each party was blank
abbrev pub WereBlank : (List ℕ → View) → Surroundings → Type 0
WereBlank old s = AllReadBlank old (parties_in s.lines)

-- a crash at any moment leaves of the disk under each identity what it could leave before; or, where that read blank, an
-- image that stands for the party in its set-up or behind some of the lines
abbrev pub CrashLeaves : (List ℕ → View) → Surroundings → Type 0
CrashLeaves old s = (own : List ℕ) → AddsOnly (old own) (s.entry own) (λ image. ReadsBlank (old own) × IsOfPlay s.before s.after s.lines own image)

-- the set-up broke off, or the play behind it
abbrev pub IsBroken : (List ℕ → View) → Surroundings → Type 0
IsBroken old s = IsBrokenSetUp old s ⊎ (WereBlank old s × IsBrokenPlay s)

-- over every shelf all lines were played, in an order of events in which a stopped one is cut in either way: to this course,
-- whose transcript was written, with the show lines behind it
pub record IsRun (s : Surroundings) (tally : Tally) : Type 0 where
  pub course : Course
  pub leads : LinesLead false s.before s.after s.lines (start_course s.lines) course
  pub out : AppendsTo s.start s.written (course.transcript ++ show_lines course.world.members)
  pub tallied : IsTallied course.now course.world.members tally

-- the same up to the forged event of this number; nothing else was written
pub record IsRunToForged (s : Surroundings) (number : ℕ) : Type 0 where
  pub course : Course
  pub forged : IsForgedIn false s.before s.after s.lines (start_course s.lines) course number
  pub out : AppendsTo s.start s.written course.transcript

-- what the answer says over every shelf
abbrev pub IsRunBy : Surroundings → PlayResult → Type 0
IsRunBy s (played.Done tally) = IsRun s tally
IsRunBy s (played.Forged number) = IsRunToForged s number
IsRunBy s r = Unit {0}

-- what the answer says, where the disk of each party told its bytes
abbrev pub IsPlay : (List ℕ → View) → Surroundings → PlayResult → Type 0
IsPlay old s (played.Done tally) = WereBlank old s × IsPlayed s tally
IsPlay old s (played.Refused verdict) = IsNotEmpty old s
IsPlay old s (played.Forged number) = WereBlank old s × IsPlayedToForged s number
IsPlay old s played.WriteFault = WereBlank old s × IsUnwritten s
IsPlay old s played.DiskFault = IsBroken old s
IsPlay old s (played.Damaged place) = ⊥
IsPlay old s played.NoMemory = IsBroken old s

-- the same behind a set-up of all parties
abbrev pub IsPlayOn : Surroundings → PlayResult → Type 0
IsPlayOn s (played.Done tally) = IsPlayed s tally
IsPlayOn s (played.Refused verdict) = ⊥
IsPlayOn s (played.Forged number) = IsPlayedToForged s number
IsPlayOn s played.WriteFault = IsUnwritten s
IsPlayOn s played.DiskFault = IsBrokenPlay s
IsPlayOn s (played.Damaged place) = ⊥
IsPlayOn s played.NoMemory = IsBrokenPlay s
