-- What an audit answers (this project's profile).
use Rattle.std.specs.Prelude.{◌≡◌, ◌≢◌, ◌⊎◌, ◌+◌, ◌==◌, ◌++◌, ℕ, Bool, List, [], ◌∷◌, length, count_by, if◌then◌else◌}
use Rattle.scenario.specs.declared.line.Line.{Line}
use Rattle.course.specs.Course.{Course, events_of}
use Rattle.course.specs.Ends.{is_event}
use Rattle.course.specs.Lawful.{IsLawful}
use Rattle.course.specs.Starts.{start_course, start_world}
use Rattle.course.specs.Tallies.{IsTallied}
use Rattle.course.specs.Transcript.{show_lines}
use Rattle.course.specs.declared.tally.Tally.{Tally}
use Rattle.audit_check.specs.Audits.{Audit, AuditLeads, Fails}
use Rattle.scenario.specs.declared.audit_fault.AuditFault.{AuditFault}
use Rattle.audit_check.specs.declared.result.AuditResult.{AuditResult}
use Rattle.scenario.specs.declared.audit_fault.AuditFault.TheVariants as fault
use Rattle.audit_check.specs.declared.result.AuditResult.TheVariants as answer

-- before the first line, with all letters
abbrev pub start_audit : List Line → List ℕ → Audit
start_audit lines letters = record { course = start_course lines; letters = letters }

-- the scenario has a run with these outcomes, and this is its end: each event is honest, and cut as its letter says where it
-- is stopped; and no letter is left
abbrev pub IsRun : List Line → List ℕ → Course → Type 0
IsRun lines letters end = AuditLeads lines (start_audit lines letters) (record { course = end; letters = [] })

-- its transcript: the lines of each event, and behind them what each party shows
abbrev pub transcript_of : Course → List ℕ
transcript_of end = end.transcript ++ show_lines end.world.members

-- the bytes in front that are the same in both
abbrev pub in_common : List ℕ → List ℕ → List ℕ
in_common [] ys = []
in_common (a ∷ xs) [] = []
in_common (a ∷ xs) (b ∷ ys) = if a == b then a ∷ in_common xs ys else []

abbrev pub is_line_feed : ℕ → Bool
is_line_feed byte = byte == 10

-- the line, from 1, in which one differs from the other first, or in which one of them ends
abbrev pub line_of_difference : List ℕ → List ℕ → ℕ
line_of_difference xs ys = 1 + count_by is_line_feed (in_common xs ys)

-- the scenario has a run with these outcomes and this transcript; and by the list of its events it is lawful, as every honest
-- run is
pub record IsAudited (lines : List Line) (letters transcript : List ℕ) (tally : Tally) : Type 0 where
  pub end : Course
  pub run : IsRun lines letters end
  pub same : transcript ≡ transcript_of end
  pub tallied : IsTallied end.now end.world.members tally
  -- as many events are counted as lines are events, and as happened; the outcomes add up to them; and as many texts are counted
  -- as were written
  pub events_are : tally.events ≡ count_by is_event lines
  pub listed : length end.happened ≡ tally.events
  pub outcomes_are : tally.done + tally.refused + tally.stopped + tally.none ≡ tally.events
  pub texts_are : tally.texts ≡ length end.world.texts
  pub lawful : IsLawful (start_world lines) (events_of end.happened) end.world

-- it has a run with these outcomes, and another transcript
pub record IsDifferent (lines : List Line) (letters transcript : List ℕ) (line : ℕ) : Type 0 where
  pub end : Course
  pub run : IsRun lines letters end
  pub differs : transcript ≢ transcript_of end
  pub line_is : line ≡ line_of_difference (transcript_of end) transcript

-- letters are left behind the last event; the number is that of the next one
pub record HasLettersLeft (lines : List Line) (letters : List ℕ) (number : ℕ) : Type 0 where
  pub end : Audit
  pub leads : AuditLeads lines (start_audit lines letters) end
  pub some : end.letters ≢ []
  pub number_is : number ≡ end.course.now.number

-- this is wrong first
abbrev pub IsFault : List Line → List ℕ → List ℕ → AuditFault → Type 0
IsFault lines letters transcript (fault.Forged e) = Fails lines (start_audit lines letters) (fault.Forged e)
IsFault lines letters transcript (fault.Impossible e) = Fails lines (start_audit lines letters) (fault.Impossible e)
IsFault lines letters transcript (fault.Letters e) = Fails lines (start_audit lines letters) (fault.Letters e) ⊎ HasLettersLeft lines letters e
IsFault lines letters transcript (fault.Differs line) = IsDifferent lines letters transcript line

-- what may be answered; want of memory always may
abbrev pub IsAnswer : List Line → List ℕ → List ℕ → AuditResult → Type 0
IsAnswer lines letters transcript (answer.Yes tally) = IsAudited lines letters transcript tally
IsAnswer lines letters transcript (answer.No f) = IsFault lines letters transcript f
IsAnswer lines letters transcript answer.NoMemory = Unit {0}

-- an answer that comes wherever it may, but for want of memory
abbrev pub IsOnly : List Line → List ℕ → List ℕ → AuditResult → Type 0
IsOnly lines letters transcript result = (a : AuditResult) → IsAnswer lines letters transcript a → a ≢ answer.NoMemory → (result ≡ a) ⊎ (result ≡ answer.NoMemory)
