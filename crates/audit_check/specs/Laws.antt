-- What holds of each audit, whatever makes it (this project's profile).
use Rattle.std.specs.Prelude.{◌≡◌, ◌≢◌, ◌++◌, ℕ, Bool, false, List, Option, Some, None}
use Rattle.std.specs.List.{All, filter_map}
use Rattle.scenario.specs.declared.line.Line.{Line}
use Rattle.course.specs.Course.{Course, Happened, LinesLead, events_of}
use Rattle.course.specs.Lawful.{IsLawful}
use Rattle.course.specs.Starts.{start_course, start_world}
use Rattle.course.specs.declared.progress.EventOutcome.{EventOutcome}
use Rattle.course.specs.declared.progress.EventOutcome.TheVariants as outcome
use Rattle.world_laws.specs.Events.{Completion, CutOld, CutNew}
use Rattle.world_laws.specs.Starts.{IsStart}
use Rattle.audit_check.specs.Answers.{IsAnswer, IsRun}
use Rattle.audit_check.specs.Audits.{Audit, AuditLeads, IsLetter, letter_old, letter_new}
use Rattle.audit_check.specs.declared.result.AuditResult.{AuditResult}
use Rattle.audit_check.specs.declared.result.AuditResult.TheVariants as answer

-- one answer at most may come, but for want of memory
abbrev pub OneAnswer : Type 0
OneAnswer = (lines : List Line) (letters transcript : List ℕ) (a b : AuditResult) → IsAnswer lines letters transcript a → IsAnswer lines letters transcript b
    → a ≢ answer.NoMemory → b ≢ answer.NoMemory → a ≡ b

-- each run of a scenario is lawful, by the list of what happened in it
abbrev pub RunsLawful : Type 0
RunsLawful = (lines : List Line) (letters : List ℕ) (end : Course) → IsStart (start_world lines) → IsRun lines letters end → IsLawful (start_world lines) (events_of end.happened) end.world

-- the letter that an event took: only a stopped one has one, O where the old state stands after it, N where the new one does
abbrev pub letter_taken : EventOutcome → Completion → Option ℕ
letter_taken outcome.Stopped CutOld = Some letter_old
letter_taken outcome.Stopped CutNew = Some letter_new
letter_taken o completion = None

-- the letters of what happened, in its order
abbrev pub letters_taken : List Happened → List ℕ
letters_taken happened = filter_map (λ (h : Happened). letter_taken h.outcome h.event.completion) happened

-- the letters of an audit: those that were taken, and those that are left
abbrev pub all_letters : Audit → List ℕ
all_letters a = letters_taken a.course.happened ++ a.letters

-- the runs of a scenario are its courses, with the letters of their stopped events and no others: each course is a run,
-- whether the disks tell their bytes or not; and each run is a course over disks that tell nothing
abbrev pub OneRun : Type 0
OneRun = ((tell : Bool) (before after : ℕ) (lines : List Line) (end : Course) → LinesLead tell before after lines (start_course lines) end → All IsLetter (letters_taken end.happened) × IsRun lines (letters_taken end.happened) end)
    × ((before after : ℕ) (lines : List Line) (letters : List ℕ) (end : Course) → IsRun lines letters end → LinesLead false before after lines (start_course lines) end × (letters ≡ letters_taken end.happened))

-- and so from any audit to another: lines lead there as from its course to the other's, where the letters that were taken,
-- with those that are left, are the same in both
abbrev pub OneCourse : Type 0
OneCourse = ((tell : Bool) (before after : ℕ) (lines : List Line) (a end : Audit) → LinesLead tell before after lines a.course end.course → all_letters a ≡ all_letters end → AuditLeads lines a end)
    × ((before after : ℕ) (lines : List Line) (a end : Audit) → AuditLeads lines a end → LinesLead false before after lines a.course end.course × (all_letters a ≡ all_letters end))
