-- What a drill says (this project's profile).
use Rattle.std.specs.Prelude.{◌≡◌, ◌+◌, ℕ, List, [], length, count_by, Option, Some, None}
use Rattle.x_base.specs.Edge.{AppendsTo, WrotePrefix}
use Rattle.x_disk.specs.Disk.{View}
use Rattle.scenario.specs.declared.line.Line.{Line}
use Rattle.scenario_drill.specs.Drill.{drill_text}
use Rattle.scenario.specs.Reading.{IsScenario}
use Rattle.course.specs.Ends.{is_event}
use Rattle.replay.specs.Playing.{around, IsPlay}
use Rattle.course.specs.Summary.{summary_of}
use Rattle.course.specs.Tallies.{IsTallied}
use Rattle.course.specs.declared.tally.Tally.{Tally}
use Rattle.replay.specs.declared.result.PlayResult.{PlayResult}
use Rattle.replay.specs.declared.result.PlayResult.TheVariants as played
use Rattle.call_ends.specs.declared.status.Status.{Status}
use Rattle.call_ends.specs.declared.status.Status.TheVariants as status
use Rattle.x917.specs.Headline.{IsPlayedWhole, IsPlayedUpTo}

-- a scenario was played over a shelf of its own, on which each disk was empty and none failed; its transcript was written
-- nowhere
pub record IsPlayedAlone {H : Type 0} (entry : H → List ℕ → View) (lines : List Line) (r : PlayResult) : Type 0 where
  pub old : H
  pub new : H
  pub empty : (name : List ℕ) → (entry old name).now ≡ Some []
  pub play : IsPlay (entry old) (around lines (entry new) 0 0 None None) r
  pub write : r ≡ played.WriteFault → ⊥
  pub fault : r ≡ played.DiskFault → ⊥

-- the text of the drill is a scenario with these lines; and these are a shelf of its own, as it was, with empty disks alone,
-- and as it was left
pub record IsDrillOver {H : Type 0} (entry : H → List ℕ → View) (seed events : ℕ) (lines : List Line) (old : H) : Type 0 where
  pub scenario : IsScenario (drill_text seed events) lines
  pub empty : (name : List ℕ) → (entry old name).now ≡ Some []

-- the drill was played to its end: no fault came, and the transcript is written nowhere
pub record IsDrilled {H : Type 0} (entry : H → List ℕ → View) (seed events : ℕ) (tally : Tally) : Type 0 where
  pub lines : List Line
  pub old : H
  pub new : H
  pub over : IsDrillOver entry seed events lines old
  pub whole : IsPlayedWhole (entry old) (around lines (entry new) 0 0 None None)
  -- the numbers are those of the outcomes so far, and of the key records of all parties in the end
  pub tallied : IsTallied whole.course.now whole.course.world.members tally
  -- each line that is an event is one, and stands in the list of what happened; each has one outcome; and the texts are those
  -- that were written
  pub events_are : tally.events ≡ count_by is_event lines
  pub listed : length whole.course.happened ≡ tally.events
  pub outcomes_are : tally.done + tally.refused + tally.stopped + tally.none ≡ tally.events
  pub texts_are : tally.texts ≡ length whole.course.world.texts

-- the event of this number is the first forged one
pub record IsDrilledUpTo {H : Type 0} (entry : H → List ℕ → View) (seed events number : ℕ) : Type 0 where
  pub lines : List Line
  pub old : H
  pub new : H
  pub over : IsDrillOver entry seed events lines old
  pub up_to : IsPlayedUpTo (entry old) (around lines (entry new) 0 0 None None) number

-- a drill that isn't played to its end. Its text is a scenario, so that no line of it is bad
abbrev pub EndsDrill : {H : Type 0} → (H → List ℕ → View) → ℕ → ℕ → Status → Type 0
EndsDrill entry seed events (status.Forged number) = IsDrilledUpTo entry seed events number
EndsDrill entry seed events status.NoMemory = Unit {0}
EndsDrill entry seed events s = ⊥

-- what `drill` says. `before` and `after` are what the sink has: at the end of the drill the summary is written, or a prefix
-- of it where the sink fails, and nothing else ever
abbrev pub IsDrill : {H : Type 0} → (H → List ℕ → View) → ℕ → ℕ → Status → Option (List ℕ) → Option (List ℕ) → Type 0
IsDrill entry seed events status.Done before after = (tally : Tally) × IsDrilled entry seed events tally × AppendsTo before after (summary_of tally)
IsDrill entry seed events status.WriteFault before after = (tally : Tally) × IsDrilled entry seed events tally × WrotePrefix before after (summary_of tally)
IsDrill entry seed events s before after = EndsDrill entry seed events s × (after ≡ before)
