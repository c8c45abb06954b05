-- A play over the open disks to its end: the lines, and the show lines behind them; and what is answered (this project's
-- profile).
use Rattle.std.specs.Prelude.{◌⊎◌, ◌≤◌, ◌++◌, ℕ, Bool, true, List, take, Option, Result, Ok, Err}
use Rattle.x_base.specs.Edge.{AppendsTo}
use Rattle.x_disk.specs.Disk.{View}
use Rattle.scenario.specs.declared.line.Line.{Line}
use Rattle.replay.specs.Breaking.{StandForAll, IsBreak, IsBrokenIn}
use Rattle.course.specs.Course.{Course, LinesLead}
use Rattle.replay.specs.Course.{IsAt}
use Rattle.course.specs.Tallies.{IsTallied}
use Rattle.replay.specs.PlayState.{Shows}
use Rattle.open_parties.specs.OpenParties.{AreOpen}
use Rattle.course.specs.Transcript.{show_lines}
use Rattle.open_parties.specs.declared.failure.Ending.{Ending}
use Rattle.open_parties.specs.declared.failure.Failure.{Failure}
use Rattle.replay.specs.declared.making.SetUpEnd.{SetUpEnd}
use Rattle.replay.specs.declared.making.SetUpEnd.TheVariants.{NotEmpty, Failed}
use Rattle.course.specs.declared.progress.Progress.{Progress}
use Rattle.replay.specs.declared.play_state.PlayState.{PlayState}
use Rattle.course.specs.declared.tally.Tally.{Tally}
use Rattle.replay.specs.declared.result.PlayResult.{PlayResult}
use Rattle.x_base.specs.declared.verdict.Verdict.TheVariants as verdict
use Rattle.open_parties.specs.declared.failure.Ending.TheVariants as ending
use Rattle.open_parties.specs.declared.failure.Failure.TheVariants as failure
use Rattle.replay.specs.declared.result.PlayResult.TheVariants as played

-- the lines led to a course that the new state shows; its transcript was written with the show lines behind it
pub record IsFinished {D : Type 0} (tell : Bool) (told : D → View) (before after : ℕ) (start : Option (List ℕ)) (lines : List Line) (c : Course) (new : PlayState D) (written : Option (List ℕ)) (tally : Tally) : Type 0 where
  pub course : Course
  pub leads : LinesLead tell before after lines c course
  pub shows : Shows tell told course.world new
  pub out : AppendsTo start written (course.transcript ++ show_lines course.world.members)
  pub tallied : IsTallied course.now course.world.members tally

-- the lines led to a course for which the disks stand; a beginning of the show lines is out
pub record IsUnshown {D : Type 0} (told : D → View) (entry : List ℕ → View) (before after : ℕ) (start : Option (List ℕ)) (lines : List Line) (c : Course) (new : PlayState D) (written : Option (List ℕ)) : Type 0 where
  pub course : Course
  pub leads : LinesLead true before after lines c course
  pub stands : StandForAll told entry new.parties course.world.members
  pub opened : AreOpen new.parties
  pub shown : ℕ
  pub out : AppendsTo start written (course.transcript ++ take shown (show_lines course.world.members))

-- the same from whichever course the old state and sink show; `entry` is the shelf's afterwards

abbrev pub Finishes : {D : Type 0} → (D → View) → ℕ → ℕ → List Line → PlayState D → PlayState D → Progress → Option (List ℕ) → Option (List ℕ) → Tally → Type 0
Finishes told low high lines old new p written next tally = (tell : Bool) (before after : ℕ) → before ≤ low → high ≤ after → (start : Option (List ℕ)) (c : Course) → IsAt tell told start c old p written
    → IsFinished tell told before after start lines c new next tally

abbrev pub BreaksPlay : {D : Type 0} → (D → View) → (List ℕ → View) → ℕ → ℕ → List Line → PlayState D → PlayState D → Progress → Option (List ℕ) → Option (List ℕ) → Ending → Type 0
BreaksPlay told entry low high lines old new p written next why = (before after : ℕ) → before ≤ low → high ≤ after → (start : Option (List ℕ)) (c : Course) → IsAt true told start c old p written
    → IsBreak why × (IsBrokenIn told entry before after start lines c new next why ⊎ IsUnshown told entry before after start lines c new next)

-- an end that came before stays, where a disk can't be put back
abbrev pub end_of : Result Tally Ending → Result Unit Failure → Result Tally Ending
end_of (Ok tally) (Ok done) = Ok tally
end_of (Ok tally) (Err why) = Err (ending.Failed why)
end_of (Err (ending.Forged number)) (Ok done) = Err (ending.Forged number)
end_of (Err (ending.Forged number)) (Err why) = Err (ending.Failed why)
end_of (Err ending.Write) back = Err ending.Write
end_of (Err (ending.Failed why)) back = Err (ending.Failed why)

abbrev pub answer_of : Result Tally Ending → PlayResult
answer_of (Ok tally) = played.Done tally
answer_of (Err (ending.Forged number)) = played.Forged number
answer_of (Err ending.Write) = played.WriteFault
answer_of (Err (ending.Failed failure.Fault)) = played.DiskFault
answer_of (Err (ending.Failed failure.NoMemory)) = played.NoMemory
answer_of (Err (ending.Failed (failure.Damaged place))) = played.Damaged place

-- the answer where the parties aren't set up
abbrev pub set_up_answer : SetUpEnd → PlayResult
set_up_answer NotEmpty = played.Refused verdict.NotEmpty
set_up_answer (Failed failure.Fault) = played.DiskFault
set_up_answer (Failed failure.NoMemory) = played.NoMemory
set_up_answer (Failed (failure.Damaged place)) = played.Damaged place
