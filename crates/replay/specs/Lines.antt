-- Lines are played over the open disks (this project's profile).
use Rattle.std.specs.Prelude.{◌≤◌, ℕ, Bool, List, Option}
use Rattle.x_disk.specs.Disk.{View}
use Rattle.scenario.specs.declared.line.Line.{Line}
use Rattle.course.specs.Course.{Course, LinesLead}
use Rattle.replay.specs.Course.{IsAt}
use Rattle.course.specs.declared.progress.Progress.{Progress}
use Rattle.replay.specs.declared.play_state.PlayState.{PlayState}
use Rattle.course.specs.Lines.{IsForgedIn}

-- from every course that the old state and sink show, the lines lead to one that the new ones show, whether the disks tell
-- their bytes or not; between counts of the shelf's faults that hold these two
abbrev pub Plays : {D : Type 0} → (D → View) → ℕ → ℕ → List Line → PlayState D → PlayState D → Progress → Progress → Option (List ℕ) → Option (List ℕ) → Type 0
Plays told low high lines old new p q written next = (tell : Bool) (before after : ℕ) → before ≤ low → high ≤ after → (start : Option (List ℕ)) (c : Course) → IsAt tell told start c old p written
    → (e : Course) × LinesLead tell before after lines c e × IsAt tell told start e new q next

-- or they lead up to a line that is forged
abbrev pub ForgesIn : {D : Type 0} → (D → View) → ℕ → ℕ → List Line → PlayState D → PlayState D → Progress → Option (List ℕ) → Option (List ℕ) → ℕ → Type 0
ForgesIn told low high lines old new p written next number = (tell : Bool) (before after : ℕ) → before ≤ low → high ≤ after → (start : Option (List ℕ)) (c : Course) → IsAt tell told start c old p written
    → (e : Course) × (q : Progress) × IsForgedIn tell before after lines c e number × IsAt tell told start e new q next
