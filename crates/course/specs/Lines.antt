-- Lines that are no event, and the line at which a scenario is forged (this project's profile).
use Rattle.std.specs.Prelude.{◌≡◌, ℕ, Bool, List, ◌++◌, ◌∷◌, Some}
use Rattle.scenario.specs.declared.line.Line.{Line}
use Rattle.course.specs.Course.{Course, LinesLead, IsForged}
use Rattle.course.specs.declared.progress.Progress.{Progress}
use Rattle.scenario.specs.declared.line.Line.TheVariants as line

-- a line that is no event changes the moment, the stop that waits, or nothing
abbrev pub IsQuietNext : Line → Progress → Progress → Type 0
IsQuietNext (line.Time moment) p q = q ≡ record p { moment = moment }
IsQuietNext (line.Stop n choice) p q = q ≡ record p { stop = Some (record { n = n; choice = choice }) }
IsQuietNext l p q = q ≡ p

-- the lines up to one of them lead to a course in which that line is forged
pub record IsForgedIn (tell : Bool) (before after : ℕ) (lines : List Line) (c e : Course) (number : ℕ) : Type 0 where
  pub front : List Line
  pub line : Line
  pub back : List Line
  pub split : lines ≡ front ++ line ∷ back
  pub leads : LinesLead tell before after front c e
  pub forged : IsForged line e
  pub number_is : number ≡ e.now.number
