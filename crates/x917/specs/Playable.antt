-- The status that is due of the playing of a scenario, where no count of faults rises (this project's profile).
use Rattle.std.specs.Prelude.{◌≡◌, ◌⊎◌, ℕ, true, false, List, [], ◌∷◌, Some}
use Rattle.x_base.specs.declared.verdict.Verdict.TheVariants.{NotEmpty}
use Rattle.x_disk.specs.Disk.{View}
use Rattle.key_journal.specs.Journal.{is_blank}
use Rattle.scenario.specs.declared.line.Line.{Line}
use Rattle.scenario_drill.specs.Drill.{drill_text}
use Rattle.scenario.specs.Reading.{IsFirstBad, IsScenario}
use Rattle.course.specs.Course.{Course, LinesLead}
use Rattle.course.specs.Lines.{IsForgedIn}
use Rattle.replay.specs.SettingUp.{AllReadBlank, AllTell}
use Rattle.course.specs.Parties.{parties_in}
use Rattle.course.specs.Starts.{start_course}
use Rattle.call_ends.specs.declared.status.Refusal.TheVariants.{Decided}
use Rattle.call_ends.specs.declared.status.Status.{Status}
use Rattle.call_ends.specs.declared.status.Status.TheVariants as status
use Rattle.call_ends.specs.Transfer.{IsQuiet}
use Rattle.party_calls.specs.Dues.{IsOrNoMemory}

-- whichever outcomes the stopped events have, no event of the scenario is forged
abbrev pub IsHonest : List Line → Type 0
IsHonest lines = (before after : ℕ) (c : Course) (number : ℕ) → IsQuiet before after → IsForgedIn true before after lines (start_course lines) c number → ⊥

-- whichever outcomes the stopped events have, the scenario can't be played to its end
abbrev pub IsForgedAlways : List Line → Type 0
IsForgedAlways lines = (before after : ℕ) (c : Course) → IsQuiet before after → LinesLead true before after lines (start_course lines) c → ⊥

-- the disk of a party isn't blank
abbrev pub AnyFilled : (List ℕ → View) → List (List ℕ) → Type 0
AnyFilled entry [] = ⊥
AnyFilled entry (own ∷ owners) = ((image : List ℕ) → (entry own).now ≡ Some image → is_blank image ≡ false) ⊎ AnyFilled entry owners

-- with these statuses the playing ends, where no fault comes
abbrev pub IsEnding : Status → Type 0
IsEnding status.Done = Unit {0}
IsEnding (status.Refused (Decided NotEmpty)) = Unit {0}
IsEnding (status.Forged number) = Unit {0}
IsEnding status.NoMemory = Unit {0}
IsEnding s = ⊥

-- of a scenario whose parties' disks tell their bytes
pub record ExpectsPlay (lines : List Line) (old : List ℕ → View) (s : Status) : Type 0 where
  pub ending : IsEnding s
  pub filled : AnyFilled old (parties_in lines) → IsOrNoMemory s (status.Refused (Decided NotEmpty))
  pub honest : AllReadBlank old (parties_in lines) → IsHonest lines → IsOrNoMemory s status.Done
  pub forged : AllReadBlank old (parties_in lines) → IsForgedAlways lines → ((number : ℕ) × (s ≡ status.Forged number)) ⊎ (s ≡ status.NoMemory)

-- of the bytes of a source
pub record ExpectsReplay (all : List ℕ) (old : List ℕ → View) (s : Status) : Type 0 where
  pub bad : (number : ℕ) → IsFirstBad all number → IsOrNoMemory s (status.BadScenario number)
  pub played : (lines : List Line) → IsScenario all lines → AllTell old (parties_in lines) → ExpectsPlay lines old s

-- of a drill
pub record ExpectsDrill (seed events : ℕ) (s : Status) : Type 0 where
  pub honest : (lines : List Line) → IsScenario (drill_text seed events) lines → IsHonest lines → IsOrNoMemory s status.Done
  pub forged : (lines : List Line) → IsScenario (drill_text seed events) lines → IsForgedAlways lines → ((number : ℕ) × (s ≡ status.Forged number)) ⊎ (s ≡ status.NoMemory)
