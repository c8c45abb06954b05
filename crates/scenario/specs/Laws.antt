-- What holds of each text, whatever reads it: this project's profile.
use Rattle.std.specs.Prelude.{◌≡◌, ◌≤◌, ◌⊎◌, ℕ, List, length, take}
use Rattle.scenario.specs.declared.line.Line.{Line}
use Rattle.scenario.specs.Reading.{IsFirstBad, IsScenario}

-- each text is a scenario or has a first bad line
abbrev pub HasReading : Type 0
HasReading = (text : List ℕ) → ((lines : List Line) × IsScenario text lines) ⊎ ((number : ℕ) × IsFirstBad text number)

-- it is one scenario at most
abbrev pub OneScenario : Type 0
OneScenario = (text : List ℕ) (a b : List Line) → IsScenario text a → IsScenario text b → a ≡ b

-- it has one first bad line at most
abbrev pub OneFirstBad : Type 0
OneFirstBad = (text : List ℕ) (a b : ℕ) → IsFirstBad text a → IsFirstBad text b → a ≡ b

-- and never both
abbrev pub NeverBoth : Type 0
NeverBoth = (text : List ℕ) (lines : List Line) (number : ℕ) → IsScenario text lines → ¬ (IsFirstBad text number)

-- a scenario's text has at most 16,777,216 bytes
abbrev pub FewBytes : Type 0
FewBytes = (text : List ℕ) (lines : List Line) → IsScenario text lines → length text ≤ 16777216

-- the first bad line of so many bytes in front is that of all bytes
abbrev pub BadInFront : Type 0
BadInFront = (text : List ℕ) (number : ℕ) → IsFirstBad (take 16777217 text) number → IsFirstBad text number
