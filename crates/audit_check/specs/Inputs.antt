-- The auditor's input: a scenario, a line AUDIT with a word, and a transcript (this project's profile).
use Rattle.std.specs.Prelude.{◌≡◌, ◌≢◌, ◌⊎◌, ◌+◌, ◌<◌, ◌≤◌, ◌++◌, ℕ, Bool, true, false, List, [], ◌∷◌, length, take, drop, codes, count_by, bytes_eq, Result, Ok, Err}
use Rattle.std.specs.List.{All}
use Rattle.scenario.specs.declared.fault.ScenarioFault.{ScenarioFault}
use Rattle.scenario.specs.declared.fault.ScenarioFault.TheVariants as fault
use Rattle.scenario.specs.declared.line.Line.{Line}
use Rattle.scenario.specs.Reading.{IsFirstBad, IsScenario}
use Rattle.scenario.specs.Rows.{Row, rows_of, size_of, total_of}
use Rattle.audit_check.specs.Answers.{is_line_feed}
use Rattle.audit_check.specs.Audits.{IsLetter}
use Rattle.audit_check.specs.Parts.{Parts}

-- how many bytes an input has at most
abbrev pub most_bytes : ℕ
most_bytes = 67108864

abbrev pub begins_audit : List ℕ → Bool
begins_audit line = bytes_eq (take 6 line) (codes "AUDIT ")

abbrev pub IsOther : Row → Type 0
IsOther row = begins_audit row.line ≡ false

-- the letters of a word: at most 65,536; none are written as a minus sign
abbrev pub Writes : List ℕ → List ℕ → Type 0
Writes word letters = ((word ≡ codes "-") × (letters ≡ [])) ⊎ ((word ≡ letters) × (letters ≢ []) × (length letters ≤ 65536) × All IsLetter letters)

-- this line has these letters
abbrev pub IsAuditLine : List ℕ → List ℕ → Type 0
IsAuditLine line letters = (word : List ℕ) × (line ≡ codes "AUDIT " ++ word) × Writes word letters

-- the first line that begins so, the lines in front of it, and those behind
pub record IsCut (bytes : List ℕ) (front : List Row) (row : Row) (back : List Row) : Type 0 where
  pub split : rows_of bytes ≡ front ++ row ∷ back
  pub others : All IsOther front
  pub begins : begins_audit row.line ≡ true

-- the bytes of the lines in front
abbrev pub scenario_in : List ℕ → List Row → List ℕ
scenario_in bytes front = take (total_of front) bytes

-- the bytes behind the line
abbrev pub transcript_in : List ℕ → List Row → Row → List ℕ
transcript_in bytes front row = drop (total_of front + size_of row) bytes

-- the bytes are an input with these parts
pub record IsAuditInput (bytes : List ℕ) (parts : Parts) : Type 0 where
  pub front : List Row
  pub row : Row
  pub back : List Row
  pub cut : IsCut bytes front row back
  pub scenario : IsScenario (scenario_in bytes front) parts.lines
  pub letters : IsAuditLine row.line parts.letters
  pub transcript : parts.transcript ≡ transcript_in bytes front row
  pub few : length bytes ≤ most_bytes

-- the line with the first byte that is too many
abbrev pub line_past_most : List ℕ → ℕ
line_past_most bytes = count_by is_line_feed (take most_bytes bytes) + 1

-- no line begins so: a line in the scenario is bad, or the one behind its last
abbrev pub IsBadWhole : List ℕ → ℕ → Type 0
IsBadWhole bytes number = IsFirstBad bytes number ⊎ (((lines : List Line) × IsScenario bytes lines) × (number ≡ length (rows_of bytes) + 1))

-- behind a scenario, that line has no letters; or it has, and the bytes are too many
abbrev pub IsBadBehind : List ℕ → List Row → Row → ℕ → Type 0
IsBadBehind bytes front row number = (((letters : List ℕ) → IsAuditLine row.line letters → ⊥) × (number ≡ length front + 1))
    ⊎ (((letters : List ℕ) × IsAuditLine row.line letters) × (most_bytes < length bytes) × (number ≡ line_past_most bytes))

abbrev pub IsBadCut : List ℕ → List Row → Row → ℕ → Type 0
IsBadCut bytes front row number = IsFirstBad (scenario_in bytes front) number ⊎ (((lines : List Line) × IsScenario (scenario_in bytes front) lines) × IsBadBehind bytes front row number)

-- the line of this number, from 1, is the first bad one
abbrev pub IsBadInput : List ℕ → ℕ → Type 0
IsBadInput bytes number = (All IsOther (rows_of bytes) × IsBadWhole bytes number)
    ⊎ ((front : List Row) × (row : Row) × (back : List Row) × IsCut bytes front row back × IsBadCut bytes front row number)

-- what may be answered to bytes; want of memory to any
abbrev pub IsInputReading : List ℕ → Result Parts ScenarioFault → Type 0
IsInputReading bytes (Ok parts) = IsAuditInput bytes parts
IsInputReading bytes (Err (fault.BadLine number)) = IsBadInput bytes number
IsInputReading bytes (Err fault.NoMemory) = Unit {0}

-- a reading that comes wherever it may, but for want of memory
abbrev pub IsOnlyReading : List ℕ → Result Parts ScenarioFault → Type 0
IsOnlyReading bytes result = (r : Result Parts ScenarioFault) → IsInputReading bytes r → r ≢ Err fault.NoMemory → (result ≡ r) ⊎ (result ≡ Err fault.NoMemory)

-- ---- while it is read

-- where the line begins that has the letters, how many lines and bytes stand in front of it, and where it ends
pub record IsFound (bytes : List ℕ) (line : List ℕ) (lines start end : ℕ) : Type 0 where
  pub front : List Row
  pub ended : Bool
  pub back : List Row
  pub cut : IsCut bytes front (record { line = line; ended = ended }) back
  pub lines_are : lines ≡ length front
  pub start_is : start ≡ total_of front
  pub end_is : end ≡ total_of front + size_of (record { line = line; ended = ended })
  pub within : end ≤ length bytes
