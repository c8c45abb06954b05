-- Which texts are scenarios, and which line of another is the first bad one: this project's profile.
use Rattle.std.specs.Prelude.{◌≡◌, ℕ, ◌==◌, ◌+◌, ◌&&◌, ◌||◌, nat_le, nat_lt, Bool, false, List, length, slice_index, Option, None, Result, Ok, Err, if◌then◌else◌}
use Rattle.std.specs.List.{filter_map}
use Rattle.std.specs.Option.{option_map_or}
use Rattle.scenario.specs.declared.fault.ScenarioFault.{ScenarioFault}
use Rattle.scenario.specs.declared.fault.ScenarioFault.TheVariants as fault
use Rattle.scenario.specs.declared.line.Line.{Line}
use Rattle.scenario.specs.Behind.{EachBehind, FirstFails}
use Rattle.scenario.specs.Kinds.{line_of}
use Rattle.scenario.specs.Rows.{Row, rows_of, size_of, total_of}
use Rattle.scenario.specs.Rules.{may_follow}

-- an empty line, and one that begins with #
abbrev pub is_skipped : List ℕ → Bool
is_skipped bytes = (length bytes == 0) || (slice_index bytes 0 == 35)

-- the line that these bytes write; a skipped one is none
abbrev pub line_in : Row → Option Line
line_in row = if is_skipped row.line then None else line_of row.line

-- the lines that these write
abbrev pub lines_in : List Row → List Line
lines_in rows = filter_map line_in rows

-- at most 65,536 lines, 2,200 bytes without the line feed, and 16,777,216 bytes in all with it,
-- skipped lines too
abbrev pub is_within : List Row → Row → Bool
is_within before row =
    nat_lt (length before) 65536
    && (nat_le (length row.line) 2200 && nat_le (total_of before + size_of row) 16777216)

-- behind these, the line passes no limit, and is skipped or writes a line that may follow
abbrev pub is_good : List Row → Row → Bool
is_good before row =
    is_within before row
    && (is_skipped row.line || option_map_or (may_follow (lines_in before)) (line_of row.line) false)

-- the text is a scenario with these lines
pub record IsScenario (text : List ℕ) (lines : List Line) : Type 0 where
  pub good : EachBehind is_good (rows_of text)
  pub values : lines ≡ lines_in (rows_of text)

-- the line of this number, from 1, is the first bad one
abbrev pub IsFirstBad : List ℕ → ℕ → Type 0
IsFirstBad text number = (before : List Row) × FirstFails is_good (rows_of text) before × (number ≡ length before + 1)

-- what may be answered to a text; want of memory to any
abbrev pub IsReading : List ℕ → Result (List Line) ScenarioFault → Type 0
IsReading text (Ok lines) = IsScenario text lines
IsReading text (Err (fault.BadLine number)) = IsFirstBad text number
IsReading text (Err fault.NoMemory) = Unit {0}
