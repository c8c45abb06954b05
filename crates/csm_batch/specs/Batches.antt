-- Which texts are batches, with which entries, and which line of another is the first bad one: this project's profile.
use Rattle.std.specs.Prelude.{◌≡◌, ◌≤◌, ◌<◌, ◌^◌, ℕ, ◌+◌, ◌&&◌, is_some, nat_le, nat_lt, Bool, List, [], ◌∷◌, length, Option, Some, None, Result, Ok, Err}
use Rattle.std.specs.List.{All, filter_map}
use Rattle.hex.specs.Hex.{IsBytes}
use Rattle.x_values.specs.Words.{number_of}
use Rattle.scenario.specs.Behind.{EachBehind, FirstFails}
use Rattle.scenario.specs.Kinds.{bytes_of}
use Rattle.scenario.specs.Rows.{Row, rows_of, size_of, total_of}
use Rattle.scenario.specs.Words.{Word, words_of}
use Rattle.csm_batch.specs.declared.entry.Entry.{Entry}
use Rattle.csm_batch.specs.declared.fault.BatchFault.{BatchFault}
use Rattle.csm_batch.specs.declared.fault.BatchFault.TheVariants as fault

-- a moment with its bytes
abbrev pub entry_with : Option ℕ → Option (List ℕ) → Option Entry
entry_with (Some moment) (Some bytes) = Some (record { moment = moment; bytes = bytes })
entry_with moment bytes = None

-- a moment of 1 to 20 digits, and 2 to 2,080 hexadecimal digits of the bytes that arrive then
abbrev pub entry_in : List Word → Option Entry
entry_in (moment ∷ digits ∷ []) = entry_with (number_of moment) (bytes_of digits)
entry_in words = None

-- the entry that a line writes, without its line feed
abbrev pub entry_of : List ℕ → Option Entry
entry_of line = entry_in (words_of line)

-- the entry of a line
abbrev pub entry_at : Row → Option Entry
entry_at row = entry_of row.line

-- at most 2,048 lines, and 1,048,576 bytes with their line feeds
abbrev pub is_within : List Row → Row → Bool
is_within before row = nat_lt (length before) 2048 && nat_le (total_of before + size_of row) 1048576

-- behind these, the line passes no limit, ends with a line feed and writes an entry
abbrev pub is_good : List Row → Row → Bool
is_good before row = is_within before row && (row.ended && is_some (entry_at row))

-- the entries that these write
abbrev pub entries_in : List Row → List Entry
entries_in rows = filter_map entry_at rows

-- the text is a batch with these entries
pub record IsBatch (text : List ℕ) (entries : List Entry) : Type 0 where
  pub good : EachBehind is_good (rows_of text)
  pub values : entries ≡ entries_in (rows_of text)

-- the line of this number, from 1, is the first bad one
abbrev pub IsFirstBad : List ℕ → ℕ → Type 0
IsFirstBad text number = (before : List Row) × FirstFails is_good (rows_of text) before × (number ≡ length before + 1)

-- what may be answered to a text; want of memory to any
abbrev pub IsReading : List ℕ → Result (List ℕ × List Entry) BatchFault → Type 0
IsReading text (Ok batch) = (batch.0 ≡ text) × IsBatch text batch.1
IsReading text (Err (fault.BadLine number)) = IsFirstBad text number
IsReading text (Err fault.NoMemory) = Unit {0}

-- 1 to 1,040 bytes, and a moment of 64 bits
pub record IsShort (entry : Entry) : Type 0 where
  pub filled : 1 ≤ length entry.bytes
  pub short : length entry.bytes ≤ 1040
  pub values : IsBytes entry.bytes
  pub within : entry.moment < 2 ^ 64

-- at most so many bytes and entries, which are short
pub record IsSized (text : List ℕ) (entries : List Entry) : Type 0 where
  pub short : length text ≤ 1048576
  pub few : length entries ≤ 2048
  pub each : All IsShort entries
