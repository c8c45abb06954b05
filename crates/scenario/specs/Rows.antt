-- The lines of a text: this project's profile.
use Rattle.std.specs.Prelude.{ℕ, ◌==◌, ◌+◌, Bool, true, false, List, [], ◌∷◌, length, sum_by, if◌then◌else◌}

-- a line without the line feed that ends it, and whether one does
pub record Row : Type 0 where
  pub line : List ℕ
  pub ended : Bool

-- the lines, where one more byte stands before the first
abbrev pub put_before : ℕ → List Row → List Row
put_before byte [] = record { line = byte ∷ []; ended = false } ∷ []
put_before byte (row ∷ rows) = record { line = byte ∷ row.line; ended = row.ended } ∷ rows

-- a line ends at a line feed or at the end of the bytes; where no byte stands behind the last line
-- feed no line begins there
abbrev pub rows_of : List ℕ → List Row
rows_of [] = []
rows_of (byte ∷ bytes) =
    if byte == 10 then record { line = []; ended = true } ∷ rows_of bytes
    else put_before byte (rows_of bytes)

-- the bytes of a line with its line feed
abbrev pub size_of : Row → ℕ
size_of row = length row.line + (if row.ended then 1 else 0)

-- the bytes of these lines with their line feeds
abbrev pub total_of : List Row → ℕ
total_of rows = sum_by size_of rows
