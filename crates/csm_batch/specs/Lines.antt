-- How a line of a batch is written: this project's profile.
use Rattle.std.specs.Prelude.{ℕ, List, [], ◌∷◌, ◌++◌}
use Rattle.std.specs.Fmt.{decimal}
use Rattle.hex.specs.Hex.{encode_upper}
use Rattle.csm_batch.specs.declared.entry.Entry.{Entry}

-- the moment in decimal digits, a blank, and the bytes in hexadecimal digits of upper case, with a line feed
abbrev pub line_text : ℕ → List ℕ → List ℕ
line_text moment bytes = decimal moment ++ 32 ∷ encode_upper bytes ++ 10 ∷ []

-- the lines of these entries
unfoldable pub lines_text : List Entry → List ℕ
lines_text [] = []
lines_text (e ∷ es) = line_text e.moment e.bytes ++ lines_text es
