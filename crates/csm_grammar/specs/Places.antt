-- The numbers and the places of refusals (this project's profile).
use Rattle.std.specs.Prelude.{ℕ, ◌+◌}
use Rattle.csm_grammar.specs.declared.refusal.ReadRefusal.{ReadRefusal}
use Rattle.csm_grammar.specs.declared.refusal.ReadRefusal.TheVariants as refusal

-- the number of a refusal to read; want of memory has none, and gives 0
abbrev pub read_number : ReadRefusal → ℕ
read_number (refusal.NotCsm place) = 5
read_number (refusal.TooLong place) = 6
read_number (refusal.Unended place) = 7
read_number (refusal.BadTag place) = 8
read_number (refusal.UnknownTag place) = 9
read_number (refusal.Repeated tag place) = 10
read_number (refusal.Missing tag place) = 11
read_number (refusal.Unwanted tag place) = 12
read_number (refusal.BadContents tag place) = 13
read_number (refusal.Unsupported tag place) = 14
read_number refusal.NoMemory = 0

-- how many bytes stand before a fault; want of memory has no place
abbrev pub place_of : ReadRefusal → ℕ
place_of (refusal.NotCsm place) = place
place_of (refusal.TooLong place) = place
place_of (refusal.Unended place) = place
place_of (refusal.BadTag place) = place
place_of (refusal.UnknownTag place) = place
place_of (refusal.Repeated tag place) = place
place_of (refusal.Missing tag place) = place
place_of (refusal.Unwanted tag place) = place
place_of (refusal.BadContents tag place) = place
place_of (refusal.Unsupported tag place) = place
place_of refusal.NoMemory = 0

-- a refusal, with its place counted from a byte that stands so many bytes earlier
abbrev pub moved : ℕ → ReadRefusal → ReadRefusal
moved before (refusal.NotCsm place) = refusal.NotCsm (before + place)
moved before (refusal.TooLong place) = refusal.TooLong (before + place)
moved before (refusal.Unended place) = refusal.Unended (before + place)
moved before (refusal.BadTag place) = refusal.BadTag (before + place)
moved before (refusal.UnknownTag place) = refusal.UnknownTag (before + place)
moved before (refusal.Repeated tag place) = refusal.Repeated tag (before + place)
moved before (refusal.Missing tag place) = refusal.Missing tag (before + place)
moved before (refusal.Unwanted tag place) = refusal.Unwanted tag (before + place)
moved before (refusal.BadContents tag place) = refusal.BadContents tag (before + place)
moved before (refusal.Unsupported tag place) = refusal.Unsupported tag (before + place)
moved before refusal.NoMemory = refusal.NoMemory
