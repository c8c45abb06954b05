-- What is kept of the contents of a field when it is judged.
use Rattle.std.specs.Prelude.{◌≡◌, ℕ, true, false, Bool, List, Option, Some, None, option_and_then, is_some, MatchOption, slice_index_or}
use Rattle.std.specs.Borrow.{Bor}
use Rattle.csm_grammar.specs.declared.tag.Tag.{Tag}
use Rattle.csm_grammar.specs.Tags.{tag_place}
use Rattle.csm_grammar.specs.Values.{Value, ANumber, Kind, OfKey, OfCount, OfCode, kind_of, value_of}
use Rattle.csm_read.specs.Slotting.{slot_in, second_in}

-- the kinds of numbers
abbrev pub is_number : Kind → Bool
is_number OfKey = true
is_number OfCount = true
is_number OfCode = true
is_number k = false

-- contents of a kind stand for a value, and if it is a number, it is the one that is kept
pub record IsKeptValue (o : Option Value) (kept : ℕ) : Type 0 where
  pub some : is_some o ≡ true
  pub number : (n : ℕ) → o ≡ Some (ANumber n) → kept ≡ n

-- what is kept of contents of a kind, where they stand for something
abbrev pub IsDenoted : Kind → List ℕ → Option ℕ → Type 0
IsDenoted k c result = MatchOption result (value_of k c ≡ None) (IsKeptValue (value_of k c))

-- the value of the contents behind a tag
abbrev pub value_at : List (Option (Bor (List ℕ))) → Tag → Option Value
value_at slots t = option_and_then (value_of (kind_of t)) (slot_in slots t)

-- the value of a second KD
abbrev pub second_value : List (Option (Bor (List ℕ))) → Option Value
second_value slots = option_and_then (value_of OfKey) (second_in slots)

-- the number that is kept behind each tag, and that of a second KD, is the one that the contents stand
-- for, if they stand for one
pub record AreDenoted (slots : List (Option (Bor (List ℕ)))) (numbers : List ℕ) : Type 0 where
  pub tags : (t : Tag) (n : ℕ) → value_at slots t ≡ Some (ANumber n) → slice_index_or numbers (tag_place t) 0 ≡ n
  pub second : (n : ℕ) → second_value slots ≡ Some (ANumber n) → slice_index_or numbers 27 0 ≡ n
