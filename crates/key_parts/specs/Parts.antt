-- Keys that come as lines of an input (this project's profile): from one to three components of one length, each on a line of its
-- own, which are joined by exclusive or.
use Rattle.std.specs.Prelude.{ℕ, zero, suc, ◌+◌, ◌==◌, ◌&&◌, List, [], ◌∷◌, length, take, drop, slice_index, bit_xor, Option, Some, None, option_map, option_and_then, Result, Ok, Err, if◌then◌else◌}
use Rattle.std.specs.List.{position}
use Rattle.x_mac.specs.declared.pair.Pair.{Pair}
use Rattle.x_values.specs.Words.{key_of, one_or_two_of, pair_of}
use Rattle.key_parts.specs.declared.part.Form.{Form}
use Rattle.key_parts.specs.declared.part.Form.TheVariants as form
use Rattle.key_parts.specs.declared.part.Part.{Part}

-- a pair with a seed
abbrev pub part_with : Option Pair → Option ℕ → Option Part
part_with (Some p) (Some s) = Some (record { pair = p; seed = s })
part_with p s = None

-- of a generator: the 32 digits of its pair, a blank, and the 16 of its seed
abbrev pub generator_of : List ℕ → Option Part
generator_of line =
    if (length line == 49) && (slice_index line 32 == 32) then part_with (pair_of (take 32 line)) (key_of (drop 33 line))
    else None

-- the component that a line spells
abbrev pub part_of : Form → List ℕ → Option Part
part_of form.Key line = part_with (one_or_two_of line) (Some 0)
part_of form.Generator line = generator_of line

-- two components joined
abbrev pub joined_pair : Pair → Pair → Pair
joined_pair a b = record { left = bit_xor a.left b.left; right = bit_xor a.right b.right }

abbrev pub joined_with : Part → Part → Part
joined_with a b = record { pair = joined_pair a.pair b.pair; seed = bit_xor a.seed b.seed }

-- the bytes before the first line feed, and those behind it
abbrev pub first_line : List ℕ → Option (List ℕ × List ℕ)
first_line bytes = option_map (λ at. (take at bytes, drop (at + 1) bytes)) (position (λ b. b == 10) bytes)

-- how long the first line is; 0 where there is none
abbrev pub line_length : Option (List ℕ × List ℕ) → ℕ
line_length None = 0
line_length (Some p) = length p.0

-- the component that a line of so many bytes spells
abbrev pub part_of_length : Form → ℕ → List ℕ → Option Part
part_of_length f n line = if length line == n then part_of f line else None

-- the component that the first line spells, if it has so many bytes, and the bytes behind that line
abbrev pub first_part : Form → ℕ → List ℕ → Option (Part × List ℕ)
first_part f n bytes = option_and_then (λ p. option_map (λ part. (part, p.1)) (part_of_length f n p.0)) (first_line bytes)

-- a component, with what the lines behind it give; where none stand, it is the whole
abbrev pub joined_onto : Part → List ℕ → Result Part ℕ → Result Part ℕ
joined_onto part [] others = Ok part
joined_onto part (b ∷ rest) (Ok other) = Ok (joined_with part other)
joined_onto part (b ∷ rest) (Err number) = Err number

-- the first component, with what is read behind its line; or the number of that line
abbrev pub joined_at : ℕ → Option (Part × List ℕ) → (List ℕ → Result Part ℕ) → Result Part ℕ
joined_at number None behind = Err number
joined_at number (Some p) behind = joined_onto p.0 p.1 (behind p.1)

-- the key of so many lines at most of n bytes each, the first of them of this number; or the number of the first that isn't one
abbrev pub entered_from : Form → ℕ → ℕ → ℕ → List ℕ → Result Part ℕ
entered_from f n zero number bytes = Err number
entered_from f n (suc lines) number bytes = joined_at number (first_part f n bytes) (entered_from f n lines (number + 1))

-- the key that an input gives, its lines as long as the first one; or the number of its first line at fault
abbrev pub entered_of : Form → List ℕ → Result Part ℕ
entered_of f bytes = entered_from f (line_length (first_line bytes)) 3 1 bytes
