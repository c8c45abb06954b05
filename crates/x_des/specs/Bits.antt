-- Numbers as lists of bits, and what FIPS 46 does with such lists. The leftmost bit is the most
-- significant. The last three, on a block kept in halves, are this project's profile.
use Rattle.std.specs.Prelude.{ℕ, zero, suc, ◌+◌, ◌-◌, ◌^◌, ◌==◌, nat_le, ◌&&◌, Bool, true, false, List, [], ◌∷◌, ◌++◌, length, map, take, drop, slice_index_or, replicate, if◌then◌else◌}
use Rattle.std.specs.Int.{bit_at}

-- bit i of n, where bit 0 is the lowest
abbrev pub bit : ℕ → ℕ → Bool
bit n i = bit_at n i == 1

-- the w low bits of n
unfoldable pub bits_of : ℕ → ℕ → List Bool
bits_of zero n = []
bits_of (suc w) n = bit n w ∷ bits_of w n

-- the number that a list of bits writes: each bit weighs two to the number of bits behind it
unfoldable pub number : List Bool → ℕ
number [] = 0
number (b ∷ bs) = (if b then 2 ^ length bs else 0) + number bs

-- the bits at the places that a table lists, of which the first is 1
unfoldable pub pick : List ℕ → List Bool → List Bool
pick table bs = map (λ p. slice_index_or bs (p - 1) false) table

-- whether two bits differ
abbrev pub differ : Bool → Bool → Bool
differ true true = false
differ true false = true
differ false c = c

-- exclusive or, bit by bit; bits that the second list lacks count as zeros
unfoldable pub exclusive_or : List Bool → List Bool → List Bool
exclusive_or [] cs = []
exclusive_or (b ∷ bs) [] = b ∷ bs
exclusive_or (b ∷ bs) (c ∷ cs) = differ b c ∷ exclusive_or bs cs

-- the list shifted to the left by n places in a circle
abbrev pub rotated : ℕ → List Bool → List Bool
rotated n bs = drop n bs ++ take n bs

-- whether a table's entry is a place among w bits
abbrev pub is_place : ℕ → ℕ → Bool
is_place w p = nat_le 1 p && nat_le p w

-- the list shifted to the left by n places, at most its length, zeros following
abbrev pub shifted_left : ℕ → List Bool → List Bool
shifted_left n bs = drop n bs ++ replicate n false

-- the list shifted to the right by n places, at most its length, zeros before it
abbrev pub shifted_right : ℕ → List Bool → List Bool
shifted_right n bs = replicate n false ++ take (length bs - n) bs

-- the bits of the second list where the first has ones, and those of the third elsewhere
unfoldable pub chosen : List Bool → List Bool → List Bool → List Bool
chosen [] bs cs = []
chosen (m ∷ ms) [] cs = []
chosen (m ∷ ms) (b ∷ bs) [] = []
chosen (m ∷ ms) (b ∷ bs) (c ∷ cs) = (if m then b else c) ∷ chosen ms bs cs
