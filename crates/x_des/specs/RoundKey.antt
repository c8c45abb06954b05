-- How this project's key schedule keeps a round key: in a word of eight bytes, of which each ends with
-- the six bits of one S-box, in the order S1, S3, S5, S7, S2, S4, S6, S8.
use Rattle.std.specs.Prelude.{ℕ, zero, suc, ◌+◌, ◌-◌, ◌*◌, ◌/◌, ◌%◌, ◌^◌, List, [], ◌∷◌, Bool, bit_xor, slice_index, slice_index_or}
use Rattle.x_des.specs.Bits.{pick}

abbrev pub six_places : List ℕ
six_places =
    3 ∷ 4 ∷ 5 ∷ 6 ∷ 7 ∷ 8
    ∷ 35 ∷ 36 ∷ 37 ∷ 38 ∷ 39 ∷ 40
    ∷ 11 ∷ 12 ∷ 13 ∷ 14 ∷ 15 ∷ 16
    ∷ 43 ∷ 44 ∷ 45 ∷ 46 ∷ 47 ∷ 48
    ∷ 19 ∷ 20 ∷ 21 ∷ 22 ∷ 23 ∷ 24
    ∷ 51 ∷ 52 ∷ 53 ∷ 54 ∷ 55 ∷ 56
    ∷ 27 ∷ 28 ∷ 29 ∷ 30 ∷ 31 ∷ 32
    ∷ 59 ∷ 60 ∷ 61 ∷ 62 ∷ 63 ∷ 64 ∷ []

-- the round key of 48 bits that the word keeps
abbrev pub gathered : List Bool → List Bool
gathered word = pick six_places word

-- the exclusive or of entry i of the first n rows, each the one that the last four bits of that byte
-- of a word name
unfoldable pub added : List (List ℕ) → ℕ → ℕ → ℕ → ℕ
added rows bits zero i = 0
added rows bits (suc n) i = bit_xor (added rows bits n i) (slice_index (slice_index_or rows n []) (16 * (bits / 2 ^ (56 - 8 * n) % 16) + i))
