-- Bits that are exchanged between vectors (this project's profile).
use Rattle.std.specs.Prelude.{◌≡◌, ℕ, ◌+◌, ◌-◌, ◌*◌, ◌/◌, ◌%◌, ◌^◌, ◌<◌, List, [], slice_index_or}
use Rattle.std.specs.Int.{bit_at}

-- bit p of word w of vector i
abbrev pub word_bit : List (List ℕ) → ℕ → ℕ → ℕ → ℕ
word_bit vs i w p = bit_at (slice_index_or (slice_index_or vs i []) w 0) p

-- a mask whose places, moved up by a distance, are those that it lacks
abbrev pub IsMask : ℕ → ℕ → Type 0
IsMask distance mask = mask * 2 ^ distance % 2 ^ 64 ≡ 2 ^ 64 - 1 - mask

-- the place in one of two vectors whose bit comes to place p of the first (e = 0) or of the second (e = 1)
unfoldable pub place_from : ℕ → ℕ → ℕ → ℕ → ℕ
place_from distance mask e p = p + distance * bit_at mask p - distance * e

-- two vectors: the first gets at the mask's places the second's bits from higher places, and the second gets at
-- the other places the first's bits from lower ones
abbrev pub Exchanged : ℕ → ℕ → List (List ℕ) → List (List ℕ) → Type 0
Exchanged distance mask old new = (e w p : ℕ) → e < 2 → w < 2 → p < 64 → word_bit new e w p ≡ word_bit old (bit_at mask p) w (place_from distance mask e p)

-- the vector whose bit comes to place p of vector i
unfoldable pub vector_from : ℕ → ℕ → ℕ → ℕ
vector_from mask i p = i / 2 + 32 * bit_at mask p

-- 64 vectors: vectors k and 32 + k are exchanged so, and come to the places 2 k and 2 k + 1
abbrev pub IsLevel : ℕ → ℕ → List (List ℕ) → List (List ℕ) → Type 0
IsLevel distance mask old new =
    (i w p : ℕ) → i < 64 → w < 2 → p < 64 → word_bit new i w p ≡ word_bit old (vector_from mask i p) w (place_from distance mask (i % 2) p)
