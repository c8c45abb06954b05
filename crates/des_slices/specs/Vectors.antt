-- Bits of lanes in vectors (this project's profile).
use Rattle.std.specs.Prelude.{◌≡◌, ℕ, ◌/◌, ◌%◌, Bool, false, List, [], ◌∷◌, map, length, slice_index_or, slice_set}
use mir.Val.{Fits}
use mir.Syntax.{w64}
use Rattle.std.specs.Simd.Lanes.{Each1}
use Rattle.x_des.specs.Bits.{bit, differ}
use Rattle.des_slices.specs.declared.vector.Vector.{Vector}

-- the bit of a lane in a vector of two words: lane 64 w + i has bit i of word w, where bit 0 is the lowest
abbrev pub lane_bit : ℕ → List ℕ → Bool
lane_bit l v = bit (slice_index_or v (l / 64) 0) (l % 64)

-- the bits of a lane in vectors
unfoldable pub lane : ℕ → List (List ℕ) → List Bool
lane l vs = map (lane_bit l) vs

-- two words of 64 bits
pub record IsVector (v : List ℕ) : Type 0 where
  pub two : length v ≡ 2
  pub fits : Each1 (Fits w64) v

-- the words of each vector
abbrev pub words_of : List Vector → List (List ℕ)
words_of vs = map (λ (v : Vector). v.words) vs

-- each is one
abbrev pub AreVectors : List Vector → Type 0
AreVectors vs = Each1 IsVector (words_of vs)

-- bits with others put onto those at these places by exclusive or, one after the other
unfoldable pub put_at : List ℕ → List Bool → List Bool → List Bool
put_at [] cs bs = bs
put_at (p ∷ ps) [] bs = bs
put_at (p ∷ ps) (c ∷ cs) bs = put_at ps cs (slice_set bs p (differ (slice_index_or bs p false) c))
