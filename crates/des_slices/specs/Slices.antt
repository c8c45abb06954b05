-- Blocks side by side in the bits of vectors (this project's profile).
use Rattle.std.specs.Prelude.{ℕ, ◌++◌, List, map}
use Rattle.std.specs.List.{range_with_len}
use Rattle.x_des.specs.Bits.{number, pick}
use Rattle.x_des.specs.Tables.{ip_inverse}
use Rattle.des_slices.specs.Vectors.{AreVectors, lane, words_of}
use Rattle.des_slices.specs.declared.slices.Slices.TheInside.{Inside}

-- a number for each lane
unfoldable pub in_lanes : (ℕ → ℕ) → List ℕ
in_lanes f = map f (range_with_len 0 128)

-- the block of which IP makes the two halves of a lane
abbrev pub block_in : Inside → ℕ → ℕ
block_in s l = number (pick ip_inverse (lane l (words_of s.left) ++ lane l (words_of s.right)))

-- the blocks of all lanes
abbrev pub blocks_of : Inside → List ℕ
blocks_of s = in_lanes (block_in s)

-- the vectors of both halves
pub record HasVectors (s : Inside) : Type 0 where
  pub left : AreVectors s.left
  pub right : AreVectors s.right
