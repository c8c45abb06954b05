-- A block behind IP, in two doubled halves (this project's profile).
use Rattle.std.specs.Prelude.{◌≡◌, ℕ, zero, suc, ◌++◌, ◌∷◌, Bool, false, List, [], take, drop}
use Rattle.x_des.specs.Bits.{bits_of, chosen, number, pick, rotated}
use Rattle.x_des.specs.Tables.{ip_inverse}
use Rattle.x_des.specs.declared.block.Block.TheInside.{Inside}

-- the first n bytes of a list of bits, each with zeros for its first two bits
unfoldable pub sixes : ℕ → List Bool → List Bool
sixes zero bs = []
sixes (suc n) bs = false ∷ false ∷ take 6 (drop 2 bs) ++ sixes n (drop 8 bs)

-- the 48 bits that E makes of 32, those for each S-box in a byte that begins with two zeros: for S1, S3, S5 and S7
-- out of the first rotation, and for S2, S4, S6 and S8 out of the second
abbrev pub doubled : List Bool → List Bool
doubled bs = sixes 8 (rotated 29 bs ++ rotated 1 bs)

-- the 32 bits whose double a list of 64 bits is: those that the second rotation lacks stand in the first
abbrev pub undoubled : List Bool → List Bool
undoubled bs = chosen (bits_of 32 0x9f9f9f9f) (rotated 31 (drop 32 bs)) (rotated 3 (take 32 bs))

-- the 32 bits whose double a word is
abbrev pub half : ℕ → List Bool
half word = undoubled (bits_of 64 word)

abbrev pub IsDoubled : ℕ → Type 0
IsDoubled word = bits_of 64 word ≡ doubled (half word)

-- both halves are doubled
pub record HasDoubledHalves (b : Inside) : Type 0 where
  pub left : IsDoubled b.left
  pub right : IsDoubled b.right

-- the block that IP makes these halves of
abbrev pub block_of : Inside → ℕ
block_of b = number (pick ip_inverse (half b.left ++ half b.right))
