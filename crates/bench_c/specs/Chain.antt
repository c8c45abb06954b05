-- A chain of blocks, each the encryption (FIPS 46) of the one before; the chain is this project's profile.
use Rattle.std.specs.Prelude.{ℕ, zero, suc}
use Rattle.x_des.specs.Des.{enciphered}

-- the block that is reached after so many encryptions
unfoldable pub chained : ℕ → ℕ → ℕ → ℕ
chained key block zero = block
chained key block (suc n) = enciphered key (chained key block n)
