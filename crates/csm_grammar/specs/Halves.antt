-- The two halves of a code (ANSI X9.17).
use Rattle.std.specs.Prelude.{◌≡◌, ℕ, List, length, slice_index}

-- nine bytes, a blank in the middle
pub record IsHalved (c : List ℕ) : Type 0 where
  pub nine : length c ≡ 9
  pub blank : slice_index c 4 ≡ 32
