-- What is promised of every key that is drawn.
use Rattle.std.specs.Prelude.{◌≡◌, ℕ, ◌<◌, ◌^◌, false, Some}
use Rattle.x_gen.specs.Parity.{odd_parity_of, is_weak_key}
use Rattle.x_gen.specs.Gen.{good_draw}
use Rattle.x_gen.specs.declared.generator.Gen.{Gen}

-- a key of 64 bits that is left as it is when it is given odd parity
pub record IsOdd (key : ℕ) : Type 0 where
  pub below : key < 2 ^ 64
  pub same : odd_parity_of key ≡ key

-- every key is so once it has been given odd parity
abbrev pub OddStays : Type 0
OddStays = (key : ℕ) → IsOdd (odd_parity_of key)

-- and every key that sixteen draws give
abbrev pub DrawsOdd : Type 0
DrawsOdd = (g : Gen) (moment : ℕ) (d : ℕ × Gen) → good_draw g moment ≡ Some d → IsOdd d.0

-- no key that they give is weak
abbrev pub DrawsStrong : Type 0
DrawsStrong = (g : Gen) (moment : ℕ) (d : ℕ × Gen) → good_draw g moment ≡ Some d → is_weak_key d.0 ≡ false
