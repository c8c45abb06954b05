-- A key that is drawn has 64 bits and odd parity.
use Rattle.std.proofs.Common.{◌≡◌, ℕ, ◌^◌, ◌<◌, Some}
use Rattle.x_gen.specs.declared.generator.Gen.{Gen}
use Rattle.x_gen.specs.Parity.{odd_parity_of}
use Rattle.x_gen.specs.Gen.{good_draw}
use Rattle.x_gen.proofs.Drawn.{draws_odd}

pub drawn_below : (g : Gen) (moment : ℕ) (d : ℕ × Gen) → good_draw g moment ≡ Some d → d.0 < 2 ^ 64
drawn_below g moment d h = (draws_odd g moment d h).below

pub drawn_odd : (g : Gen) (moment : ℕ) (d : ℕ × Gen) → good_draw g moment ≡ Some d → odd_parity_of d.0 ≡ d.0
drawn_odd g moment d h = (draws_odd g moment d h).same
