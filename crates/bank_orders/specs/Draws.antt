-- What is drawn for a new key-encrypting key (this project's profile): the left half, the right half where there
-- are two, and a data key, one after another at one moment.
use Rattle.std.specs.Prelude.{ℕ, Bool, true, false, Option, Some, None}
use Rattle.x_mac.specs.declared.pair.Pair.{Pair}
use Rattle.x_gen.specs.declared.generator.Gen.{Gen}
use Rattle.x_gen.specs.Gen.{good_draw}
use Rattle.bank_orders.specs.declared.draws.KkDrawn.{KkDrawn}

abbrev pub key_drawn : Pair → Option (ℕ × Gen) → Option KkDrawn
key_drawn new None = None
key_drawn new (Some d) = Some (record { pair = new; key = d.0; v = d.1.v })

abbrev pub right_drawn : ℕ → ℕ → Option (ℕ × Gen) → Option KkDrawn
right_drawn moment left None = None
right_drawn moment left (Some d) = key_drawn (record { left = left; right = d.0 }) (good_draw d.1 moment)

abbrev pub left_drawn : ℕ → Bool → Option (ℕ × Gen) → Option KkDrawn
left_drawn moment single None = None
left_drawn moment true (Some d) = key_drawn (record { left = d.0; right = d.0 }) (good_draw d.1 moment)
left_drawn moment false (Some d) = right_drawn moment d.0 (good_draw d.1 moment)

-- a single key is both halves
unfoldable pub kk_drawn : Gen → ℕ → Bool → Option KkDrawn
kk_drawn g moment single = left_drawn moment single (good_draw g moment)
