-- What stands in front of bytes within a message, as the reader takes it.
use Rattle.std.specs.Prelude.{◌≡◌, ℕ, ◌+◌, ◌<◌, true, false, List, [], length, take, drop, slice_index, None}
use Rattle.std.specs.List.{list_all}
use Rattle.csm_read.specs.Judging.{is_plain}
use Rattle.csm_read.specs.Units.{stretches, end_place, put, units}

-- n bytes in front, and the byte that ends them
pub record IsRun (bytes : List ℕ) (n : ℕ) : Type 0 where
  pub within : n < length bytes
  pub plain : list_all is_plain (take n bytes) ≡ true
  pub ended : is_plain (slice_index bytes n) ≡ false

-- n bytes in front are the first unit of the bytes, wherever they stand; none where n is 0
pub record IsUnit (bytes : List ℕ) (n : ℕ) : Type 0 where
  pub within : n < length bytes
  pub ended : is_plain (slice_index bytes n) ≡ false
  pub first : (place : ℕ) → units (stretches place bytes) ≡ put (record { place = place; text = take n bytes; end = slice_index bytes n }) (units (stretches (place + n) (drop n bytes)))
  pub shut : (place : ℕ) → end_place (stretches place bytes) ≡ end_place (stretches (place + n) (drop n bytes))

-- no unit is ended
pub record RunsOut (bytes : List ℕ) : Type 0 where
  pub none : (place : ℕ) → units (stretches place bytes) ≡ []
  pub open_ : (place : ℕ) → end_place (stretches place bytes) ≡ None
