-- The counts of ANSI X9.17, and how they are written: the bounds are this project's profile.
use Rattle.std.specs.Prelude.{ℕ, ◌≤◌, ◌≢◌, List, length}
use Rattle.std.specs.Str.Parse.{digits_value, AllDigits}

-- the highest count
abbrev pub count_limit : ℕ
count_limit = 99999999999999

-- from 1 to the limit
pub record IsCount (n : ℕ) : Type 0 where
  pub low : 1 ≤ n
  pub high : n ≤ count_limit

-- 1 to 14 digits, not all of them zero
pub record SpellsCount (bytes : List ℕ) : Type 0 where
  pub filled : 1 ≤ length bytes
  pub short : length bytes ≤ 14
  pub digits : AllDigits 10 bytes
  pub value : digits_value 10 bytes ≢ 0
