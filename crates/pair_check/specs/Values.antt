-- The check value of a pair of keys (this project's profile, after the practice of the field).
use Rattle.std.specs.Prelude.{ℕ, List, take}
use Rattle.std.specs.Int.{w64, to_be_bytes}
use Rattle.hex.specs.Hex.{encode_upper}
use Rattle.x_mac.specs.Pair.{ede_of}
use Rattle.x_mac.specs.declared.pair.Pair.{Pair}

-- the digits of the first three bytes of a block of zeros that is encrypted under the pair
abbrev pub check_value_of : Pair → List ℕ
check_value_of pair = encode_upper (take 3 (to_be_bytes w64 (ede_of pair 0)))
