-- What a word of a command line or of a scenario stands for: this project's profile.
use Rattle.std.specs.Prelude.{ℕ, ◌==◌, ◌&&◌, ◌^◌, not, nat_le, nat_lt, List, length, take, drop, slice_index, Option, Some, None, option_map, option_and_then, if◌then◌else◌}
use Rattle.std.specs.Result.{result_ok}
use Rattle.std.specs.Char.{is_ascii_digit}
use Rattle.std.specs.Int.{w64, from_be_bytes}
use Rattle.std.specs.List.{list_all}
use Rattle.std.specs.Str.Parse.{digits_value}
use Rattle.hex.specs.Hex.{decode_sized}
use Rattle.x_base.specs.Names.{is_name}
use Rattle.x_base.specs.declared.key_name.KeyName.{KeyName}
use Rattle.x_mac.specs.declared.pair.Pair.{Pair}
use Rattle.csm_grammar.specs.Values as message

-- an identity
abbrev pub ident_of : List ℕ → Option (List ℕ)
ident_of word = if is_name 4 16 word then Some word else None

-- a label
abbrev pub label_of : List ℕ → Option (List ℕ)
label_of word = if is_name 1 16 word then Some word else None

-- a count, as it is spelled in a message: 1 to 14 digits, with leading zeros too
abbrev pub count_of : List ℕ → Option ℕ
count_of digits = if message.is_count digits then Some (digits_value 10 digits) else None

-- the name of a key, as it is spelled in a message
abbrev pub key_name_of : List ℕ → Option KeyName
key_name_of word = message.name_of word

-- a key: sixteen hexadecimal digits of either case, the first byte most significant
abbrev pub key_of : List ℕ → Option ℕ
key_of digits = option_map (from_be_bytes w64) (result_ok (decode_sized digits 8))

-- a pair of two keys
abbrev pub pair_with : Option ℕ → Option ℕ → Option Pair
pair_with (Some l) (Some r) = Some (record { left = l; right = r })
pair_with l r = None

-- a pair: thirty-two digits, the left half first
abbrev pub pair_of : List ℕ → Option Pair
pair_of digits =
    if length digits == 32 then pair_with (key_of (take 16 digits)) (key_of (drop 16 digits))
    else None

-- a pair, or one key as a pair of equal halves
abbrev pub one_or_two_of : List ℕ → Option Pair
one_or_two_of digits =
    if length digits == 16 then pair_with (key_of digits) (key_of digits) else pair_of digits

-- the number that decimal digits, one or more, write in 64 bits
abbrev pub decimal_of : List ℕ → Option ℕ
decimal_of digits =
    if (nat_le 1 (length digits) && list_all is_ascii_digit digits) && nat_lt (digits_value 10 digits) (2 ^ 64)
    then Some (digits_value 10 digits) else None

-- 1 to 20 digits, with leading zeros too
abbrev pub number_of : List ℕ → Option ℕ
number_of digits = if nat_le (length digits) 20 then decimal_of digits else None

-- digits without a leading zero; 0 alone is zero
abbrev pub plain_number_of : List ℕ → Option ℕ
plain_number_of digits =
    if not (length digits == 1) && (slice_index digits 0 == 48) then None else decimal_of digits

-- this number, if it lies between these two
abbrev pub within : ℕ → ℕ → ℕ → Option ℕ
within low high n = if nat_le low n && nat_le n high then Some n else None

-- such a number from low to high
abbrev pub plain_number_within : ℕ → ℕ → List ℕ → Option ℕ
plain_number_within low high digits = option_and_then (within low high) (plain_number_of digits)
