-- Keys and numbers are read of their digits.
use Rattle.std.proofs.Common.{◌≡◌, ℕ, zero, suc, ◌*◌, ◌/◌, ◌%◌, ◌<◌, ◌≤◌, ◌^◌, ◌==◌, ◌&&◌, not, true, false, List, [], ◌∷◌, length, Some, refl, ap, ◌∙◌, arith, rules}
use Rattle.std.specs.Prelude.{slice_index, option_map, nat_le, nat_lt}
use Rattle.std.specs.Char.{is_ascii_digit}
use Rattle.std.specs.Fmt.{decimal}
use Rattle.std.specs.Int.{w64, to_be_bytes, from_be_bytes, byte_at, bytes_high_first}
use Rattle.std.specs.List.{list_all}
use Rattle.std.specs.Result.{result_ok}
use Rattle.std.specs.Str.Parse.{digits_value}
use Rattle.std.proofs.lemmas.Bool.{and_from, and_parts, and_left, and_right, eq-eqb, ne_eqb, le-leb, lt-ltb, leb-true}
use Rattle.std.proofs.lemmas.Fmt.{decimal_nonempty, digits_decimal, digits_value-decimal, first_decimal, length-decimal-le}
use Rattle.std.proofs.lemmas.Nat.{from_be_bytes-to_be_bytes_8}
use Rattle.std.proofs.lemmas.Str.Parse.{IsDigitsTest, IsNumeralModel, numerals_by_value}
use Rattle.hex.specs.Hex.{encode_with, encode_upper, upper_digits}
use Rattle.hex.proofs.HexLemmas.{decode_of-encode_upper, decode_sized-twice, length-encode_with}
use Rattle.x_values.specs.Words.{decimal_of, key_of, number_of, plain_number_of}
use Rattle.scenario_drill.specs.Drill.{key_digits}
use Rattle.scenario_drill.proofs.Spelling.{is_plain, are_plain}

-- ---- keys

rest_below : (n : ℕ) → n % 256 < 256
rest_below n = omega arith

byte_below : (k n : ℕ) → byte_at k n < 256
byte_below zero n = rest_below n
byte_below (suc k) n = rest_below (n / 256 ^ suc k)

bytes_below : (k n i : ℕ) → slice_index (bytes_high_first k n) i < 256
bytes_below zero n i = omega arith
bytes_below (suc k) n zero = byte_below k n
bytes_below (suc k) n (suc i) = bytes_below k n i

pub key_read : (n : ℕ) → n < 2 ^ 64 → key_of (key_digits n) ≡ Some n
key_read n low =
    let size : length (encode_upper (to_be_bytes w64 n)) ≡ 2 * 8 = length-encode_with upper_digits (to_be_bytes w64 n) in
    ap (λ r. option_map (from_be_bytes w64) (result_ok r)) (decode_sized-twice (encode_upper (to_be_bytes w64 n)) 8 size ∙ decode_of-encode_upper (to_be_bytes w64 n) (bytes_below 8 n))
    ∙ ap Some (from_be_bytes-to_be_bytes_8 n low)

index_plain : (bs : List ℕ) (i : ℕ) → are_plain bs ≡ true → is_plain (slice_index bs i) ≡ true
index_plain [] zero plain = refl
index_plain [] (suc i) plain = refl
index_plain (b ∷ bs) zero plain = (and_parts (is_plain b) (are_plain bs) plain).0
index_plain (b ∷ bs) (suc i) plain = index_plain bs i (and_parts (is_plain b) (are_plain bs) plain).1

encoded_plain : (bytes : List ℕ) → are_plain (encode_upper bytes) ≡ true
unfolding encode_with
encoded_plain [] = refl
encoded_plain (b ∷ bytes) =
    and_from (is_plain (slice_index upper_digits (b / 16))) _ (index_plain upper_digits (b / 16) refl)
    (and_from (is_plain (slice_index upper_digits (b % 16))) _ (index_plain upper_digits (b % 16) refl) (encoded_plain bytes))

pub key_plain : (n : ℕ) → are_plain (key_digits n) ≡ true
key_plain n = encoded_plain (to_be_bytes w64 n)

-- ---- numbers

abbrev AreDigits : List ℕ → Type 0
AreDigits ds = list_all is_ascii_digit ds ≡ true

tests : IsDigitsTest AreDigits
tests = search rules

own : IsNumeralModel AreDigits (digits_value 10)
own = numerals_by_value AreDigits tests

numeral_by : (ds : List ℕ) (n : ℕ) → ((nat_le 1 (length ds) && list_all is_ascii_digit ds) && nat_lt (digits_value 10 ds) (2 ^ 64)) ≡ true → digits_value 10 ds ≡ n → decimal_of ds ≡ Some n
numeral_by ds n test value = rw test (ap Some value)

numeral : (n : ℕ) → n < 2 ^ 64 → decimal_of (decimal n) ≡ Some n
numeral n low =
    let value : digits_value 10 (decimal n) ≡ n = digits_value-decimal own n low in
    numeral_by (decimal n) n
    (and_from _ _ (and_from _ _ (le-leb 1 (length (decimal n)) (omega (arith, decimal_nonempty n low))) (digits_decimal own n low)) (lt-ltb (digits_value 10 (decimal n)) (2 ^ 64) (omega (arith, value, low)))) value

number_by : (ds : List ℕ) (n : ℕ) → nat_le (length ds) 20 ≡ true → decimal_of ds ≡ Some n → number_of ds ≡ Some n
number_by ds n test is = rw test is

pub number_short : (n : ℕ) → n < 2 ^ 64 → length (decimal n) ≤ 20
number_short n low = length-decimal-le 20 n (omega arith) (omega (arith, low)) low

pub number_read : (n : ℕ) → n < 2 ^ 64 → number_of (decimal n) ≡ Some n
number_read n low = number_by (decimal n) n (le-leb (length (decimal n)) 20 (number_short n low)) (numeral n low)

plain_by : (ds : List ℕ) (n : ℕ) → (not (length ds == 1) && (slice_index ds 0 == 48)) ≡ false → decimal_of ds ≡ Some n → plain_number_of ds ≡ Some n
plain_by ds n test is = rw test is

pub plain_read : (n : ℕ) → n < 2 ^ 64 → plain_number_of (decimal n) ≡ Some n
plain_read zero low =
    let one : length (decimal 0) ≡ 1 = omega (arith, length-decimal-le 1 0 (omega arith) (omega arith) (omega arith), decimal_nonempty 0 (omega arith)) in
    plain_by (decimal 0) 0 (and_left (not (length (decimal 0) == 1)) (slice_index (decimal 0) 0 == 48) (ap not (eq-eqb (length (decimal 0)) 1 one))) (numeral 0 (omega arith))
plain_read (suc m) low =
    let first : 48 < slice_index (decimal (suc m)) 0 = first_decimal (suc m) (omega arith) low in
    plain_by (decimal (suc m)) (suc m) (and_right (not (length (decimal (suc m)) == 1)) (slice_index (decimal (suc m)) 0 == 48) (ne_eqb (slice_index (decimal (suc m)) 0) 48 (λ e. omega (arith, e, first)))) (numeral (suc m) low)

digit_plain : (d : ℕ) → is_ascii_digit d ≡ true → is_plain d ≡ true
digit_plain d is =
    let p = and_parts (nat_le 48 d) (nat_le d 57) is in
    let low : 48 ≤ d = leb-true 48 d p.0 in
    and_from (not (d == 32)) (not (d == 10)) (ap not (ne_eqb d 32 (λ e. omega (arith, e, low)))) (ap not (ne_eqb d 10 (λ e. omega (arith, e, low))))

digits_plain : (ds : List ℕ) → list_all is_ascii_digit ds ≡ true → are_plain ds ≡ true
digits_plain [] all = refl
digits_plain (d ∷ ds) all = let p = and_parts (is_ascii_digit d) (list_all is_ascii_digit ds) all in and_from (is_plain d) (are_plain ds) (digit_plain d p.0) (digits_plain ds p.1)

pub number_plain : (n : ℕ) → n < 2 ^ 64 → are_plain (decimal n) ≡ true
number_plain n low = digits_plain (decimal n) (digits_decimal own n low)
