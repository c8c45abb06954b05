-- Decimal digits, and what std reads of them.
use Rattle.std.proofs.Common.{◌≡◌, ℕ, ◌^◌, ◌<◌, Bool, true, false, List, length, Some, None, Result, Ok, Err, rules, refl, ap}
use Rattle.std.specs.Prelude.{nat_le, nat_lt}
use Rattle.std.specs.Char.{is_ascii_digit}
use Rattle.std.specs.List.{list_all}
use Rattle.std.specs.Result.{OkIff, result_ok}
use Rattle.std.specs.Str.{IsUtf8}
use Rattle.std.specs.Str.Parse.{digits_value, ParsesUnsigned}
use Rattle.std.proofs.lemmas.Bool.{le-leb, leb-true, lt-ltb, ltb-true}
use Rattle.std.proofs.lemmas.Str.Parse.{IsDigitsTest, IsNumeralModel, numerals_by_value, parse_digits}
use Rattle.std.proofs.lemmas.Str.{IsUtf8-from_ascii}
use Rattle.std.proofs.lemmas.Fmt.{IsAscii-from_digits}
use Rattle.x_values.specs.Words.{decimal_of}

abbrev AreDigits : List ℕ → Type 0
AreDigits ds = list_all is_ascii_digit ds ≡ true

tests : IsDigitsTest AreDigits
tests = search rules

own : IsNumeralModel AreDigits (digits_value 10)
own = numerals_by_value AreDigits tests

read_from : {E : Type 0} (ds : List ℕ) (r : Result ℕ E) → AreDigits ds → OkIff r ((0 < length ds) × (digits_value 10 ds < 2 ^ 64)) (digits_value 10 ds) → result_ok r ≡ decimal_of ds
read_from ds (Ok n) d h =
    rw (le-leb 1 (length ds) h.0.0, d, lt-ltb (digits_value 10 ds) (2 ^ 64) h.0.1) (ap (λ (k : ℕ). Some k) h.1)
read_from ds (Err e) d h = none (nat_le 1 (length ds)) (nat_lt (digits_value 10 ds) (2 ^ 64)) refl refl
  where
    none : (a b : Bool) → nat_le 1 (length ds) ≡ a → nat_lt (digits_value 10 ds) (2 ^ 64) ≡ b → None ≡ decimal_of ds
    none false b p q = rw p refl
    none true false p q = rw (p, d, q) refl
    none true true p q = absurd (h (leb-true 1 (length ds) p, ltb-true (digits_value 10 ds) (2 ^ 64) q))

pub digits_utf8 : (ds : List ℕ) → list_all is_ascii_digit ds ≡ true → IsUtf8 ds
digits_utf8 ds e = IsUtf8-from_ascii ds (IsAscii-from_digits ds (own.to ds e))

-- digits are read where there are any and their number fits
pub decimal_read : {E : Type 0} (ds : List ℕ) (r : Result ℕ E) → list_all is_ascii_digit ds ≡ true → ParsesUnsigned 64 10 ds r → result_ok r ≡ decimal_of ds
decimal_read ds r d p = read_from ds r d (parse_digits own 64 ds r p d)
