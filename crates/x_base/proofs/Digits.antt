-- Decimal digits, and what std reads of them.
use Rattle.std.proofs.Common.{◌≡◌, ℕ, ◌^◌, ◌<◌, ◌≤◌, ◌≢◌, true, false, List, length, Option, Some, None, Result, Ok, Err, arith, rules, ◌∙◌}
use Rattle.std.specs.Char.{is_ascii_digit}
use Rattle.std.specs.List.{list_all}
use Rattle.std.specs.Option.{SomeIff, ok_or}
use Rattle.std.specs.Result.{OkIff, result_ok}
use Rattle.std.specs.Str.{IsUtf8}
use Rattle.std.specs.Str.Parse.{digits_value, AllDigits, ParsesUnsigned}
use Rattle.std.proofs.lemmas.Str.Parse.{IsDigitsTest, IsNumeralModel, numerals_by_value, parse_digits, digits_value_short}
use Rattle.std.proofs.lemmas.Str.{IsUtf8-from_ascii}
use Rattle.std.proofs.lemmas.Fmt.{IsAscii-from_digits}
use Rattle.x_base.specs.Count.{IsCount, SpellsCount}

-- all are decimal digits, as a test
abbrev AreDigits : List ℕ → Type 0
AreDigits ds = list_all is_ascii_digit ds ≡ true

tests : IsDigitsTest AreDigits
tests = search rules

pub own : IsNumeralModel AreDigits (digits_value 10)
own = numerals_by_value AreDigits tests

pub no_digits : (ds : List ℕ) → list_all is_ascii_digit ds ≡ false → AllDigits 10 ds → ⊥
no_digits ds e h = let t : list_all is_ascii_digit ds ≡ true = own.from ds h in cc

pub digits_utf8 : (ds : List ℕ) → list_all is_ascii_digit ds ≡ true → IsUtf8 ds
digits_utf8 ds e = IsUtf8-from_ascii ds (IsAscii-from_digits ds (own.to ds e))

some_from_ok : {E : Type 0} (P Q : Type 0) (r : Result ℕ E) (v : ℕ) → (P → Q) → (Q → P) → OkIff r P v → SomeIff (result_ok r) Q v
some_from_ok P Q (Ok x) v f g h = (f h.0, h.1)
some_from_ok P Q (Err e) v f g h = λ q. h (g q)

-- fourteen digits always fit in 64 bits
pub digits_parsed : {E : Type 0} (ds : List ℕ) (r : Result ℕ E) → length ds ≤ 14 → list_all is_ascii_digit ds ≡ true → ParsesUnsigned 64 10 ds r → SomeIff (result_ok r) ((0 < length ds) × AllDigits 10 ds) (digits_value 10 ds)
digits_parsed ds r short e p =
    let room : digits_value 10 ds < 10 ^ 14 = digits_value_short own ds 14 e short in
    let fits : digits_value 10 ds < 2 ^ 64 = omega (arith, room) in
    some_from_ok _ _ r (digits_value 10 ds)
    (λ (h : (0 < length ds) × (digits_value 10 ds < 2 ^ 64)). (h.0, own.to ds e))
    (λ (h : (0 < length ds) × AllDigits 10 ds). (h.0, fits))
    (parse_digits own 64 ds r p e)

digits_below : (ds : List ℕ) → length ds ≤ 14 → AllDigits 10 ds → digits_value 10 ds < 10 ^ 14
digits_below ds short h = digits_value_short own ds 14 (own.from ds h) short

positive : (n : ℕ) → n ≢ 0 → 1 ≤ n
positive n h = omega (arith, h)

count_of_spelled : (ds : List ℕ) (value : ℕ) → value ≡ digits_value 10 ds → SpellsCount ds → IsCount value
count_of_spelled ds value e s =
    let below : digits_value 10 ds < 10 ^ 14 = digits_below ds s.short s.digits in
    let low : 1 ≤ digits_value 10 ds = positive (digits_value 10 ds) s.value in
    record { low = omega (arith, low, e); high = omega (arith, below, e) }

spelled_count : (ds : List ℕ) (value : ℕ) → length ds ≤ 14 → (0 < length ds) × AllDigits 10 ds → value ≡ digits_value 10 ds → IsCount value → SpellsCount ds
spelled_count ds value short h e c = record {
  filled = omega (arith, h.0);
  short = short;
  digits = h.1;
  value = λ (zero_is : digits_value 10 ds ≡ 0). omega (arith, c.low, e, zero_is);
}

-- a count is read where its digits spell one
pub count_read : {E : Type 0} (ds : List ℕ) (value : ℕ) (count : Option ℕ) (fault : E) → length ds ≤ 14 → ((0 < length ds) × AllDigits 10 ds) × (value ≡ digits_value 10 ds) → SomeIff count (IsCount value) value → OkIff (ok_or count fault) (SpellsCount ds) (digits_value 10 ds)
count_read ds value (Some n) fault short h s = (spelled_count ds value short h.0 h.1 s.0, s.1 ∙ h.1)
count_read ds value None fault short h s = λ (spelled : SpellsCount ds). s (count_of_spelled ds value h.1 spelled)
