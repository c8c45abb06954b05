-- Upper-case hexadecimal digits write the number.
use Rattle.std.proofs.Common.{◌≡◌, ℕ, zero, suc, ◌+◌, ◌*◌, ◌/◌, ◌%◌, ◌^◌, ◌<◌, Bool, true, List, [], ◌∷◌, ◌++◌, length, map, take, drop, Some, refl, sym, ◌∙◌, ap, subst, arith, length-append, inl, inr}
use Rattle.std.specs.Prelude.{◌&&◌, ◌==◌, nat_lt, slice_index}
use Rattle.std.specs.List.{list_all}
use Rattle.std.specs.Char.{digit_value, to_ascii_uppercase}
use Rattle.std.specs.Str.Parse.{digits_value, digits_value_after}
use Rattle.std.specs.Int.{w32, w64, from_be_bytes, byte_at, bytes_high_first}
use Rattle.std.specs.Int.Digits.{number_from_digits_after}
use Rattle.std.proofs.Math.ListN.{get_or-map}
use Rattle.std.proofs.Math.Seq.{take-append_seam, drop-append_seam}
use Rattle.std.proofs.lemmas.Bool.{and_parts, and_from, cases_lt, eqb-true, eq-eqb, lt-ltb}
use Rattle.std.proofs.lemmas.List.Folds.{list_all-append}
use Rattle.std.proofs.lemmas.Nat.{from_be_bytes-to_be_bytes_4, from_be_bytes-to_be_bytes_8}
use Rattle.hex.specs.Hex.{encode_lower, encode_upper, encode_with, lower_digits, upper_digits}
use Rattle.csm_grammar.specs.Values.{is_hex, Denotes, ANumber, APair, OfKey, OfPair, OfCode}
use Rattle.csm_write.specs.Canon.{key_digits, code_digits}

-- lower-case digits in upper case

digit_raised : (k : ℕ) → to_ascii_uppercase (slice_index lower_digits k) ≡ slice_index upper_digits k
digit_raised k = sym (get_or-map to_ascii_uppercase lower_digits k 0)

pub upper_from_lower : (bytes : List ℕ) → map to_ascii_uppercase (encode_lower bytes) ≡ encode_upper bytes
unfolding encode_with
upper_from_lower [] = refl
upper_from_lower (b ∷ bytes) = rw (digit_raised (b / 16), digit_raised (b % 16), upper_from_lower bytes) refl

-- the first n digits of the table have the values of their places
abbrev are_values : ℕ → Bool
are_values zero = true
are_values (suc n) = (digit_value (slice_index upper_digits n) == n) && are_values n

value_below : (n k : ℕ) → are_values n ≡ true → k < n → digit_value (slice_index upper_digits k) ≡ k
value_below zero k h lt = absurd (omega arith)
value_below (suc n) k h lt =
    let p = and_parts (digit_value (slice_index upper_digits n) == n) (are_values n) h in
    elim (cases_lt k n) [
      | inl below ↦ value_below n k p.1 below
      | inr top ↦
          let e : k ≡ n = omega arith in
          rw e (eqb-true (digit_value (slice_index upper_digits n)) n p.0)
    ]

digit_is : (k : ℕ) → k < 16 → digit_value (slice_index upper_digits k) ≡ k
digit_is k h = value_below 16 k refl h

below : (n : ℕ) → n % 256 < 256
below n = omega arith

byte_below : (k n : ℕ) → byte_at k n < 256
byte_below zero n = below n
byte_below (suc k) n = below (n / 256 ^ suc k)

abbrev hex_test : ℕ → Bool
hex_test b = nat_lt (digit_value b) 16

-- the two digits of a byte
pub record Digits (b : ℕ) : Type 0 where
  pub high : digit_value (slice_index upper_digits (b / 16)) ≡ b / 16
  pub low : digit_value (slice_index upper_digits (b % 16)) ≡ b % 16
  pub high_small : b / 16 < 16
  pub low_small : b % 16 < 16

digits_of : (b : ℕ) → b < 256 → Digits b
digits_of b h =
    let high : b / 16 < 16 = omega arith in
    let low : b % 16 < 16 = omega arith in
    record { high = digit_is (b / 16) high; low = digit_is (b % 16) low; high_small = high; low_small = low }

high_value : (k n acc : ℕ) → digits_value_after 16 acc (encode_upper (bytes_high_first k n)) ≡ number_from_digits_after 256 acc (bytes_high_first k n)
unfolding encode_with
high_value zero n acc = refl
high_value (suc k) n acc =
    let b = byte_at k n in
    let d = digits_of b (byte_below k n) in
    let high = d.high in
    let low = d.low in
    let both : (acc * 16 + digit_value (slice_index upper_digits (b / 16))) * 16 + digit_value (slice_index upper_digits (b % 16)) ≡ acc * 256 + b = omega (arith, high, low) in
    ap (λ (m : ℕ). digits_value_after 16 m (encode_with upper_digits (bytes_high_first k n))) both ∙ high_value k n (acc * 256 + b)

high_digits : (k n : ℕ) → list_all hex_test (encode_upper (bytes_high_first k n)) ≡ true
unfolding encode_with
high_digits zero n = refl
high_digits (suc k) n =
    let b = byte_at k n in
    let d = digits_of b (byte_below k n) in
    let high = d.high in
    let low = d.low in
    let hs = d.high_small in
    let ls = d.low_small in
    let h : digit_value (slice_index upper_digits (b / 16)) < 16 = omega (arith, high, hs) in
    let l : digit_value (slice_index upper_digits (b % 16)) < 16 = omega (arith, low, ls) in
    and_from _ _ (lt-ltb _ 16 h) (and_from _ _ (lt-ltb _ 16 l) (high_digits k n))

pub high_length : (k n : ℕ) → length (encode_upper (bytes_high_first k n)) ≡ 2 * k
unfolding encode_with
high_length zero n = refl
high_length (suc k) n = let e = high_length k n in omega (arith, e)

-- from the most significant byte on
be_eight : (a b c d e f g h : ℕ) → from_be_bytes w64 (a ∷ b ∷ c ∷ d ∷ e ∷ f ∷ g ∷ h ∷ []) ≡ number_from_digits_after 256 0 (a ∷ b ∷ c ∷ d ∷ e ∷ f ∷ g ∷ h ∷ [])
be_eight a b c d e f g h = omega arith

be_four : (a b c d : ℕ) → from_be_bytes w32 (a ∷ b ∷ c ∷ d ∷ []) ≡ number_from_digits_after 256 0 (a ∷ b ∷ c ∷ d ∷ [])
be_four a b c d = omega arith

key_value : (n : ℕ) → n < 2 ^ 64 → digits_value 16 (key_digits n) ≡ n
key_value n h = high_value 8 n 0 ∙ sym (be_eight _ _ _ _ _ _ _ _) ∙ from_be_bytes-to_be_bytes_8 n h

pub code_value : (n : ℕ) → n < 2 ^ 32 → digits_value 16 (code_digits n) ≡ n
code_value n h = high_value 4 n 0 ∙ sym (be_four _ _ _ _) ∙ from_be_bytes-to_be_bytes_4 n h

key_hex : (n : ℕ) → is_hex 16 (key_digits n) ≡ true
key_hex n = and_from _ _ (eq-eqb (length (key_digits n)) 16 (high_length 8 n)) (high_digits 8 n)

code_hex : (n : ℕ) → is_hex 8 (code_digits n) ≡ true
code_hex n = and_from _ _ (eq-eqb (length (code_digits n)) 8 (high_length 4 n)) (high_digits 4 n)

pub key_stands : (n : ℕ) → n < 2 ^ 64 → Denotes OfKey (key_digits n) (ANumber n)
key_stands n h = rw (key_hex n, key_value n h) refl

pub code_stands : (n : ℕ) → n < 2 ^ 32 → Denotes OfCode (code_digits n) (ANumber n)
code_stands n h = rw (code_hex n) (ap (λ (k : ℕ). Some (ANumber k)) (code_value n h))

pub pair_stands : (l r : ℕ) → l < 2 ^ 64 → r < 2 ^ 64 → Denotes OfPair (key_digits l ++ key_digits r) (APair l r)
pair_stands l r hl hr =
    let a = key_digits l in
    let b = key_digits r in
    let la : length a ≡ 16 = high_length 8 l in
    let lb : length b ≡ 16 = high_length 8 r in
    let both : length (a ++ b) ≡ 32 = omega (arith, length-append a b, la, lb) in
    let front : take 16 (a ++ b) ≡ a = subst (λ (k : ℕ). take k (a ++ b) ≡ a) la (take-append_seam a b) in
    let back : drop 16 (a ++ b) ≡ b = subst (λ (k : ℕ). drop k (a ++ b) ≡ b) la (drop-append_seam a b) in
    let hex : is_hex 32 (a ++ b) ≡ true = and_from _ _ (eq-eqb (length (a ++ b)) 32 both) (list_all-append hex_test a b ∙ and_from _ _ (high_digits 8 l) (high_digits 8 r)) in
    let left : digits_value 16 (take 16 (a ++ b)) ≡ l = ap (digits_value 16) front ∙ key_value l hl in
    let right : digits_value 16 (drop 16 (a ++ b)) ≡ r = ap (digits_value 16) back ∙ key_value r hr in
    rw (hex, left, right) refl
