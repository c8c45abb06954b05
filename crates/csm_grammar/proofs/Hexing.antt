-- Hexadecimal digits, as they are decoded.
use Rattle.std.proofs.Common.{◌≡◌, ℕ, ◌+◌, ◌-◌, ◌*◌, ◌%◌, ◌≤◌, Bool, true, false, List, [], ◌∷◌, length, Option, Some, None, Result, Ok, Err, refl, sym, ◌∙◌, ap, arith, inl, inr}
use Rattle.std.specs.Prelude.{IsOk, ◌&&◌, ◌==◌, ◌⊎◌, nat_lt, nat_le, if◌then◌else◌}
use Rattle.std.specs.List.{list_all}
use Rattle.std.specs.Char.{digit_value}
use Rattle.std.specs.Str.Parse.{digits_value, digits_value_after}
use Rattle.std.specs.Int.{from_be_bytes, w32, w64}
use Rattle.std.specs.Int.Digits.{number_from_digits_after}
use Rattle.std.proofs.lemmas.Bool.{and_parts, and_from, false_from_ne_true, eqb-true, eq-eqb, leb-true}
use Rattle.std.proofs.lemmas.Bool.Decides.{nat_tests}
use Rattle.hex.specs.declared.error.FromHexError.{FromHexError}
use Rattle.hex.specs.Hex.{hex_digit_value, is_hex_digit, digit_or_error, value_at, pair_value, ◌>>=◌, decode_pairs, decode_sized}
use Rattle.hex.proofs.HexLemmas.{decode_pairs-ok, decode_sized-ok, decode_sized-twice, decode_of-even, IsOk-decode_sized}
use Rattle.std.proofs.lemmas.List.Sums.{AllPass-from_list_all, list_all-from_AllPass}
use Rattle.csm_grammar.specs.Values.{is_hex, value_of, value_if}
use Rattle.csm_grammar.specs.Values.Value.{ANumber}
use Rattle.csm_grammar.specs.Values.Kind.{OfKey}

bound_ok : {A B : Type 0} (r : Result A FromHexError) (f : A → Result B FromHexError) (y : B) → (r >>= f) ≡ Ok y → (x : A) × (r ≡ Ok x) × (f x ≡ Ok y)
bound_ok (Ok x) f y h = (x, refl, h)
bound_ok (Err e) f y h = absurd cc

read_digit : (c i : ℕ) (o : Option ℕ) (v : ℕ) → digit_or_error c i o ≡ Ok v → o ≡ Some v
read_digit c i (Some w) v h = cc
read_digit c i None v h = absurd cc

upper_digit : (c : ℕ) → 65 ≤ c → c ≤ 70 → digit_value c ≡ c - 55
upper_digit c low high = grind (arith, nat_tests)

lower_digit : (c : ℕ) → 97 ≤ c → c ≤ 102 → digit_value c ≡ c - 87
lower_digit c low high = grind (arith, nat_tests)

decimal_digit : (c : ℕ) → 48 ≤ c → c ≤ 57 → digit_value c ≡ c - 48
decimal_digit c low high = grind (arith, nat_tests)

chosen : (b : Bool) (k v : ℕ) (o : Option ℕ) → (if b then Some k else o) ≡ Some v → ((b ≡ true) × (k ≡ v)) ⊎ (o ≡ Some v)
chosen true k v o h = inl (refl, cc)
chosen false k v o h = inr h

digit_is : (c v : ℕ) → hex_digit_value c ≡ Some v → digit_value c ≡ v
digit_is c v h = elim (chosen (nat_le 65 c && nat_le c 70) (c - 55) v _ h) [
  | inl u ↦ let p = and_parts (nat_le 65 c) (nat_le c 70) u.0 in upper_digit c (leb-true 65 c p.0) (leb-true c 70 p.1) ∙ u.1
  | inr r ↦ elim (chosen (nat_le 97 c && nat_le c 102) (c - 87) v _ r) [
    | inl u ↦ let p = and_parts (nat_le 97 c) (nat_le c 102) u.0 in lower_digit c (leb-true 97 c p.0) (leb-true c 102 p.1) ∙ u.1
    | inr q ↦ elim (chosen (nat_le 48 c && nat_le c 57) (c - 48) v _ q) [
      | inl u ↦ let p = and_parts (nat_le 48 c) (nat_le c 57) u.0 in decimal_digit c (leb-true 48 c p.0) (leb-true c 57 p.1) ∙ u.1
      | inr n ↦ absurd cc
    ]
  ]
]

pub hex_digit_is : (c : ℕ) → is_hex_digit c ≡ nat_lt (digit_value c) 16
hex_digit_is c = grind (arith, nat_tests)

-- the digits of pairs write the number that their bytes do
pairs_value : (i : ℕ) (s bytes : List ℕ) (n : ℕ) → decode_pairs i s ≡ Ok bytes → digits_value_after 16 n s ≡ number_from_digits_after 256 n bytes
unfolding decode_pairs
pairs_value i [] bytes n h = let e : [] ≡ bytes = cc in rw (← e) refl
pairs_value i (a ∷ []) bytes n h = absurd cc
pairs_value i (a ∷ b ∷ rest) bytes n h =
    let p = bound_ok (pair_value a b i) _ bytes h in
    let q = bound_ok (value_at a i) _ p.0 p.1 in
    let r = bound_ok (value_at b (i + 1)) _ p.0 q.2 in
    let t = bound_ok (decode_pairs (i + 2) rest) _ bytes p.2 in
    let e : p.0 ∷ t.0 ≡ bytes = cc t.2 in
    let high = digit_is a q.0 (read_digit a i (hex_digit_value a) q.0 q.1) in
    let low = digit_is b r.0 (read_digit b (i + 1) (hex_digit_value b) r.0 r.1) in
    let byte : q.0 * 16 + r.0 ≡ p.0 = cc r.2 in
    let both : (n * 16 + digit_value a) * 16 + digit_value b ≡ n * 256 + p.0 = omega (arith, high, low, byte) in
    ap (λ (k : ℕ). digits_value_after 16 k rest) both ∙ pairs_value (i + 2) rest t.0 (n * 256 + p.0) t.1 ∙ ap (number_from_digits_after 256 n) e

same_tests : (p q : ℕ → Bool) (xs : List ℕ) → ((x : ℕ) → p x ≡ q x) → list_all p xs ≡ list_all q xs
same_tests p q [] h = refl
same_tests p q (x ∷ xs) h = rw (h x, same_tests p q xs h) refl

-- decoding to n bytes succeeds at 2 * n digits
pub decodes : (s : List ℕ) (n : ℕ) → IsOk (decode_sized s n) → is_hex (2 * n) s ≡ true
decodes s n h =
    let p = (IsOk-decode_sized s n).0 h in
    and_from _ _ (eq-eqb (length s) (2 * n) p.0) (sym (same_tests is_hex_digit (λ b. nat_lt (digit_value b) 16) s hex_digit_is) ∙ list_all-from_AllPass is_hex_digit s p.1)

pub decodes_from : (s : List ℕ) (n : ℕ) → is_hex (2 * n) s ≡ true → IsOk (decode_sized s n)
decodes_from s n h =
    let p = and_parts (length s == 2 * n) (list_all (λ b. nat_lt (digit_value b) 16) s) h in
    (IsOk-decode_sized s n).1 (eqb-true (length s) (2 * n) p.0, AllPass-from_list_all is_hex_digit s (same_tests is_hex_digit (λ b. nat_lt (digit_value b) 16) s hex_digit_is ∙ p.1))

-- what decoding gives
pub record Decoded (s bytes : List ℕ) (n : ℕ) : Type 0 where
  pub hex : is_hex (2 * n) s ≡ true
  pub count : length bytes ≡ n
  pub value : digits_value 16 s ≡ number_from_digits_after 256 0 bytes

to_pairs : (s bytes : List ℕ) (n : ℕ) → Ok bytes ≡ decode_sized s n → length s ≡ 2 * n → decode_pairs 0 s ≡ Ok bytes
to_pairs s bytes n h len =
    let even : length s % 2 ≡ 0 = omega arith in
    sym (decode_of-even s even) ∙ sym (decode_sized-twice s n len) ∙ sym h

pub decoded : (s bytes : List ℕ) (n : ℕ) → Ok bytes ≡ decode_sized s n → Decoded s bytes n
decoded s bytes n h =
    let len = decode_sized-ok s n bytes (sym h) in
    let pairs = to_pairs s bytes n h len in
    let twice = (decode_pairs-ok 0 s bytes pairs).1 in
    record {
      hex = decodes s n (rw (← h) refl);
      count = omega (arith, len, twice);
      value = pairs_value 0 s bytes 0 pairs;
    }

pub not_decoded : (s : List ℕ) (n : ℕ) (e : FromHexError) → Err e ≡ decode_sized s n → is_hex (2 * n) s ≡ false
not_decoded s n e h = false_from_ne_true (is_hex (2 * n) s) (λ t. let k = rw (← h) at (decodes_from s n t) in absurd cc)

-- eight bytes, the most significant first
pub be_eight : (bs : List ℕ) → length bs ≡ 8 → from_be_bytes w64 bs ≡ number_from_digits_after 256 0 bs
be_eight (a ∷ b ∷ c ∷ d ∷ e ∷ f ∷ g ∷ h ∷ []) len = omega arith
be_eight [] len = absurd (omega arith)
be_eight (a ∷ []) len = absurd (omega arith)
be_eight (a ∷ b ∷ []) len = absurd (omega arith)
be_eight (a ∷ b ∷ c ∷ []) len = absurd (omega arith)
be_eight (a ∷ b ∷ c ∷ d ∷ []) len = absurd (omega arith)
be_eight (a ∷ b ∷ c ∷ d ∷ e ∷ []) len = absurd (omega arith)
be_eight (a ∷ b ∷ c ∷ d ∷ e ∷ f ∷ []) len = absurd (omega arith)
be_eight (a ∷ b ∷ c ∷ d ∷ e ∷ f ∷ g ∷ []) len = absurd (omega arith)
be_eight (a ∷ b ∷ c ∷ d ∷ e ∷ f ∷ g ∷ h ∷ i ∷ rest) len = absurd (omega arith)

pub be_four : (bs : List ℕ) → length bs ≡ 4 → from_be_bytes w32 bs ≡ number_from_digits_after 256 0 bs
be_four (a ∷ b ∷ c ∷ d ∷ []) len = omega arith
be_four [] len = absurd (omega arith)
be_four (a ∷ []) len = absurd (omega arith)
be_four (a ∷ b ∷ []) len = absurd (omega arith)
be_four (a ∷ b ∷ c ∷ []) len = absurd (omega arith)
be_four (a ∷ b ∷ c ∷ d ∷ e ∷ rest) len = absurd (omega arith)

pub is_key : (s bytes : List ℕ) (n : ℕ) → Ok bytes ≡ decode_sized s 8 → n ≡ from_be_bytes w64 bytes → Some (ANumber n) ≡ value_of OfKey s
is_key s bytes n h e =
    let d = decoded s bytes 8 h in
    rw (d.hex) (ap (λ (k : ℕ). Some (ANumber k)) (e ∙ be_eight bytes d.count ∙ sym d.value))

pub no_key : (s : List ℕ) (e : FromHexError) → Err e ≡ decode_sized s 8 → None ≡ value_of OfKey s
no_key s e h = rw (not_decoded s 8 e h) refl

pub is_eight : (s bytes : List ℕ) (n : ℕ) → Ok bytes ≡ decode_sized s 4 → n ≡ from_be_bytes w32 bytes → Some (ANumber n) ≡ value_if (is_hex 8 s) (ANumber (digits_value 16 s))
is_eight s bytes n h e =
    let d = decoded s bytes 4 h in
    rw (d.hex) (ap (λ (k : ℕ). Some (ANumber k)) (e ∙ be_four bytes d.count ∙ sym d.value))

pub not_eight : (s : List ℕ) (e : FromHexError) → Err e ≡ decode_sized s 4 → None ≡ value_if (is_hex 8 s) (ANumber (digits_value 16 s))
not_eight s e h = rw (not_decoded s 4 e h) refl
