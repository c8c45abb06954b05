-- What the readers of contents give.
use Rattle.std.proofs.Common.{◌≡◌, ℕ, ◌+◌, ◌<◌, Bool, true, false, List, [], ◌∷◌, ◌++◌, length, get_or, take, drop, Option, Some, None, Result, Ok, Err, refl, sym, ◌∙◌, ap, arith}
use Rattle.std.specs.Prelude.{◌&&◌, ◌==◌, not, nat_lt, nat_le, option_map, bytes_eq, if◌then◌else◌}
use Rattle.std.specs.Result.{OkIff, result_ok}
use Rattle.std.specs.List.{list_all}
use Rattle.std.specs.Char.{digit_value}
use Rattle.std.specs.Str.Parse.{digits_value, AllDigits}
use Rattle.std.proofs.Math.Seq.{drop-cons}
use Rattle.std.proofs.lemmas.Bool.{and_parts, and_from, and_left, and_right, false_from_ne_true, both_ways, eqb-true, eq-eqb, ne_eqb, le-leb, leb-true, lt-ltb, ltb-true, not-true}
use Rattle.std.proofs.lemmas.List.{length-take, length-drop, length-append, take-append-drop}
use Rattle.std.proofs.lemmas.List.Folds.{list_all-append}
use Rattle.x_base.specs.Count.{SpellsCount}
use Rattle.csm_grammar.specs.Halves.{IsHalved}
use Rattle.csm_grammar.specs.Values.{value_if, is_hex, is_count, value_of}
use Rattle.csm_grammar.specs.Values.Value.{ANumber, APair}
use Rattle.csm_grammar.specs.Values.Kind.{OfKey, OfPair, OfCode, OfCount}

abbrev hex_test : ℕ → Bool
hex_test b = nat_lt (digit_value b) 16

pub hex_append : (m n : ℕ) (x y : List ℕ) → length x ≡ m → length y ≡ n → length (x ++ y) ≡ m + n → is_hex (m + n) (x ++ y) ≡ (is_hex m x && is_hex n y)
hex_append m n x y a b h = rw (eq-eqb (length (x ++ y)) (m + n) h, eq-eqb (length x) m a, eq-eqb (length y) n b) (list_all-append hex_test x y)

one_at : (c : List ℕ) (i : ℕ) → i < length c → take 1 (drop i c) ≡ get_or c i 0 ∷ []
one_at c i h = rw (drop-cons c i 0) refl

-- two halves are the eight digits
pub halved_code : (c d : List ℕ) (o : Option ℕ) → IsHalved c → d ≡ take 4 c ++ drop 5 c
    → option_map ANumber o ≡ value_if (is_hex 8 d) (ANumber (digits_value 16 d)) → option_map ANumber o ≡ value_of OfCode c
halved_code c d o h e k =
    let nine = h.nine in
    let a : length (take 4 c) ≡ 4 = omega (arith, length-take 4 c) in
    let b : length (drop 5 c) ≡ 4 = omega (arith, length-drop 5 c) in
    let both : length (take 4 c ++ drop 5 c) ≡ 4 + 4 = omega (arith, length-append (take 4 c) (drop 5 c)) in
    let long : is_hex 8 c ≡ false = and_left (length c == 8) (list_all hex_test c) (ne_eqb (length c) 8 (λ e. omega arith)) in
    let inside : 4 < length c = omega arith in
    let blank : bytes_eq (take 1 (drop 4 c)) (32 ∷ []) ≡ true = rw (one_at c 4 inside, h.blank) refl in
    let same : is_hex 8 (take 4 c ++ drop 5 c) ≡ (is_hex 4 (take 4 c) && is_hex 4 (drop 5 c)) = hex_append 4 4 (take 4 c) (drop 5 c) a b both in
    k ∙ ap (λ (x : List ℕ). value_if (is_hex 8 x) (ANumber (digits_value 16 x))) e ∙ rw (long, blank, same) (chosen (is_hex 4 (take 4 c) && is_hex 4 (drop 5 c)) (take 4 c ++ drop 5 c)) where
      chosen : (b : Bool) (x : List ℕ) → value_if b (ANumber (digits_value 16 x)) ≡ option_map (λ d. ANumber (digits_value 16 d)) (if b then Some x else None)
      chosen true x = refl
      chosen false x = refl

not_halved : (c : List ℕ) → (IsHalved c → ⊥) → (is_hex 4 (take 4 c) && (bytes_eq (take 1 (drop 4 c)) (32 ∷ []) && is_hex 4 (drop 5 c))) ≡ false
not_halved c f = false_from_ne_true _ (λ t.
    let p = and_parts (is_hex 4 (take 4 c)) _ t in
    let q = and_parts (bytes_eq (take 1 (drop 4 c)) (32 ∷ [])) (is_hex 4 (drop 5 c)) p.1 in
    let a = eqb-true (length (take 4 c)) 4 (and_parts (length (take 4 c) == 4) _ p.0).0 in
    let b = eqb-true (length (drop 5 c)) 4 (and_parts (length (drop 5 c) == 4) _ q.1).0 in
    let nine : length c ≡ 9 = omega (arith, a, b, length-take 4 c, length-drop 5 c) in
    let inside : 4 < length c = omega arith in
    let one : bytes_eq (get_or c 4 0 ∷ []) (32 ∷ []) ≡ true = rw (one_at c 4 inside) at q.0 in
    f (record { nine = nine; blank = eqb-true (get_or c 4 0) 32 (and_parts (get_or c 4 0 == 32) true one).0 }))

pub whole_code : (c : List ℕ) (o : Option ℕ) → (IsHalved c → ⊥) → option_map ANumber o ≡ value_if (is_hex 8 c) (ANumber (digits_value 16 c)) → option_map ANumber o ≡ value_of OfCode c
whole_code c o f k = k ∙ rw (not_halved c f) (chosen (is_hex 8 c) c) where
  chosen : (b : Bool) (x : List ℕ) → value_if b (ANumber (digits_value 16 x)) ≡ option_map (λ d. ANumber (digits_value 16 d)) (if b then Some x else None)
  chosen true x = refl
  chosen false x = refl

-- what stands for a number
pub record Numbered (b : Bool) (k n : ℕ) : Type 0 where
  pub holds : b ≡ true
  pub same : k ≡ n

numbered : (b : Bool) (k n : ℕ) → Some (ANumber k) ≡ value_if b (ANumber n) → Numbered b k n
numbered true k n h = record { holds = refl; same = cc }
numbered false k n h = absurd cc

not_numbered : (b : Bool) (n : ℕ) → None ≡ value_if b (ANumber n) → b ≡ false
not_numbered true n h = absurd cc
not_numbered false n h = refl

pub whole_pair : (c : List ℕ) → length c ≡ 32 → is_hex 32 c ≡ (is_hex 16 (take 16 c) && is_hex 16 (drop 16 c))
whole_pair c h =
    let a : length (take 16 c) ≡ 16 = omega (arith, length-take 16 c) in
    let b : length (drop 16 c) ≡ 16 = omega (arith, length-drop 16 c) in
    let e : take 16 c ++ drop 16 c ≡ c = take-append-drop 16 c in
    sym (ap (is_hex 32) e) ∙ hex_append 16 16 (take 16 c) (drop 16 c) a b (ap length e ∙ h)

pub is_pair : (c l r : List ℕ) (m n : ℕ) → length c ≡ 32 → l ≡ take 16 c → r ≡ drop 16 c → Some (ANumber m) ≡ value_of OfKey l → Some (ANumber n) ≡ value_of OfKey r → Some (APair m n) ≡ value_of OfPair c
is_pair c l r m n h el er hl hr =
    let a = numbered (is_hex 16 l) m (digits_value 16 l) hl in
    let b = numbered (is_hex 16 r) n (digits_value 16 r) hr in
    let test : is_hex 32 c ≡ true = whole_pair c h ∙ and_from _ _ (ap (is_hex 16) (sym el) ∙ a.holds) (ap (is_hex 16) (sym er) ∙ b.holds) in
    let left : m ≡ digits_value 16 (take 16 c) = a.same ∙ ap (digits_value 16) el in
    let right : n ≡ digits_value 16 (drop 16 c) = b.same ∙ ap (digits_value 16) er in
    rw (test, left, right) refl

pub no_pair_right : (c r : List ℕ) → length c ≡ 32 → r ≡ drop 16 c → None ≡ value_of OfKey r → None ≡ value_of OfPair c
no_pair_right c r h er hr = rw (whole_pair c h ∙ and_right (is_hex 16 (take 16 c)) _ (ap (is_hex 16) (sym er) ∙ not_numbered (is_hex 16 r) (digits_value 16 r) hr)) refl

all_digits : (c : List ℕ) → list_all (λ b. nat_lt (digit_value b) 10) c ≡ true → AllDigits 10 c
all_digits [] h = _
all_digits (b ∷ bs) h = let p = and_parts (nat_lt (digit_value b) 10) _ h in (ltb-true (digit_value b) 10 p.0, all_digits bs p.1)

pub digits_pass : (c : List ℕ) → AllDigits 10 c → list_all (λ b. nat_lt (digit_value b) 10) c ≡ true
digits_pass [] h = refl
digits_pass (b ∷ bs) h = and_from _ _ (lt-ltb (digit_value b) 10 h.0) (digits_pass bs h.1)

pub count_spelled : (c : List ℕ) → is_count c ≡ true → SpellsCount c
count_spelled c h =
    let p = and_parts (nat_le 1 (length c) && nat_le (length c) 14) _ h in
    let q = and_parts (nat_le 1 (length c)) _ p.0 in
    let r = and_parts (list_all (λ b. nat_lt (digit_value b) 10) c) _ p.1 in
    record {
      filled = leb-true 1 (length c) q.0;
      short = leb-true (length c) 14 q.1;
      digits = all_digits c r.0;
      value = λ e. both_ways (digits_value 10 c == 0) (not-true _ r.1) (eq-eqb _ 0 e);
    }

pub spelled_count : (c : List ℕ) → SpellsCount c → is_count c ≡ true
spelled_count c h = and_from _ _ (and_from _ _ (le-leb 1 (length c) h.filled) (le-leb (length c) 14 h.short)) (and_from _ _ (digits_pass c h.digits) (ap not (ne_eqb (digits_value 10 c) 0 h.value)))

pub count_read : {E : Type 0} (c : List ℕ) (r : Result ℕ E) → OkIff r (SpellsCount c) (digits_value 10 c) → option_map ANumber (result_ok r) ≡ value_of OfCount c
count_read c (Ok n) h = rw (spelled_count c h.0, h.1) refl
count_read c (Err e) h = rw (false_from_ne_true (is_count c) (λ t. h (count_spelled c t))) refl
