-- Counts and key names are read as they are written.
use Rattle.std.proofs.Common.{◌≡◌, ◌≢◌, ℕ, ◌^◌, ◌<◌, ◌≤◌, Bool, true, false, eqb, List, [], ◌∷◌, ◌++◌, length, Some, refl, sym, ◌∙◌, ap, arith, lit<}
use Rattle.std.specs.Prelude.{◌&&◌, ◌==◌, not, nat_lt, nat_le}
use Rattle.std.specs.Fmt.{decimal}
use Rattle.std.specs.List.{All, list_all, slice_split}
use Rattle.std.specs.Char.{digit_value}
use Rattle.std.specs.Str.Parse.{digits_value, AllDigits}
use Rattle.std.proofs.Math.Nat.{pow-le-pow_right}
use Rattle.std.proofs.lemmas.Bool.{and_parts, and_from, false_from_ne_true, both_ways, eqb-true, ne_eqb, le-leb, lt-ltb}
use Rattle.std.proofs.lemmas.Fmt.{decimal_is_IsNumeral, length-decimal-le, decimal_nonempty}
use Rattle.std.proofs.lemmas.Int.Digits.{digits_value-lt}
use Rattle.std.proofs.lemmas.List.Elements.{All-nil, All-cons}
use Rattle.std.proofs.lemmas.List.Splits.{slice_split_at, slice_split_none}
use Rattle.x_base.specs.Names.{is_name, is_name_byte}
use Rattle.x_base.specs.Count.{IsCount}
use Rattle.x_base.specs.KeyName.{NameOf, written, IsKeyName}
use Rattle.x_base.specs.declared.key_name.KeyName.{KeyName}
use Rattle.csm_grammar.specs.Values.{is_count, name_of, name_of_parts, Denotes, AName, ANumber, OfName, OfCount}

abbrev digit_test : ℕ → Bool
digit_test b = nat_lt (digit_value b) 10

digits_pass : (c : List ℕ) → AllDigits 10 c → list_all digit_test c ≡ true
digits_pass [] h = refl
digits_pass (b ∷ bs) h = and_from _ _ (lt-ltb (digit_value b) 10 h.0) (digits_pass bs h.1)

-- a count in decimal digits
pub record Counted (n : ℕ) : Type 0 where
  pub spelled : is_count (decimal n) ≡ true
  pub digits : list_all digit_test (decimal n) ≡ true
  pub value : digits_value 10 (decimal n) ≡ n

pub counted : (n : ℕ) → IsCount n → Counted n
counted n c =
    let high = c.high in
    let low = c.low in
    let fits : n < 2 ^ 64 = omega (arith, high) in
    let short : n < 10 ^ 14 = omega (arith, high) in
    let m = decimal_is_IsNumeral n fits in
    let value = m.1 in
    let digits = digits_pass (decimal n) m.0.1 in
    let filled : 1 ≤ length (decimal n) = decimal_nonempty n fits in
    let some : digits_value 10 (decimal n) ≢ 0 = λ (e : digits_value 10 (decimal n) ≡ 0). omega (arith, low, value, e) in
    record {
      spelled = and_from _ _ (and_from _ _ (le-leb 1 (length (decimal n)) filled) (le-leb (length (decimal n)) 14 (length-decimal-le 14 n (lit< tt) short fits))) (and_from _ _ digits (ap not (ne_eqb (digits_value 10 (decimal n)) 0 some)));
      digits = digits;
      value = value;
    }

pub count_stands : (n : ℕ) → IsCount n → Denotes OfCount (decimal n) (ANumber n)
count_stands n c = let k = counted n c in rw (k.spelled, k.value) refl

abbrev is_period : ℕ → Bool
is_period b = eqb b 46

no_period : (p : ℕ → Bool) (xs : List ℕ) → p 46 ≡ false → list_all p xs ≡ true → All (λ b. is_period b ≡ false) xs
no_period p [] h t = All-nil (λ b. is_period b ≡ false)
no_period p (x ∷ xs) h t =
    let k = and_parts (p x) (list_all p xs) t in
    All-cons (λ b. is_period b ≡ false) x xs (false_from_ne_true (x == 46) (λ e. both_ways (p 46) h (sym (ap p (eqb-true x 46 e)) ∙ k.0))) (no_period p xs h k.1)

name_whole : (low : ℕ) (xs : List ℕ) → is_name low 16 xs ≡ true → All (λ b. is_period b ≡ false) xs
name_whole low xs h = no_period is_name_byte xs refl (and_parts (nat_le low (length xs) && nat_le (length xs) 16) (list_all is_name_byte xs) h).1

pub name_stands : (n : KeyName) → IsKeyName n → Denotes OfName (written n) (AName n)
name_stands n h =
    let k = counted n.count h.count in
    let d = decimal n.count in
    let tail = slice_split_none is_period d (no_period digit_test d refl k.digits) in
    let l = slice_split_at is_period n.label 46 d (name_whole 1 n.label h.label) refl in
    let o = slice_split_at is_period n.originator 46 (n.label ++ 46 ∷ d) (name_whole 4 n.originator h.originator) refl in
    let i = slice_split_at is_period n.issuer 46 (n.originator ++ 46 ∷ (n.label ++ 46 ∷ d)) (name_whole 4 n.issuer h.issuer) refl in
    let parts : slice_split is_period (written n) ≡ n.issuer ∷ n.originator ∷ n.label ∷ d ∷ [] =
    i ∙ ap (λ (ps : List (List ℕ)). n.issuer ∷ ps) (o ∙ ap (λ (ps : List (List ℕ)). n.originator ∷ ps) (l ∙ ap (λ (ps : List (List ℕ)). n.label ∷ ps) tail)) in
    let named : name_of (written n) ≡ Some n =
    ap name_of_parts parts ∙ rw (h.issuer, h.originator, h.label, k.spelled) (ap (λ (m : ℕ). let w : KeyName = record { issuer = n.issuer; originator = n.originator; label = n.label; count = m } in Some w) k.value) in
    rw named refl

-- a name that is spelled has the parts of a name
pub name_from : (b : List ℕ) (n : KeyName) → NameOf b n → IsKeyName n
name_from b n h =
    let ds = h.digits in
    let short : length ds ≤ 14 = h.count.short in
    let below = digits_value-lt 10 ds h.count.digits in
    let some = h.count.value in
    let room = pow-le-pow_right {n = 10} (lit< tt) short in
    let number = h.number in
    record {
      issuer = h.issuer;
      originator = h.originator;
      label = h.label;
      count = record { low = omega (arith, some, number); high = omega (arith, below, room, number) };
    }
