-- A key name is read where its parts between periods are those of a name.
use Rattle.std.proofs.Common.{◌≡◌, ℕ, Bool, true, false, List, [], ◌∷◌, ◌++◌, Option, Some, None, Result, Ok, Err, refl, sym, ◌∙◌, ap, subst, inl, inr}
use Rattle.std.specs.Prelude.{◌&&◌, ◌==◌, ◌↔◌, not, nat_lt, if◌then◌else◌}
use Rattle.std.specs.Result.{result_ok}
use Rattle.std.specs.List.{list_all, slice_split, join_with_byte}
use Rattle.std.specs.Char.{digit_value}
use Rattle.std.specs.Str.Parse.{digits_value, AllDigits}
use Rattle.std.proofs.lemmas.Bool.{cases_Bool, and_parts, and_from, false_from_ne_true, both_ways, eqb-true, not_from_false, not-true}
use Rattle.std.proofs.lemmas.List.Splits.{join_with_byte-slice_split}
use Rattle.x_base.specs.Names.{is_name, is_name_byte}
use Rattle.x_base.specs.KeyName.{NameOf}
use Rattle.x_base.specs.declared.key_name.KeyName.{KeyName}
use Rattle.csm_grammar.specs.Values.{is_count, name_of, name_of_parts}
use Rattle.csm_grammar.proofs.ContentsReading.{count_spelled, spelled_count, digits_pass}

abbrev is_period : ℕ → Bool
is_period b = b == 46

-- the key name of these parts
abbrev made : List ℕ → List ℕ → List ℕ → List ℕ → KeyName
made i o l d = record { issuer = i; originator = o; label = l; count = digits_value 10 d }

from_parts : (c i o l d : List ℕ) (n : KeyName) → join_with_byte 46 (i ∷ o ∷ l ∷ d ∷ []) ≡ c → (if (is_name 4 16 i && is_name 4 16 o) && (is_name 1 16 l && is_count d) then Some (made i o l d) else None) ≡ Some n → NameOf c n
from_parts c i o l d n e h = elim (cases_Bool ((is_name 4 16 i && is_name 4 16 o) && (is_name 1 16 l && is_count d))) [
  | inl t ↦
      let p = and_parts (is_name 4 16 i && is_name 4 16 o) (is_name 1 16 l && is_count d) t in
      let q = and_parts (is_name 4 16 i) (is_name 4 16 o) p.0 in
      let r = and_parts (is_name 1 16 l) (is_count d) p.1 in
      let k = rw t at h in
      let same : made i o l d ≡ n = cc in
      subst (λ (m : KeyName). NameOf c m) same (record {
        digits = d;
        issuer = q.0;
        originator = q.1;
        label = r.0;
        count = count_spelled d r.1;
        number = refl;
        text = sym e;
      })
  | inr f ↦ (let k = rw f at h in absurd cc)
]

of_parts : (c : List ℕ) (ps : List (List ℕ)) (n : KeyName) → join_with_byte 46 ps ≡ c → name_of_parts ps ≡ Some n → NameOf c n
of_parts c (i ∷ o ∷ l ∷ d ∷ []) n e h = from_parts c i o l d n e h
of_parts c [] n e h = absurd cc
of_parts c (i ∷ []) n e h = absurd cc
of_parts c (i ∷ o ∷ []) n e h = absurd cc
of_parts c (i ∷ o ∷ l ∷ []) n e h = absurd cc
of_parts c (i ∷ o ∷ l ∷ d ∷ x ∷ xs) n e h = absurd cc

name_is : (c : List ℕ) (n : KeyName) → name_of c ≡ Some n → NameOf c n
name_is c n h = of_parts c (slice_split is_period c) n (join_with_byte-slice_split 46 c) h

abbrev NoPeriod : List ℕ → Type 0
NoPeriod xs = list_all (λ b. not (b == 46)) xs ≡ true

cut : (xs ys : List ℕ) → NoPeriod xs → slice_split is_period (xs ++ 46 ∷ ys) ≡ xs ∷ slice_split is_period ys
cut [] ys h = refl
cut (x ∷ xs) ys h =
    let p = and_parts (not (x == 46)) (list_all (λ b. not (b == 46)) xs) h in
    rw (not-true (x == 46) p.0, cut xs ys p.1) refl

uncut : (xs : List ℕ) → NoPeriod xs → slice_split is_period xs ≡ xs ∷ []
uncut [] h = refl
uncut (x ∷ xs) h =
    let p = and_parts (not (x == 46)) (list_all (λ b. not (b == 46)) xs) h in
    rw (not-true (x == 46) p.0, uncut xs p.1) refl

weaker : (p q : ℕ → Bool) (xs : List ℕ) → ((b : ℕ) → p b ≡ true → q b ≡ true) → list_all p xs ≡ true → list_all q xs ≡ true
weaker p q [] f h = refl
weaker p q (x ∷ xs) f h = let k = and_parts (p x) (list_all p xs) h in and_from _ _ (f x k.0) (weaker p q xs f k.1)

other_byte : (p : ℕ → Bool) → p 46 ≡ false → (b : ℕ) → p b ≡ true → not (b == 46) ≡ true
other_byte p h b t = not_from_false (b == 46) (false_from_ne_true (b == 46) (λ e. both_ways (p 46) h (sym (ap p (eqb-true b 46 e)) ∙ t)))

name_no_period : (low : ℕ) (xs : List ℕ) → is_name low 16 xs ≡ true → NoPeriod xs
name_no_period low xs h = weaker is_name_byte (λ b. not (b == 46)) xs (other_byte is_name_byte refl) (and_parts _ (list_all is_name_byte xs) h).1

digits_no_period : (xs : List ℕ) → AllDigits 10 xs → NoPeriod xs
digits_no_period xs h = weaker (λ b. nat_lt (digit_value b) 10) (λ b. not (b == 46)) xs (other_byte (λ b. nat_lt (digit_value b) 10) refl) (digits_pass xs h)

is_named : (c : List ℕ) (n : KeyName) → NameOf c n → name_of c ≡ Some n
is_named c n h =
    let tail = uncut h.digits (digits_no_period h.digits h.count.digits) in
    let l = cut n.label h.digits (name_no_period 1 n.label h.label) in
    let o = cut n.originator (n.label ++ 46 ∷ h.digits) (name_no_period 4 n.originator h.originator) in
    let i = cut n.issuer (n.originator ++ 46 ∷ (n.label ++ 46 ∷ h.digits)) (name_no_period 4 n.issuer h.issuer) in
    let parts : slice_split is_period c ≡ n.issuer ∷ n.originator ∷ n.label ∷ h.digits ∷ [] =
    ap (slice_split is_period) h.text ∙ i ∙ ap (λ (ps : List (List ℕ)). n.issuer ∷ ps) (o ∙ ap (λ (ps : List (List ℕ)). n.originator ∷ ps) (l ∙ ap (λ (ps : List (List ℕ)). n.label ∷ ps) tail)) in
    ap name_of_parts parts ∙ rw (h.issuer, h.originator, h.label, spelled_count h.digits h.count) (ap (λ (k : ℕ). let m : KeyName = record { issuer = n.issuer; originator = n.originator; label = n.label; count = k } in Some m) (sym h.number))

pub name_read : {E : Type 0} (c : List ℕ) (r : Result KeyName E) → ((n : KeyName) → (r ≡ Ok n) ↔ NameOf c n) → result_ok r ≡ name_of c
name_read c (Ok n) h = sym (is_named c n ((h n).0 refl))
name_read c (Err e) h = no_name (name_of c) refl where
  no_name : (o : Option KeyName) → name_of c ≡ o → None ≡ name_of c
  no_name None e = sym e
  no_name (Some n) e = let k = (h n).1 (name_is c n e) in absurd cc
