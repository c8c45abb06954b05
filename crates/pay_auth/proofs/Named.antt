-- Identities, labels and counts as runs.
use Rattle.std.proofs.Common.{◌≡◌, ℕ, zero, suc, ◌+◌, ◌<◌, ◌≤◌, ◌^◌, nat_lt, nat_le, ◌&&◌, true, List, [], ◌∷◌, ◌++◌, length, Result, Ok, Err, IsOk, IfOk, ◌↔◌, refl, sym, ap, ◌∙◌, subst, arith, rules, lit<, get_or}
use Rattle.std.specs.Fmt.{decimal}
use Rattle.std.specs.Char.{is_ascii_digit}
use Rattle.std.specs.List.{list_all}
use Rattle.std.specs.Result.{OkIff, result_ok}
use Rattle.std.specs.Str.Parse.{digits_value}
use Rattle.std.proofs.lemmas.Bool.{and_parts, and_from, ltb-true, lt-ltb, leb-true, le-leb}
use Rattle.std.proofs.lemmas.Bool.Decides.{nat_tests}
use Rattle.std.proofs.lemmas.Fmt.{decimal_is_IsNumeral, decimal_nonempty, length-decimal-le, first_decimal, digits_value-decimal, decimal-digits_value}
use Rattle.std.proofs.lemmas.Str.Parse.{IsDigitsTest, IsNumeralModel, numerals_by_value, digits_value_short}
use Rattle.x_base.specs.Count.{IsCount, SpellsCount}
use Rattle.x_base.specs.Names.{is_name_byte, IsIdent, IsLabel}
use Rattle.change_code.specs.Reading.{Form, StartsWith}
use Rattle.pay_auth.specs.declared.scanner.Run.{Run}
use Rattle.pay_auth.specs.declared.scanner.Run.TheVariants as run
use Rattle.pay_auth.specs.Scanning.{most, is_of, allows, AreAllowed, IsRun, IsScanned, run_form, ident_form, label_form, count_form}
use Rattle.pay_auth.proofs.Stopping.{Recode}

-- a run ends within its most bytes
within_most : (r : Run) (p : ℕ) (bytes : List ℕ) → AreAllowed r p bytes → p ≤ most r → p + length bytes ≤ most r
within_most r p [] allowed le = omega (arith, le)
within_most r p (b ∷ bytes) allowed le =
    let below : p < most r = ltb-true p (most r) (and_parts (nat_lt p (most r)) (is_of r p b) allowed.0).0 in
    let rest = within_most r (p + 1) bytes allowed.1 (omega (arith, below)) in
    omega (arith, rest)

-- names

module _ (r : Run) (same : (p b : ℕ) → is_of r p b ≡ is_name_byte b) where
  all_names : (p : ℕ) (bytes : List ℕ) → AreAllowed r p bytes → list_all is_name_byte bytes ≡ true
  all_names p [] allowed = refl
  all_names p (b ∷ bytes) allowed =
      and_from (is_name_byte b) (list_all is_name_byte bytes) (sym (same p b) ∙ (and_parts (nat_lt p (most r)) (is_of r p b) allowed.0).1) (all_names (p + 1) bytes allowed.1)

  names_allowed : (p : ℕ) (bytes : List ℕ) → list_all is_name_byte bytes ≡ true → p + length bytes ≤ most r → AreAllowed r p bytes
  names_allowed p [] all few = tt
  names_allowed p (b ∷ bytes) all few =
      let parts = and_parts (is_name_byte b) (list_all is_name_byte bytes) all in
      (and_from (nat_lt p (most r)) (is_of r p b) (lt-ltb p (most r) (omega (arith, few))) (same p b ∙ parts.0), names_allowed (p + 1) bytes parts.1 (omega (arith, few)))

ident_run : (bytes : List ℕ) → IsIdent bytes → IsRun run.Ident bytes
ident_run bytes is =
    let parts = and_parts (nat_le 4 (length bytes) && nat_le (length bytes) 16) (list_all is_name_byte bytes) is in
    let sizes = and_parts (nat_le 4 (length bytes)) (nat_le (length bytes) 16) parts.0 in
    record { long = leb-true 4 (length bytes) sizes.0; allowed = names_allowed run.Ident (λ p b. refl) 0 bytes parts.1 (omega (arith, leb-true (length bytes) 16 sizes.1)) }

run_ident : (bytes : List ℕ) → IsRun run.Ident bytes → IsIdent bytes
run_ident bytes is =
    let short : 0 + length bytes ≤ 16 = within_most run.Ident 0 bytes is.allowed (omega arith) in
    and_from (nat_le 4 (length bytes) && nat_le (length bytes) 16) (list_all is_name_byte bytes)
    (and_from (nat_le 4 (length bytes)) (nat_le (length bytes) 16) (le-leb 4 (length bytes) is.long) (le-leb (length bytes) 16 (omega (arith, short)))) (all_names run.Ident (λ p b. refl) 0 bytes is.allowed)

label_run : (bytes : List ℕ) → IsLabel bytes → IsRun run.Label bytes
label_run bytes is =
    let parts = and_parts (nat_le 1 (length bytes) && nat_le (length bytes) 16) (list_all is_name_byte bytes) is in
    let sizes = and_parts (nat_le 1 (length bytes)) (nat_le (length bytes) 16) parts.0 in
    record { long = leb-true 1 (length bytes) sizes.0; allowed = names_allowed run.Label (λ p b. refl) 0 bytes parts.1 (omega (arith, leb-true (length bytes) 16 sizes.1)) }

run_label : (bytes : List ℕ) → IsRun run.Label bytes → IsLabel bytes
run_label bytes is =
    let short : 0 + length bytes ≤ 16 = within_most run.Label 0 bytes is.allowed (omega arith) in
    and_from (nat_le 1 (length bytes) && nat_le (length bytes) 16) (list_all is_name_byte bytes)
    (and_from (nat_le 1 (length bytes)) (nat_le (length bytes) 16) (le-leb 1 (length bytes) is.long) (le-leb (length bytes) 16 (omega (arith, short)))) (all_names run.Label (λ p b. refl) 0 bytes is.allowed)

pub ident_recode : (last : ℕ) → Recode (ident_form last) (run_form run.Ident last)
ident_recode last = record { to = λ i. i; from = λ u. u; fits = ident_run; gives = run_ident; code = λ i is. refl; same = λ u is. refl; back = λ i is. refl }

pub label_recode : (last : ℕ) → Recode (label_form last) (run_form run.Label last)
label_recode last = record { to = λ l. l; from = λ u. u; fits = label_run; gives = run_label; code = λ l is. refl; same = λ u is. refl; back = λ l is. refl }

-- a run that is read as a name
name_read : {E : Type 0} (form : Form (List ℕ)) (r : Run) (last : ℕ) (old rest front : List ℕ) (result : Result (List ℕ) E) → ((x : List ℕ) → form.code x ≡ x ++ last ∷ []) → (IsRun r front → form.Fits front)
    → StartsWith (run_form r last) old rest front → IfOk result (λ x. x ≡ front) → (IsOk result ↔ form.Fits front) → IsScanned form old rest (result_ok result)
name_read form r last old rest front (Ok x) code gives starts same found = record {
  fits = subst form.Fits (sym same) (gives starts.fits);
  is = starts.is ∙ ap (λ (l : List ℕ). l ++ rest) (ap (λ (l : List ℕ). l ++ last ∷ []) (sym same) ∙ sym (code x));
}
name_read form r last old rest front (Err e) code gives starts same found = absurd (cc (found.1 (gives starts.fits)))

pub ident_read : {E : Type 0} (last : ℕ) (old rest front : List ℕ) (result : Result (List ℕ) E) → StartsWith (run_form run.Ident last) old rest front → IfOk result (λ x. x ≡ front) → (IsOk result ↔ IsIdent front)
    → IsScanned (ident_form last) old rest (result_ok result)
ident_read last old rest front result starts same found = name_read (ident_form last) run.Ident last old rest front result (λ x. refl) (run_ident front) starts same found

pub label_read : {E : Type 0} (last : ℕ) (old rest front : List ℕ) (result : Result (List ℕ) E) → StartsWith (run_form run.Label last) old rest front → IfOk result (λ x. x ≡ front) → (IsOk result ↔ IsLabel front)
    → IsScanned (label_form last) old rest (result_ok result)
label_read last old rest front result starts same found = name_read (label_form last) run.Label last old rest front result (λ x. refl) (run_label front) starts same found

-- counts

abbrev AreDigits : List ℕ → Type 0
AreDigits ds = list_all is_ascii_digit ds ≡ true

tests : IsDigitsTest AreDigits
tests = search rules

own : IsNumeralModel AreDigits (digits_value 10)
own = numerals_by_value AreDigits tests

later_digit : (p b : ℕ) → 0 < p → p < 14 → is_ascii_digit b ≡ true → allows run.Count p b ≡ true
later_digit p b some few digit = grind (arith, nat_tests)

first_digit : (b : ℕ) → 48 < b → is_ascii_digit b ≡ true → allows run.Count 0 b ≡ true
first_digit b above digit = grind (arith, nat_tests)

is_digit : (p b : ℕ) → allows run.Count p b ≡ true → is_ascii_digit b ≡ true
is_digit p b allowed = grind (arith, nat_tests)

no_zero : (b : ℕ) → allows run.Count 0 b ≡ true → b ≡ 48 → ⊥
no_zero b allowed zero_is = grind (arith, nat_tests)

later_digits : (p : ℕ) (bytes : List ℕ) → 0 < p → AreDigits bytes → p + length bytes ≤ 14 → AreAllowed run.Count p bytes
later_digits p [] some all few = tt
later_digits p (b ∷ bytes) some all few =
    let parts = and_parts (is_ascii_digit b) (list_all is_ascii_digit bytes) all in
    (later_digit p b some (omega (arith, few)) parts.0, later_digits (p + 1) bytes (omega arith) parts.1 (omega (arith, few)))

count_digits : (p : ℕ) (bytes : List ℕ) → AreAllowed run.Count p bytes → AreDigits bytes
count_digits p [] allowed = refl
count_digits p (b ∷ bytes) allowed = and_from (is_ascii_digit b) (list_all is_ascii_digit bytes) (is_digit p b allowed.0) (count_digits (p + 1) bytes allowed.1)

digits_run : (bytes : List ℕ) → 0 < length bytes → length bytes ≤ 14 → 48 < get_or bytes 0 0 → AreDigits bytes → IsRun run.Count bytes
digits_run [] some few above all = absurd (omega (arith, some))
digits_run (b ∷ bytes) some few above all =
    let parts = and_parts (is_ascii_digit b) (list_all is_ascii_digit bytes) all in
    record { long = omega (arith, some); allowed = (first_digit b above parts.0, later_digits 1 bytes (omega arith) parts.1 (omega (arith, few))) }

count_run : (n : ℕ) → IsCount n → IsRun run.Count (decimal n)
count_run n is =
    let small : n < 2 ^ 64 = omega (arith, is.high) in
    digits_run (decimal n) (decimal_nonempty n small) (length-decimal-le 14 n (lit< tt) (omega (arith, is.high)) small) (first_decimal n (omega (arith, is.low)) small)
    (own.from (decimal n) (decimal_is_IsNumeral n small).0.1)

short_value : (bytes : List ℕ) → IsRun run.Count bytes → digits_value 10 bytes < 10 ^ 14
short_value bytes is = let short : 0 + length bytes ≤ 14 = within_most run.Count 0 bytes is.allowed (omega arith) in digits_value_short own bytes 14 (count_digits 0 bytes is.allowed) (omega (arith, short))

no_lead : (bytes : List ℕ) → IsRun run.Count bytes → get_or bytes 0 0 ≡ 48 → ⊥
no_lead [] is zero_is = cc zero_is
no_lead (b ∷ bytes) is zero_is = no_zero b is.allowed.0 zero_is

run_back : (bytes : List ℕ) → IsRun run.Count bytes → decimal (digits_value 10 bytes) ≡ bytes
run_back bytes is =
    let small = short_value bytes is in
    decimal-digits_value own bytes (count_digits 0 bytes is.allowed) (omega (arith, is.long)) (λ zero_is. absurd (no_lead bytes is zero_is)) (omega (arith, small))

zero_text : decimal 0 ≡ 48 ∷ []
zero_text = decimal-digits_value own (48 ∷ []) refl (omega arith) (λ same. refl) (lit< tt)

run_count : (bytes : List ℕ) → IsRun run.Count bytes → IsCount (digits_value 10 bytes)
run_count bytes is =
    let small = short_value bytes is in
    record { low = at_least (digits_value 10 bytes) refl; high = omega (arith, small) }
  where
    at_least : (n : ℕ) → digits_value 10 bytes ≡ n → 1 ≤ n
    at_least zero none = absurd (no_lead bytes is (ap (λ (l : List ℕ). get_or l 0 0) (sym (run_back bytes is) ∙ (ap decimal none ∙ zero_text))))
    at_least (suc n) some = omega arith

pub count_recode : (last : ℕ) → Recode (count_form last) (run_form run.Count last)
count_recode last = record {
  to = decimal;
  from = digits_value 10;
  fits = count_run;
  gives = run_count;
  code = λ n is. refl;
  same = λ u is. ap (λ (l : List ℕ). l ++ last ∷ []) (sym (run_back u is));
  back = λ n is. digits_value-decimal own n (omega (arith, is.high));
}

spells : (bytes : List ℕ) → IsRun run.Count bytes → SpellsCount bytes
spells bytes is =
    let short : 0 + length bytes ≤ 14 = within_most run.Count 0 bytes is.allowed (omega arith) in
    let value = run_count bytes is in
    record {
      filled = is.long;
      short = omega (arith, short);
      digits = own.to bytes (count_digits 0 bytes is.allowed);
      value = λ none. omega (arith, value.low, none);
    }

pub count_read : {E : Type 0} (last : ℕ) (old rest front : List ℕ) (result : Result ℕ E) → StartsWith (run_form run.Count last) old rest front → OkIff result (SpellsCount front) (digits_value 10 front)
    → IsScanned (count_form last) old rest (result_ok result)
count_read last old rest front (Ok n) starts read = record {
  fits = subst IsCount (sym read.1) (run_count front starts.fits);
  is = starts.is ∙ ap (λ (l : List ℕ). (l ++ last ∷ []) ++ rest) (sym (run_back front starts.fits) ∙ ap decimal (sym read.1));
}
count_read last old rest front (Err e) starts read = absurd (read (spells front starts.fits))
