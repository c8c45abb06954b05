-- Identities, labels and key names.
use Rattle.std.proofs.Common.{◌≡◌, ℕ, ◌<◌, ◌≤◌, ◌^◌, List, ◌++◌, length, Option, Some, None, Result, Ok, Err, IsOk, IfOk, ◌↔◌, refl, sym, ap, ◌∙◌, subst, arith, append_assoc, length-append}
use Rattle.std.specs.Option.{MatchOption}
use Rattle.std.specs.Result.{result_ok}
use Rattle.x_base.specs.declared.key_name.KeyName.{KeyName}
use Rattle.party_tables.specs.Ranges.{longest_text}
use Rattle.change_code.specs.Code.{two, short, long}
use Rattle.change_code.specs.Reading.{Form, Lacks, StartsWith, IsPieceRead, LacksLong, ident_form, label_form, name_form, first_name_form, word_form, count_form, pair_form, gen_form, text_form}
use Rattle.change_code.proofs.Joining.{Apart, Shape, both, apart_both, apart_as}
use Rattle.change_code.proofs.Numbers.{same_fronts, two_apart, two_long, word_apart, count_apart}

pub short_apart : (a b r s : List ℕ) → short a ++ r ≡ short b ++ s → (a ≡ b) × (r ≡ s)
short_apart a b r s is =
    let long : length a ≡ length b = cc is in
    let rest : a ++ r ≡ b ++ s = cc is in
    same_fronts a b r s long rest

pub ident_apart : Apart ident_form
ident_apart = record { same = λ x y r s fx fy is. short_apart x y r s is }

pub label_apart : Apart label_form
label_apart = record { same = λ x y r s fx fy is. short_apart x y r s is }

pub long_apart : (a b r s : List ℕ) → length a < 2 ^ 16 → length b < 2 ^ 16 → long a ++ r ≡ long b ++ s → (a ≡ b) × (r ≡ s)
long_apart a b r s la lb is =
    let same = two_apart (length a) (length b) (a ++ r) (b ++ s) la lb (sym (append_assoc (two (length a)) a r) ∙ (is ∙ append_assoc (two (length b)) b s)) in
    same_fronts a b r s same.0 same.1

pub text_apart : Apart text_form
text_apart = record { same = λ x y r s fx fy is. long_apart x y r s (omega (arith, fx)) (omega (arith, fy)) is }

pub name_shape : Shape name_form (both ident_form (both ident_form (both label_form count_form)))
unfolding both
name_shape = record {
  parts = λ n. (n.issuer, (n.originator, (n.label, n.count)));
  whole = λ p. record { issuer = p.0; originator = p.1.0; label = p.1.1.0; count = p.1.1.1 };
  back = λ n. refl;
  code = λ n. refl;
  fits = λ n is. (is.issuer, (is.originator, (is.label, is.count)));
}

pub name_apart : Apart name_form
name_apart = apart_as name_form (both ident_form (both ident_form (both label_form count_form))) name_shape
    (apart_both ident_form (both ident_form (both label_form count_form)) ident_apart
    (apart_both ident_form (both label_form count_form) ident_apart
    (apart_both label_form count_form label_apart count_apart)))

-- the first of two names is a name, which has no last count
pub first_name_apart : Apart first_name_form
first_name_apart = record { same = λ x y r s fx fy is. name_apart.same x y r s fx.0 fy.0 is }

pub lacks_last_count : (bytes rest : List ℕ) (name : KeyName) → StartsWith name_form bytes rest name → 99999999999999 ≤ name.count → Lacks first_name_form bytes
lacks_last_count bytes rest name begins last = record {
  none = λ x more fits is.
      let same = name_apart.same name x rest more begins.fits fits.0 (sym begins.is ∙ is) in
      omega (arith, last, fits.1.count.high, ap (λ (n : KeyName). n.count) same.0);
}

pub pair_shape : Shape pair_form (both word_form word_form)
unfolding both
pair_shape = record {
  parts = λ p. (p.left, p.right);
  whole = λ p. record { left = p.0; right = p.1 };
  back = λ p. refl;
  code = λ p. refl;
  fits = λ p is. (is.left, is.right);
}

pub pair_apart : Apart pair_form
pair_apart = apart_as pair_form (both word_form word_form) pair_shape (apart_both word_form word_form word_apart word_apart)

pub gen_shape : Shape gen_form (both pair_form word_form)
unfolding both
gen_shape = record {
  parts = λ g. (g.key, g.v);
  whole = λ p. record { key = p.0; v = p.1 };
  back = λ g. refl;
  code = λ g. refl;
  fits = λ g is. (is.key, is.v);
}

pub gen_apart : Apart gen_form
gen_apart = apart_as gen_form (both pair_form word_form) gen_shape (apart_both pair_form word_form pair_apart word_apart)

-- bytes behind their number, judged as a name
pub read_name : {E : Type 0} (form : Form (List ℕ)) (old rest name : List ℕ) (result : Result (List ℕ) E) → ((x : List ℕ) → form.code x ≡ short x) → old ≡ short name ++ rest
    → IfOk result (λ x. x ≡ name) → (IsOk result ↔ form.Fits name) → IsPieceRead form old rest (result_ok result)
read_name form old rest name (Ok x) code is same found = record {
  fits = subst form.Fits (sym same) (found.0 refl);
  is = is ∙ (ap (λ (l : List ℕ). short l ++ rest) (sym same) ∙ ap (λ (l : List ℕ). l ++ rest) (sym (code x)));
}
read_name form old rest name (Err e) code is same found = record {
  none = λ x more fits there.
      let pair = short_apart name x rest more (sym is ∙ (there ∙ ap (λ (l : List ℕ). l ++ more) (code x))) in
      cc (found.1 (subst form.Fits (sym pair.0) fits));
}

-- fewer bytes than their number says
pub lacks_long_few : (old rest : List ℕ) (n : ℕ) → n < 2 ^ 16 → old ≡ two n ++ rest → length rest < n → LacksLong old
lacks_long_few old rest n small is few text more fits there =
    let same = two_apart n (length text) rest (text ++ more) small fits (sym is ∙ (there ∙ append_assoc (two (length text)) text more)) in
    omega (arith, few, same.0, ap length same.1, length-append text more)

pub lacks_long_none : (old : List ℕ) → length old < 2 → LacksLong old
lacks_long_none old few text more fits there = omega (arith, few, ap length there, length-append (long text) more, length-append (two (length text)) text, two_long (length text))

pub read_long : (old rest : List ℕ) (n : ℕ) (front more : List ℕ) → old ≡ two n ++ rest → rest ≡ front ++ more → length front ≡ n → old ≡ long front ++ more
read_long old rest n front more is there count =
    is ∙ (ap (λ (k : ℕ). two k ++ rest) (sym count) ∙ (ap (λ (l : List ℕ). two (length front) ++ l) there ∙ sym (append_assoc (two (length front)) front more)))

pub read_long_of : {B : Type 0} (now : B → List ℕ) (old rest more : List ℕ) (n : ℕ) (result : Option B) → n < 2 ^ 16 → old ≡ two n ++ rest
    → MatchOption result (length rest < n) (λ front. (rest ≡ now front ++ more) × (length (now front) ≡ n))
    → MatchOption result (LacksLong old) (λ text. old ≡ long (now text) ++ more)
read_long_of now old rest more n None small is few = lacks_long_few old rest n small is few
read_long_of now old rest more n (Some front) small is there = read_long old rest n (now front) more is there.0 there.1

-- a text that is too long
pub lacks_text : (old rest text : List ℕ) → old ≡ long text ++ rest → length text < 2 ^ 16 → longest_text < length text → Lacks text_form old
lacks_text old rest text is small many = record {
  none = λ other more fits there.
      let same = long_apart text other rest more small (omega (arith, fits)) (sym is ∙ there) in
      omega (arith, many, fits, ap length same.0);
}
