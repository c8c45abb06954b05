-- Codes one after the other.
use Rattle.std.proofs.Common.{◌≡◌, ℕ, List, ◌++◌, sym, ap, ◌∙◌, append_assoc}
use Rattle.change_code.specs.Reading.{Form, Lacks, StartsWith}

-- no code of a value is the front of another's
pub record Apart {T : Type 0} (form : Form T) : Type 0 where
  pub same : (x y : T) (r s : List ℕ) → form.Fits x → form.Fits y → form.code x ++ r ≡ form.code y ++ s → (x ≡ y) × (r ≡ s)

-- a code behind another
unfoldable pub both : {A B : Type 0} → Form A → Form B → Form (A × B)
both a b = record { code = λ p. a.code p.0 ++ b.code p.1; Fits = λ p. a.Fits p.0 × b.Fits p.1 }

pub apart_both : {A B : Type 0} (a : Form A) (b : Form B) → Apart a → Apart b → Apart (both a b)
unfolding both
apart_both a b here there = record {
  same = λ x y r s fx fy is.
      let first = here.same x.0 y.0 (b.code x.1 ++ r) (b.code y.1 ++ s) fx.0 fy.0 (sym (append_assoc (a.code x.0) (b.code x.1) r) ∙ (is ∙ append_assoc (a.code y.0) (b.code y.1) s)) in
      let second = there.same x.1 y.1 r s fx.1 fy.1 first.1 in
      (ap (λ p. (p, x.1)) first.0 ∙ ap (λ p. (y.0, p)) second.0, second.1);
}

-- the first is missing
pub lacks_first : {A B : Type 0} (a : Form A) (b : Form B) (bytes : List ℕ) → Lacks a bytes → Lacks (both a b) bytes
unfolding both
lacks_first a b bytes lacks = record { none = λ x rest fits is. lacks.none x.0 (b.code x.1 ++ rest) fits.0 (is ∙ append_assoc (a.code x.0) (b.code x.1) rest) }

-- the first is there, and what comes behind it is missing
pub lacks_second : {A B : Type 0} (a : Form A) (b : Form B) (bytes more : List ℕ) (x : A) → Apart a → StartsWith a bytes more x → Lacks b more → Lacks (both a b) bytes
unfolding both
lacks_second a b bytes more x apart begins lacks = record {
  none = λ y rest fits is.
      let same = apart.same x y.0 more (b.code y.1 ++ rest) begins.fits fits.0 (sym begins.is ∙ (is ∙ append_assoc (a.code y.0) (b.code y.1) rest)) in
      lacks.none y.1 rest fits.1 same.1;
}

-- both are there
pub begins_both : {A B : Type 0} (a : Form A) (b : Form B) (bytes more rest : List ℕ) (x : A) (y : B) → StartsWith a bytes more x → StartsWith b more rest y → StartsWith (both a b) bytes rest (x, y)
unfolding both
begins_both a b bytes more rest x y first second = record {
  fits = (first.fits, second.fits);
  is = first.is ∙ (ap (λ (l : List ℕ). a.code x ++ l) second.is ∙ sym (append_assoc (a.code x) (b.code y) rest));
}

-- a value and its parts are coded alike
pub record Shape {T U : Type 0} (form : Form T) (inner : Form U) : Type 0 where
  pub parts : T → U
  pub whole : U → T
  pub back : (x : T) → whole (parts x) ≡ x
  pub code : (x : T) → form.code x ≡ inner.code (parts x)
  pub fits : (x : T) → form.Fits x → inner.Fits (parts x)

pub apart_as : {T U : Type 0} (form : Form T) (inner : Form U) → Shape form inner → Apart inner → Apart form
apart_as form inner shape apart = record {
  same = λ x y r s fx fy is.
      let same = apart.same (shape.parts x) (shape.parts y) r s (shape.fits x fx) (shape.fits y fy)
      (ap (λ (l : List ℕ). l ++ r) (sym (shape.code x)) ∙ (is ∙ ap (λ (l : List ℕ). l ++ s) (shape.code y))) in
      (sym (shape.back x) ∙ (ap shape.whole same.0 ∙ shape.back y), same.1);
}

pub lacks_as : {T U : Type 0} (form : Form T) (inner : Form U) (bytes : List ℕ) → Shape form inner → Lacks inner bytes → Lacks form bytes
lacks_as form inner bytes shape lacks = record {
  none = λ x rest fits is. lacks.none (shape.parts x) rest (shape.fits x fits) (is ∙ ap (λ (l : List ℕ). l ++ rest) (shape.code x));
}
