-- Forms one after the other, and where bytes stop.
use Rattle.std.proofs.Common.{◌≡◌, ◌⊎◌, inl, inr, ℕ, List, [], ◌∷◌, ◌++◌, refl, sym, ap, ◌∙◌, subst, append_assoc}
use Rattle.std.proofs.lemmas.List.{append_cancel_left}
use Rattle.change_code.specs.Reading.{Form, StartsWith}
use Rattle.change_code.proofs.Joining.{Apart, both, lacks_first, lacks_second}
use Rattle.pay_auth.specs.Scanning.{Stops, literal_form}

-- of two ways to part a list, one cuts no later
pub split : (xs r u v : List ℕ) → xs ++ r ≡ u ++ v → ((m : List ℕ) × (u ≡ xs ++ m) × (r ≡ m ++ v)) ⊎ ((m : List ℕ) × (xs ≡ u ++ m) × (v ≡ m ++ r))
split [] r u v is = inl (u, refl, is)
split (x ∷ xs) r [] v is = inr (x ∷ xs, refl, sym is)
split (x ∷ xs) r (y ∷ u) v is =
    let head : x ≡ y = cc is in
    let tail : xs ++ r ≡ u ++ v = cc is in
    elim (split xs r u v tail) [
      | inl s ↦ inl (s.0, cc (head, s.1), s.2)
      | inr s ↦ inr (s.0, cc (head, s.1), s.2)
    ]

-- the first stops
pub stops_first : {A B : Type 0} (a : Form A) (b : Form B) (bytes rest : List ℕ) (y : B) → b.Fits y → Stops a bytes rest → Stops (both a b) bytes rest
unfolding both
stops_first a b bytes rest y fits s = record {
  lacks = lacks_first a b bytes s.lacks;
  front = s.front;
  is = s.is;
  begins = record {
    value = (s.begins.value, y);
    rest = s.begins.rest ++ b.code y;
    fits = (s.begins.fits, fits);
    is = sym (append_assoc s.front s.begins.rest (b.code y)) ∙ ap (λ (l : List ℕ). l ++ b.code y) s.begins.is;
  };
  longest = λ c after is e. elim (split (s.front ++ c ∷ []) e.rest (a.code e.value.0) (b.code e.value.1) e.is) [
    | inl m ↦ s.longest c after is (record { value = e.value.0; rest = m.0; fits = e.fits.0; is = sym m.1 })
    | inr m ↦ s.lacks.none e.value.0 (m.0 ++ after) e.fits.0
        (s.is ∙ (ap (λ (l : List ℕ). s.front ++ l) is ∙ (sym (append_assoc s.front (c ∷ []) after) ∙ (ap (λ (l : List ℕ). l ++ after) m.1 ∙ append_assoc (a.code e.value.0) m.0 after))))
  ];
}

-- the first is there, and what comes behind it stops
pub stops_second : {A B : Type 0} (a : Form A) (b : Form B) (bytes more rest : List ℕ) (x : A) → Apart a → StartsWith a bytes more x → Stops b more rest → Stops (both a b) bytes rest
unfolding both
stops_second a b bytes more rest x apart starts s = record {
  lacks = lacks_second a b bytes more x apart starts s.lacks;
  front = a.code x ++ s.front;
  is = starts.is ∙ (ap (λ (l : List ℕ). a.code x ++ l) s.is ∙ sym (append_assoc (a.code x) s.front rest));
  begins = record {
    value = (x, s.begins.value);
    rest = s.begins.rest;
    fits = (starts.fits, s.begins.fits);
    is = append_assoc (a.code x) s.front s.begins.rest ∙ ap (λ (l : List ℕ). a.code x ++ l) s.begins.is;
  };
  longest = λ c after is e.
      let whole : a.code x ++ ((s.front ++ c ∷ []) ++ e.rest) ≡ a.code e.value.0 ++ b.code e.value.1 =
      sym (append_assoc (a.code x) (s.front ++ c ∷ []) e.rest) ∙ (ap (λ (l : List ℕ). l ++ e.rest) (sym (append_assoc (a.code x) s.front (c ∷ []))) ∙ e.is) in
      let same = apart.same x e.value.0 ((s.front ++ c ∷ []) ++ e.rest) (b.code e.value.1) starts.fits e.fits.0 whole in
      s.longest c after is (record { value = e.value.1; rest = e.rest; fits = e.fits.1; is = same.1 });
}

-- the values of one form are those of another, coded alike
pub record Recode {T U : Type 0} (form : Form T) (inner : Form U) : Type 0 where
  pub to : T → U
  pub from : U → T
  pub fits : (x : T) → form.Fits x → inner.Fits (to x)
  pub gives : (y : U) → inner.Fits y → form.Fits (from y)
  pub code : (x : T) → form.Fits x → form.code x ≡ inner.code (to x)
  pub same : (y : U) → inner.Fits y → inner.code y ≡ form.code (from y)
  pub back : (x : T) → form.Fits x → from (to x) ≡ x

pub apart_by : {T U : Type 0} (form : Form T) (inner : Form U) → Recode form inner → Apart inner → Apart form
apart_by form inner re apart = record {
  same = λ x y r s fx fy is.
      let same = apart.same (re.to x) (re.to y) r s (re.fits x fx) (re.fits y fy)
      (ap (λ (l : List ℕ). l ++ r) (sym (re.code x fx)) ∙ (is ∙ ap (λ (l : List ℕ). l ++ s) (re.code y fy))) in
      (sym (re.back x fx) ∙ (ap re.from same.0 ∙ re.back y fy), same.1);
}

pub stops_by : {T U : Type 0} (form : Form T) (inner : Form U) (bytes rest : List ℕ) → Recode form inner → Stops inner bytes rest → Stops form bytes rest
stops_by form inner bytes rest re s = record {
  lacks = record { none = λ x more fits is. s.lacks.none (re.to x) more (re.fits x fits) (is ∙ ap (λ (l : List ℕ). l ++ more) (re.code x fits)) };
  front = s.front;
  is = s.is;
  begins = record { value = re.from s.begins.value; rest = s.begins.rest; fits = re.gives s.begins.value s.begins.fits; is = s.begins.is ∙ re.same s.begins.value s.begins.fits };
  longest = λ c after is e. s.longest c after is (record { value = re.to e.value; rest = e.rest; fits = re.fits e.value e.fits; is = e.is ∙ re.code e.value e.fits });
}

pub starts_by : {T U : Type 0} (form : Form T) (inner : Form U) (bytes rest : List ℕ) (y : U) (x : T) → (re : Recode form inner) → StartsWith inner bytes rest y → x ≡ re.from y → StartsWith form bytes rest x
starts_by form inner bytes rest y x re s is = record {
  fits = subst form.Fits (sym is) (re.gives y s.fits);
  is = s.is ∙ (ap (λ (l : List ℕ). l ++ rest) (re.same y s.fits) ∙ ap (λ v. form.code v ++ rest) (sym is));
}

-- literals

pub literal_apart : (text : List ℕ) → Apart (literal_form text)
literal_apart text = record { same = λ x y r s fx fy is. (refl, append_cancel_left text r s is) }
