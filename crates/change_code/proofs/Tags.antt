-- Values of several kinds, each marked by a byte.
use Rattle.std.proofs.Common.{◌≡◌, ℕ, List, [], ◌∷◌, ◌++◌, refl, sym, ap, ◌∙◌}
use Rattle.change_code.specs.Reading.{Form, Lacks}
use Rattle.change_code.proofs.Joining.{Apart}

-- a value whose code begins with this byte is of this kind
pub record Tagged {T U : Type 0} (form : Form T) (tag : ℕ) (inner : Form U) (make : U → T) : Type 0 where
  pub only : (y : T) (rest more : List ℕ) → form.Fits y → tag ∷ rest ≡ form.code y ++ more → (u : U) × inner.Fits u × (y ≡ make u) × (rest ≡ inner.code u ++ more)

pub lacks_tagged : {T U : Type 0} (form : Form T) (tag : ℕ) (inner : Form U) (make : U → T) (rest : List ℕ) → Tagged form tag inner make → Lacks inner rest → Lacks form (tag ∷ rest)
lacks_tagged form tag inner make rest tagged lacks = record {
  none = λ y more fits is. let u = tagged.only y rest more fits is in lacks.none u.0 more u.1 u.3;
}

pub apart_tagged : {T U : Type 0} (form : Form T) (tag : ℕ) (inner : Form U) (make : U → T) → Tagged form tag inner make → Apart inner
    → (u : U) (y : T) (r s : List ℕ) → inner.Fits u → form.Fits y → tag ∷ (inner.code u ++ r) ≡ form.code y ++ s → (make u ≡ y) × (r ≡ s)
apart_tagged form tag inner make tagged apart u y r s fu fy is =
    let v = tagged.only y (inner.code u ++ r) s fy is in
    let same = apart.same u v.0 r s fu v.1 v.3 in
    (ap make same.0 ∙ sym v.2, same.1)

-- a value without fields
abbrev pub no_fields : Form (Unit {0})
no_fields = record { code = λ u. []; Fits = λ u. Unit {0} }

pub no_fields_apart : Apart no_fields
no_fields_apart = record { same = λ x y r s fx fy is. (refl, is) }
