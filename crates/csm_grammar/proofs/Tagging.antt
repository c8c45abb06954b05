-- Each tag, its name and its place.
use Rattle.std.proofs.Common.{◌≡◌, ◌≢◌, ℕ, ◌<◌, ◌≤◌, Bool, false, List, [], ◌∷◌, length, Option, Some, None, refl, sym, ◌∙◌, ap, lit≤, arith, eqb, inl, inr}
use Rattle.std.specs.Prelude.{bytes_eq, ◌==◌, if◌then◌else◌}
use Rattle.std.specs.List.{find, filter}
use Rattle.std.proofs.lemmas.Bool.{eqb-false, cases_Bool}
use Rattle.csm_grammar.specs.declared.tag.Tag.{Tag}
use Rattle.csm_grammar.specs.declared.tag.Tag.TheVariants.{Mcl, Rcv, Org, Svr, Idu, Idc, Idd, Ida, Idk1, Idk2, DoubleKk, Kk, Kd, Kdu, Ctp, Cta, Ctb, Ctr, Erf, Iv, Edk, P, Mac, Edc, Kku, DoubleKku, Nos}
use denote.Enum.Declared.{tag_of as number_of}
use Rattle.csm_grammar.specs.contracts.tag.Tag.{the_type}
use Rattle.csm_grammar.specs.Tags.{tags, tag_name, tag_place, tag_of}

tag_short : (t : Tag) → length (tag_name t) ≤ 4
tag_short Mcl = lit≤ tt
tag_short Rcv = lit≤ tt
tag_short Org = lit≤ tt
tag_short Svr = lit≤ tt
tag_short Idu = lit≤ tt
tag_short Idc = lit≤ tt
tag_short Idd = lit≤ tt
tag_short Ida = lit≤ tt
tag_short Idk1 = lit≤ tt
tag_short Idk2 = lit≤ tt
tag_short DoubleKk = lit≤ tt
tag_short Kk = lit≤ tt
tag_short Kd = lit≤ tt
tag_short Kdu = lit≤ tt
tag_short Ctp = lit≤ tt
tag_short Cta = lit≤ tt
tag_short Ctb = lit≤ tt
tag_short Ctr = lit≤ tt
tag_short Erf = lit≤ tt
tag_short Iv = lit≤ tt
tag_short Edk = lit≤ tt
tag_short P = lit≤ tt
tag_short Mac = lit≤ tt
tag_short Edc = lit≤ tt
tag_short Kku = lit≤ tt
tag_short DoubleKku = lit≤ tt
tag_short Nos = lit≤ tt

-- lists of different lengths differ
other_length : (xs ys : List ℕ) → length xs ≢ length ys → bytes_eq xs ys ≡ false
other_length [] [] f = absurd (f refl)
other_length [] (y ∷ ys) f = refl
other_length (x ∷ xs) [] f = refl
other_length (x ∷ xs) (y ∷ ys) f = elim (cases_Bool (eqb x y)) [
  | inl e ↦ rw e (other_length xs ys (λ h. f (omega (arith, h))))
  | inr e ↦ rw e refl
]

find_none : (p : Tag → Bool) (ts : List Tag) → ((t : Tag) → p t ≡ false) → find p ts ≡ None
find_none p [] h = refl
find_none p (t ∷ ts) h = rw (h t) (find_none p ts h)

pub no_tag_long : (name : List ℕ) → 4 < length name → tag_of name ≡ None
no_tag_long name h = find_none (λ t. bytes_eq (tag_name t) name) tags (λ t. other_length (tag_name t) name (λ e. let k = tag_short t in absurd (omega arith)))

-- the number that Rust gives
pub tag_number : (t : Tag) → number_of the_type t ≡ tag_place t
tag_number Mcl = refl
tag_number Rcv = refl
tag_number Org = refl
tag_number Svr = refl
tag_number Idu = refl
tag_number Idc = refl
tag_number Idd = refl
tag_number Ida = refl
tag_number Idk1 = refl
tag_number Idk2 = refl
tag_number DoubleKk = refl
tag_number Kk = refl
tag_number Kd = refl
tag_number Kdu = refl
tag_number Ctp = refl
tag_number Cta = refl
tag_number Ctb = refl
tag_number Ctr = refl
tag_number Erf = refl
tag_number Iv = refl
tag_number Edk = refl
tag_number P = refl
tag_number Mac = refl
tag_number Edc = refl
tag_number Kku = refl
tag_number DoubleKku = refl
tag_number Nos = refl

-- only elements that pass a weaker test are looked at
find_among : (p q : Tag → Bool) (ts : List Tag) → ((t : Tag) → q t ≡ false → p t ≡ false) → find p ts ≡ find p (filter q ts)
find_among p q [] h = refl
find_among p q (t ∷ ts) h = elim (cases_Bool (q t)) [
  | inl e ↦ rw e (ap (λ (o : Option Tag). if p t then Some t else o) (find_among p q ts h))
  | inr e ↦ rw (e, h t e) (find_among p q ts h)
]

pub four_tags : (name : List ℕ) → length name ≡ 4 → find (λ t. bytes_eq (tag_name t) name) (Idk1 ∷ Idk2 ∷ DoubleKku ∷ []) ≡ tag_of name
four_tags name h = sym (find_among (λ t. bytes_eq (tag_name t) name) (λ t. length (tag_name t) == 4) tags (λ t f. other_length (tag_name t) name (λ e. eqb-false (length (tag_name t)) 4 f (e ∙ h))))
