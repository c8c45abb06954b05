-- Tags and forms by their places, and what a test over all of them says.
use Rattle.std.proofs.Common.{cond, ◌≡◌, ℕ, ◌<◌, Bool, true, false, List, [], ◌∷◌, length, get_or, Some, refl, sym, ◌∙◌, ap, subst, lit<}
use Rattle.std.specs.Prelude.{bytes_eq}
use Rattle.std.specs.List.{list_all, find}
use Rattle.std.specs.Cmp.Lexicographic.{bytes_decides}
use Rattle.std.proofs.lemmas.Bool.{eqb-true, both_ways}
use Rattle.std.proofs.lemmas.List.Folds.{list_all_at}
use Rattle.csm_grammar.specs.declared.tag.Tag.{Tag}
use Rattle.csm_grammar.specs.declared.tag.Tag.TheVariants.{Mcl, Rcv, Org, Svr, Idu, Idc, Idd, Ida, Idk1, Idk2, DoubleKk, Kk, Kd, Kdu, Ctp, Cta, Ctb, Ctr, Erf, Iv, Edk, P, Mac, Edc, Kku, DoubleKku, Nos}
use Rattle.csm_grammar.specs.declared.form.Form.{Form}
use Rattle.csm_grammar.specs.declared.form.Form.TheVariants.{F1, F2, F3, F4, F5, F6, F7, F8, F9, F10, F11, F12, F13}
use Rattle.csm_grammar.specs.Tags.{tag_name, tags, tag_place, same_tag, tag_of}
use Rattle.csm_grammar.specs.Classes.{forms}

pub tag_at : (t : Tag) → get_or tags (tag_place t) Mcl ≡ t
tag_at Mcl = refl
tag_at Rcv = refl
tag_at Org = refl
tag_at Svr = refl
tag_at Idu = refl
tag_at Idc = refl
tag_at Idd = refl
tag_at Ida = refl
tag_at Idk1 = refl
tag_at Idk2 = refl
tag_at DoubleKk = refl
tag_at Kk = refl
tag_at Kd = refl
tag_at Kdu = refl
tag_at Ctp = refl
tag_at Cta = refl
tag_at Ctb = refl
tag_at Ctr = refl
tag_at Erf = refl
tag_at Iv = refl
tag_at Edk = refl
tag_at P = refl
tag_at Mac = refl
tag_at Edc = refl
tag_at Kku = refl
tag_at DoubleKku = refl
tag_at Nos = refl

pub tag_small : (t : Tag) → tag_place t < 27
tag_small Mcl = lit< tt
tag_small Rcv = lit< tt
tag_small Org = lit< tt
tag_small Svr = lit< tt
tag_small Idu = lit< tt
tag_small Idc = lit< tt
tag_small Idd = lit< tt
tag_small Ida = lit< tt
tag_small Idk1 = lit< tt
tag_small Idk2 = lit< tt
tag_small DoubleKk = lit< tt
tag_small Kk = lit< tt
tag_small Kd = lit< tt
tag_small Kdu = lit< tt
tag_small Ctp = lit< tt
tag_small Cta = lit< tt
tag_small Ctb = lit< tt
tag_small Ctr = lit< tt
tag_small Erf = lit< tt
tag_small Iv = lit< tt
tag_small Edk = lit< tt
tag_small P = lit< tt
tag_small Mac = lit< tt
tag_small Edc = lit< tt
tag_small Kku = lit< tt
tag_small DoubleKku = lit< tt
tag_small Nos = lit< tt

pub same_tags : (s t : Tag) → same_tag s t ≡ true → s ≡ t
same_tags s t h = sym (tag_at s) ∙ ap (λ (n : ℕ). get_or tags n Mcl) (eqb-true (tag_place s) (tag_place t) h) ∙ tag_at t

pub same_itself : (t : Tag) → same_tag t t ≡ true
same_itself Mcl = refl
same_itself Rcv = refl
same_itself Org = refl
same_itself Svr = refl
same_itself Idu = refl
same_itself Idc = refl
same_itself Idd = refl
same_itself Ida = refl
same_itself Idk1 = refl
same_itself Idk2 = refl
same_itself DoubleKk = refl
same_itself Kk = refl
same_itself Kd = refl
same_itself Kdu = refl
same_itself Ctp = refl
same_itself Cta = refl
same_itself Ctb = refl
same_itself Ctr = refl
same_itself Erf = refl
same_itself Iv = refl
same_itself Edk = refl
same_itself P = refl
same_itself Mac = refl
same_itself Edc = refl
same_itself Kku = refl
same_itself DoubleKku = refl
same_itself Nos = refl

all_get : {X : Type 0} (p : X → Bool) (xs : List X) (i : ℕ) (d : X) → i < length xs → list_all p xs ≡ true → p (get_or xs i d) ≡ true
all_get p xs i d s h = go (p (get_or xs i d)) refl where
  go : (b : Bool) → p (get_or xs i d) ≡ b → b ≡ true
  go true e = refl
  go false e = absurd (both_ways (list_all p xs) (list_all_at p xs i d s e) h)

-- a test that each tag passes
pub each_tag : (p : Tag → Bool) → list_all p tags ≡ true → (t : Tag) → p t ≡ true
each_tag p h t = subst (λ (s : Tag). p s ≡ true) (tag_at t) (all_get p tags (tag_place t) Mcl (tag_small t) h)

abbrev pub form_place : Form → ℕ
form_place F1 = 0
form_place F2 = 1
form_place F3 = 2
form_place F4 = 3
form_place F5 = 4
form_place F6 = 5
form_place F7 = 6
form_place F8 = 7
form_place F13 = 8
form_place F9 = 9
form_place F10 = 10
form_place F11 = 11
form_place F12 = 12

pub form_at : (f : Form) → get_or forms (form_place f) F1 ≡ f
form_at F1 = refl
form_at F2 = refl
form_at F3 = refl
form_at F4 = refl
form_at F5 = refl
form_at F6 = refl
form_at F7 = refl
form_at F8 = refl
form_at F9 = refl
form_at F10 = refl
form_at F11 = refl
form_at F12 = refl
form_at F13 = refl

form_small : (f : Form) → form_place f < 13
form_small F1 = lit< tt
form_small F2 = lit< tt
form_small F3 = lit< tt
form_small F4 = lit< tt
form_small F5 = lit< tt
form_small F6 = lit< tt
form_small F7 = lit< tt
form_small F8 = lit< tt
form_small F9 = lit< tt
form_small F10 = lit< tt
form_small F11 = lit< tt
form_small F12 = lit< tt
form_small F13 = lit< tt

-- a test that each form passes
pub each_form : (p : Form → Bool) → list_all p forms ≡ true → (f : Form) → p f ≡ true
each_form p h f = subst (λ (g : Form). p g ≡ true) (form_at f) (all_get p forms (form_place f) F1 (form_small f) h)

-- the first that passes does pass
pub find_passes : {X : Type 0} (p : X → Bool) (xs : List X) (x : X) → find p xs ≡ Some x → p x ≡ true
find_passes p [] x h = absurd cc
find_passes {X} p (y ∷ ys) x h = go (p y) refl h (λ i. find_passes p ys x i) where
  go : (b : Bool) → p y ≡ b → cond b (Some y) (find p ys) ≡ Some x → (find p ys ≡ Some x → p x ≡ true) → p x ≡ true
  go true e i more = let k : y ≡ x = cc in subst (λ (z : X). p z ≡ true) k e
  go false e i more = more i

-- a known tag has that name
pub name_of_tag : (name : List ℕ) (t : Tag) → tag_of name ≡ Some t → tag_name t ≡ name
name_of_tag name t h = (bytes_decides (tag_name t) name).0 (find_passes (λ s. bytes_eq (tag_name s) name) tags t h)
