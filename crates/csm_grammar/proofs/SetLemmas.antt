-- Sets of forms as bits.
use Rattle.std.proofs.Common.{◌≡◌, ℕ, ◌<◌, ◌≤◌, Bool, true, false, List, [], ◌∷◌, get_or, min, refl, sym, ◌∙◌, ap, subst, arith, inl, inr}
use Rattle.std.specs.Prelude.{◌&&◌, ◌||◌, ◌==◌, not, nat_le, nat_lt, slice_get, bit_and, if◌then◌else◌}
use Rattle.std.specs.List.{filter, find, list_all, list_any}
use Rattle.std.specs.Int.{bit_at}
use Rattle.std.proofs.lemmas.Bool.{cases_Bool, not-true, both_ways, leb-false, le-ltb}
use Rattle.std.proofs.lemmas.Bool.Decides.{nat_tests}
use Rattle.std.proofs.lemmas.Nat.Bits.{bit_at_and, bit_at-lt}
use Rattle.csm_grammar.specs.declared.tag.Tag.{Tag}
use Rattle.csm_grammar.specs.declared.tag.Tag.TheVariants.{Kd}
use Rattle.csm_grammar.specs.declared.form.Form.{Form}
use Rattle.csm_grammar.specs.declared.class_rows.TheConstants.{ALLOWING, TWICE}
use Rattle.csm_grammar.specs.Tags.{tag_place, same_tag}
use Rattle.csm_grammar.specs.Classes.{forms, times}
use Rattle.csm_grammar.specs.Letters.{form_place}
use Rattle.csm_grammar.specs.FormSets.{has_form, forms_in}
use Rattle.csm_grammar.proofs.TagLemmas.{each_tag, each_form, same_tags}
use Rattle.csm_grammar.proofs.Counting.{times_few, twice_kd}

abbrev same : Bool → Bool → Bool
same true b = b
same false true = false
same false false = true

same_is : (a b : Bool) → same a b ≡ true → a ≡ b
same_is true true h = refl
same_is true false h = sym h
same_is false true h = absurd cc
same_is false false h = refl

-- the bits of a tag are the forms that have it
pub allowing : (t : Tag) (f : Form) → has_form (get_or ALLOWING (tag_place t) 0) f ≡ nat_lt 0 (times f t)
allowing t f = same_is _ _ (each_form (λ g. same (has_form (get_or ALLOWING (tag_place t) 0) g) (nat_lt 0 (times g t))) (each_tag (λ s. list_all (λ g. same (has_form (get_or ALLOWING (tag_place s) 0) g) (nat_lt 0 (times g s))) forms) refl t) f)

-- those of KD twice
pub allowing_twice : (t : Tag) (f : Form) → same_tag t Kd ≡ true → has_form TWICE f ≡ nat_lt 1 (times f t)
allowing_twice t f h = subst (λ (s : Tag). has_form TWICE f ≡ nat_lt 1 (times f s)) (sym (same_tags t Kd h)) (same_is _ _ (each_form (λ g. same (has_form TWICE g) (nat_lt 1 (times g Kd))) refl f))

-- no form has another tag twice
pub no_other_twice : (t : Tag) (f : Form) → same_tag t Kd ≡ false → has_form 0 f ≡ nat_lt 1 (times f t)
no_other_twice t f h = none_there f ∙ sym (le-ltb 1 (times f t) (most (nat_le 2 (times f t)) refl)) where
  none_there : (g : Form) → has_form 0 g ≡ false
  none_there g = not-true _ (each_form (λ x. not (has_form 0 x)) refl g)

  most : (b : Bool) → nat_le 2 (times f t) ≡ b → times f t ≤ 1
  most true e = absurd (both_ways (same_tag t Kd) h (twice_kd f t e))
  most false e = let n = leb-false 2 (times f t) e in omega (arith, n)

-- no form has a tag three times
pub none_thrice : (t : Tag) (f : Form) (n : ℕ) → 2 ≤ n → has_form 0 f ≡ nat_lt n (times f t)
none_thrice t f n h = not-true _ (each_form (λ x. not (has_form 0 x)) refl f) ∙ sym (le-ltb n (times f t) (let few = times_few f t in omega (arith, h, few)))

both_bits : (x y z : ℕ) → x < 2 → y < 2 → z ≡ min x y → (z == 1) ≡ ((x == 1) && (y == 1))
both_bits x y z h k e = grind (arith, nat_tests)

both_have : (a b : ℕ) (f : Form) → has_form (bit_and a b) f ≡ (has_form a f && has_form b f)
both_have a b f = both_bits (bit_at a (form_place f)) (bit_at b (form_place f)) (bit_at (bit_and a b) (form_place f)) (bit_at-lt a (form_place f)) (bit_at-lt b (form_place f)) (bit_at_and a b (form_place f))

pub filter_same : (p q : Form → Bool) (fs : List Form) → ((f : Form) → p f ≡ q f) → filter p fs ≡ filter q fs
filter_same p q [] h = refl
filter_same p q (f ∷ fs) h = rw (h f, filter_same p q fs h) refl

pub filter_twice : (p q : Form → Bool) (fs : List Form) → filter q (filter p fs) ≡ filter (λ f. p f && q f) fs
filter_twice p q [] = refl
filter_twice p q (f ∷ fs) = elim (cases_Bool (p f)) [
  | inl h ↦ rw h (ap (λ (gs : List Form). if q f then f ∷ gs else gs) (filter_twice p q fs))
  | inr h ↦ rw h (filter_twice p q fs)
]

pub having_forms : (bits mask : ℕ) (p : Form → Bool) → ((f : Form) → has_form mask f ≡ p f) → forms_in (bit_and bits mask) ≡ filter p (forms_in bits)
having_forms bits mask p h =
    filter_same (has_form (bit_and bits mask)) (λ f. has_form bits f && p f) forms (λ f. both_have bits mask f ∙ ap (λ (b : Bool). has_form bits f && b) (h f))
    ∙ sym (filter_twice (has_form bits) p forms)

pub any_filtered : (p q : Form → Bool) (fs : List Form) → list_any q (filter p fs) ≡ list_any (λ f. p f && q f) fs
any_filtered p q [] = refl
any_filtered p q (f ∷ fs) = elim (cases_Bool (p f)) [
  | inl h ↦ rw h (ap (λ (b : Bool). q f || b) (any_filtered p q fs))
  | inr h ↦ rw h (any_filtered p q fs)
]

pub find_first : (p : Form → Bool) (fs : List Form) → find p fs ≡ slice_get (filter p fs) 0
find_first p [] = refl
find_first p (f ∷ fs) = elim (cases_Bool (p f)) [
  | inl h ↦ rw h refl
  | inr h ↦ rw h (find_first p fs)
]
