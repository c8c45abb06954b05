-- No two messages are spelled alike.
use Rattle.std.proofs.Common.{◌≡◌, ℕ, ◌+◌, Bool, true, false, cond, List, [], ◌∷◌, ◌++◌, map, get_or, Option, Some, refl, sym, ◌∙◌, ap, subst, arith, inl, inr}
use Rattle.std.specs.Prelude.{◌⊎◌, ◌==◌, ◌||◌, not, bytes_eq}
use Rattle.std.specs.List.{list_any}
use Rattle.std.specs.Cmp.Lexicographic.{bytes_decides}
use Rattle.std.proofs.lemmas.Bool.{eqb-true, eq-eqb, and_parts, or_cases, not-true, false≢true, both_ways, false_from_ne_true}
use Rattle.std.proofs.lemmas.List.{append-nil, map-append, same_from_push}
use Rattle.std.proofs.lemmas.List.Elements.{filter-append}
use Rattle.csm_grammar.specs.declared.tag.Tag.{Tag}
use Rattle.csm_grammar.specs.declared.tag.Tag.TheVariants.{Mac, Edc}
use Rattle.csm_grammar.specs.declared.form.Form.{Form}
use Rattle.csm_grammar.specs.declared.form.Form.TheVariants.{F1}
use Rattle.csm_grammar.specs.declared.form.Need.{Need}
use Rattle.csm_grammar.specs.declared.form.Need.TheVariants.{Required, Optional, Refused}
use Rattle.csm_grammar.specs.declared.message.Message.{Message}
use Rattle.csm_grammar.specs.declared.parsed.Shut.{Shut}
use Rattle.csm_grammar.specs.declared.parsed.Shut.TheVariants as shuts
use Rattle.csm_grammar.specs.declared.parsed.Parsed.{Parsed}
use Rattle.csm_grammar.specs.Tags.{tags, same_tag, count_tag, is_closing}
use Rattle.csm_grammar.specs.Classes.{forms, class_text, need_of, times}
use Rattle.csm_grammar.specs.Values.{Value, kind_of, value_of}
use Rattle.csm_grammar.specs.Messages.{form_of, shut_field, all_fields}
use Rattle.csm_grammar.specs.Spelling.{Field, tags_in, ComesAs, values_in, values_for, StandFor}
use Rattle.csm_read.specs.Units.{units_of}
use Rattle.csm_read.specs.Faults.{fields_from}
use Rattle.csm_grammar.specs.Reading.{IsRead}
use Rattle.csm_grammar.proofs.TagLemmas.{form_place, form_at, same_tags}
use Rattle.csm_read.proofs.FormsApart.{parts_needs, parts_forms, all_told_apart}
use Rattle.csm_grammar.proofs.Counting.{count_fields}
use Rattle.csm_read.proofs.Codes.{closing_values}
use Rattle.csm_read.proofs.ContentsLemmas.{any_has}
use Rattle.csm_read.proofs.Proper.{IsProper}
use Rattle.csm_read.proofs.Kept.{kept}
use Rattle.csm_read.proofs.Back.{message_by, values_beside, message_back}

never : (n k : Need) (most other c : ℕ) → ComesAs n most c → ComesAs k other c → parts_needs n k most other ≡ true → ⊥
never Required Required most other c i j h = go (or_cases _ _ h) where
  go : (false ≡ true) ⊎ ((not (most == other)) ≡ true) → ⊥
  go (inl e) = false≢true e
  go (inr e) = both_ways (most == other) (not-true _ e) (eq-eqb most other (sym i ∙ j))
never Required Optional most other c i j h = false≢true h
never Required Refused most other c i j h = go (or_cases _ _ h) where
  go : (not (most == 0) ≡ true) ⊎ (false ≡ true) → ⊥
  go (inl e) = both_ways (most == 0) (not-true _ e) (eq-eqb most 0 (sym i ∙ j))
  go (inr e) = false≢true e
never Optional k most other c i j h = false≢true h
never Refused k most other c i j h = false≢true h

-- two forms of one class with the same tags, each as often, are one
pub same_form : (g h : Form) (count : Tag → ℕ) → ((t : Tag) → is_closing t ≡ false → ComesAs (need_of g t) (times g t) (count t)) → ((t : Tag) → is_closing t ≡ false → ComesAs (need_of h t) (times h t) (count t)) → class_text g ≡ class_text h → g ≡ h
same_form g h count i j class = go (or_cases _ _ (all_told_apart g h)) where
  apart : (t : Tag) → parts_forms g h t ≡ true → ⊥
  apart t e = both (or_cases _ _ k.1) where
    k : (not (is_closing t) ≡ true) × ((parts_needs (need_of g t) (need_of h t) (times g t) (times h t) || parts_needs (need_of h t) (need_of g t) (times h t) (times g t)) ≡ true)
    k = and_parts _ _ e

    o : is_closing t ≡ false
    o = not-true _ k.0

    both : (parts_needs (need_of g t) (need_of h t) (times g t) (times h t) ≡ true) ⊎ (parts_needs (need_of h t) (need_of g t) (times h t) (times g t) ≡ true) → ⊥
    both (inl x) = never (need_of g t) (need_of h t) (times g t) (times h t) (count t) (i t o) (j t o) x
    both (inr x) = never (need_of h t) (need_of g t) (times h t) (times g t) (count t) (j t o) (i t o) x

  later : (not (bytes_eq (class_text g) (class_text h)) ≡ true) ⊎ (list_any (parts_forms g h) tags ≡ true) → g ≡ h
  later (inl e) = absurd (both_ways _ (not-true _ e) ((bytes_decides (class_text g) (class_text h)).1 class))
  later (inr e) = let t = any_has (parts_forms g h) tags e in absurd (apart t.0 t.1)

  go : ((form_place g == form_place h) ≡ true) ⊎ ((not (bytes_eq (class_text g) (class_text h)) || list_any (parts_forms g h) tags) ≡ true) → g ≡ h
  go (inl e) = sym (form_at g) ∙ ap (λ (n : ℕ). get_or forms n F1) (eqb-true _ _ e) ∙ form_at h
  go (inr e) = later (or_cases _ _ e)

somes : (xs ys : List Value) → map Some xs ≡ map Some ys → xs ≡ ys
somes [] [] h = refl
somes [] (y ∷ ys) h = absurd cc
somes (x ∷ xs) [] h = absurd cc
somes (x ∷ xs) (y ∷ ys) h =
    let i : x ≡ y = cc in
    let j = somes xs ys cc in
    λ k. i k ∷ j k

-- two messages of one form with the same values beside the code are one
pub same_message : (m n : Message) (s t : Shut) → form_of m ≡ form_of n → ((x : Tag) → is_closing x ≡ false → values_for x (all_fields m s) ≡ values_for x (all_fields n t)) → m ≡ n
same_message m n s t f v =
    let g : values_beside m s ≡ values_beside n t = λ i x. at x i in
    let a : Some m ≡ Some n = sym (message_back m s) ∙ (λ i. message_by (f i) (g i)) ∙ message_back n t in
    cc where
      here : (x : Tag) (b : Bool) → is_closing x ≡ b → cond b [] (values_for x (all_fields m s)) ≡ cond b [] (values_for x (all_fields n t))
      here x true e = refl
      here x false e = v x e

      at : (x : Tag) → values_beside m s x ≡ values_beside n t x
      at x = here x (is_closing x) refl

same_code : (s t : Shut) → values_for Mac (shut_field s ∷ []) ≡ values_for Mac (shut_field t ∷ []) → values_for Edc (shut_field s ∷ []) ≡ values_for Edc (shut_field t ∷ []) → s ≡ t
same_code (shuts.Mac a) (shuts.Mac b) h k = let e : a ≡ b = cc in ap (λ (n : ℕ). shuts.Mac n) e
same_code (shuts.Mac a) (shuts.Edc b) h k = absurd cc
same_code (shuts.Edc a) (shuts.Mac b) h k = absurd cc
same_code (shuts.Edc a) (shuts.Edc b) h k = let e : a ≡ b = cc in ap (λ (n : ℕ). shuts.Edc n) e

pub same_end : (fs : List Field) (m n : Message) (s t : Shut) → StandFor fs m s → StandFor fs n t → s ≡ t
same_end fs m n s t h k =
    let at : (x : Tag) → is_closing x ≡ true → values_for x (shut_field s ∷ []) ≡ values_for x (shut_field t ∷ []) =
    λ x c. sym (closing_values x m s c) ∙ somes _ _ (sym (h x) ∙ k x) ∙ closing_values x n t c in
    same_code s t (at Mac refl) (at Edc refl)

-- the class of proper fields
class_same : (g h : Form) (gs hs : List Field) (c d : Field) → IsProper g gs c → IsProper h hs d → gs ≡ hs → class_text g ≡ class_text h
class_same g h gs hs c d p q e = let i : p.first ≡ q.first = cc (p.begins, q.begins, e) in p.class ∙ ap (λ (f : Field). f.contents) i ∙ sym q.class

beside_code : (t : Tag) (gs : List Field) (c : Field) → is_closing t ≡ false → is_closing c.tag ≡ true → values_in t (gs ++ c ∷ []) ≡ values_in t gs
beside_code t gs c h k =
    ap (map (λ (f : Field). value_of (kind_of f.tag) f.contents)) (filter-append (λ f. same_tag f.tag t) gs (c ∷ [])) ∙ map-append (λ f. value_of (kind_of f.tag) f.contents) _ _
    ∙ ap (λ (vs : List (Option Value)). values_in t gs ++ vs) (rw other refl) ∙ append-nil _ where
      other : same_tag c.tag t ≡ false
      other = false_from_ne_true _ (λ e. both_ways (is_closing t) h (subst (λ (x : Tag). is_closing x ≡ true) (same_tags c.tag t e) k))

count_beside : (t : Tag) (gs : List Field) (c : Field) → is_closing t ≡ false → is_closing c.tag ≡ true → count_tag t (tags_in (gs ++ c ∷ [])) ≡ count_tag t (tags_in gs)
count_beside t gs c h k =
    let a = count_fields t gs (c ∷ []) in
    let z : count_tag t (c.tag ∷ []) ≡ 0 = rw other refl in
    omega arith where
      other : same_tag c.tag t ≡ false
      other = false_from_ne_true _ (λ e. both_ways (is_closing t) h (subst (λ (x : Tag). is_closing x ≡ true) (same_tags c.tag t e) k))

-- fields with the same ones before the code stand for the same message
pub one_message : (m n : Message) (s t : Shut) (gs : List Field) (c d : Field) → IsProper (form_of m) gs c → IsProper (form_of n) gs d → StandFor (gs ++ c ∷ []) m s → StandFor (gs ++ d ∷ []) n t → m ≡ n
one_message m n s t gs c d p q h k =
    let f = same_form (form_of m) (form_of n) (λ x. count_tag x (tags_in gs))
    (λ x o. subst (ComesAs (need_of (form_of m) x) (times (form_of m) x)) (count_beside x gs c o p.closes) (p.tags x))
    (λ x o. subst (ComesAs (need_of (form_of n) x) (times (form_of n) x)) (count_beside x gs d o q.closes) (q.tags x))
    (class_same (form_of m) (form_of n) gs gs c d p q refl) in
    same_message m n s t f (λ x o. somes _ _ (sym (h x) ∙ beside_code x gs c o p.closes ∙ sym (beside_code x gs d o q.closes) ∙ k x))

last_same : (xs ys : List Field) (x y : Field) → xs ++ x ∷ [] ≡ ys ++ y ∷ [] → (xs ≡ ys) × (x ≡ y)
last_same xs ys x y h = same_from_push xs ys x y h

-- one prefix is a spelling, of one message and one code
pub sole : (b : List ℕ) (p q : Parsed) → IsRead b p → IsRead b q → p ≡ q
sole b p q r s =
    let x = kept b p r in
    let y = kept b q s in
    let e = last_same x.proper.0 y.proper.0 x.proper.1 y.proper.1 (sym x.proper.2 ∙ y.proper.2) in
    let m : p.message ≡ q.message = one_message p.message q.message p.shut q.shut x.proper.0 x.proper.1 y.proper.1 x.proper.3
    (subst (λ (gs : List Field). IsProper (form_of q.message) gs y.proper.1) (sym e.0) y.proper.3)
    (subst (λ (fs : List Field). StandFor fs p.message p.shut) x.proper.2 x.stands)
    (subst (λ (gs : List Field). StandFor (gs ++ y.proper.1 ∷ []) q.message q.shut) (sym e.0) (subst (λ (fs : List Field). StandFor fs q.message q.shut) y.proper.2 y.stands)) in
    let u = same_end (fields_from (units_of b)) p.message q.message p.shut q.shut x.stands y.stands in
    let a : p.auth_len ≡ q.auth_len = x.auth ∙ sym y.auth in
    let t : x.at ≡ y.at = (let z : Some x.at ≡ Some y.at = sym x.place ∙ y.place in cc) in
    let n : p.len ≡ q.len = x.len ∙ ap (λ (k : ℕ). k + 1) t ∙ sym y.len in
    λ i. record { message = m i; shut = u i; auth_len = a i; len = n i }
