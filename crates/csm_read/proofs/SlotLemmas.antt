-- The fields before a token, in slots by tag.
use Rattle.std.proofs.Common.{◌≡◌, ◌≢◌, ℕ, suc, ◌<◌, Bool, true, false, cond, List, [], ◌∷◌, ◌++◌, length, map, set, Option, Some, None, refl, sym, ◌∙◌, ap, subst, arith, inl, inr, get_or-set_other, get_or-set_same}
use Rattle.std.specs.Prelude.{not, nat_le, nat_lt, codes, bytes_eq, ◌&&◌, ◌||◌, ◌==◌, option_map, option_to_list, is_some, is_none, slice_get, if◌then◌else◌}
use Rattle.std.specs.List.{filter, find, list_any}
use Rattle.std.specs.Borrow.{Bor}
use Rattle.std.proofs.lemmas.Bool.{cases_Bool, eqb-true, eqb-false, eq-eqb, ne_eqb, or_left, or_parts, and_left, both_ways, lt-leb, le-leb, ltb-true, ltb-false}
use Rattle.std.proofs.Math.Bool.{and-true}
use Rattle.csm_grammar.specs.declared.tag.Tag.{Tag}
use Rattle.csm_grammar.specs.declared.tag.Tag.TheVariants.{Mcl, Kd, Mac, Edc}
use Rattle.csm_grammar.specs.declared.form.Form.{Form}
use Rattle.csm_grammar.specs.Tags.{tag_place, same_tag, has_tag, count_tag, is_closing}
use Rattle.csm_grammar.specs.Classes.{forms, required, times}
use Rattle.csm_grammar.specs.Spelling.{Field, tags_in}
use Rattle.csm_read.specs.Faults.{candidates, is_ksm, is_repeated, admits, forms_left, is_absent, absent, lacking}
use Rattle.csm_grammar.specs.FormSets.{has_form, forms_in}
use Rattle.csm_read.specs.Slotting.{slot_in, second_in, came, comes, BeginsWithClass, Keeps, is_absent_by, absent_by, lacking_by}
use Rattle.csm_grammar.proofs.TagLemmas.{tag_small, same_tags}
use Rattle.csm_grammar.proofs.Counting.{absent_count, twice_kd}
use Rattle.csm_read.proofs.Admitting.{admits_more}
use Rattle.csm_grammar.proofs.SetLemmas.{filter_twice, filter_same, find_first}

pub slot_set : (slots : List (Option (Bor (List ℕ)))) (tag : Tag) (x : Bor (List ℕ)) (t : Tag) → length slots ≡ 28 → slot_in (set slots (tag_place tag) (Some x)) t ≡ (if same_tag tag t then Some x.now else slot_in slots t)
slot_set slots tag x t h =
    let small = tag_small tag in
    elim (cases_Bool (same_tag tag t)) [
      | inl e ↦ (let k = eqb-true (tag_place tag) (tag_place t) e in let inside : tag_place t < length slots = omega (arith, k, small) in rw (e, k) (ap (λ (o : Option (Bor (List ℕ))). option_map (λ x. x.now) o) (get_or-set_same slots (tag_place t) (Some x) None inside)))
      | inr e ↦ (let k : tag_place t ≢ tag_place tag = λ i. eqb-false (tag_place tag) (tag_place t) e (sym i) in rw e (ap (λ (o : Option (Bor (List ℕ))). option_map (λ x. x.now) o) (get_or-set_other slots (tag_place tag) (tag_place t) (Some x) None k)))
    ]

is_filled : List (List ℕ) → Bool
is_filled [] = false
is_filled (x ∷ xs) = true

filled_or : (t : Tag) (fs : List Field) → is_filled (map (λ f. f.contents) (filter (λ f. same_tag f.tag t) fs)) ≡ has_tag t (tags_in fs)
unfolding is_filled
filled_or t [] = refl
filled_or t (f ∷ fs) = elim (cases_Bool (same_tag f.tag t)) [
  | inl h ↦ rw h refl
  | inr h ↦ rw h (filled_or t fs)
]

-- a tag came where it is one of the fields' tags
pub came_has : (slots : List (Option (Bor (List ℕ)))) (left : ℕ) (fs : List Field) (t : Tag) → Keeps slots left fs → came slots t ≡ has_tag t (tags_in fs)
unfolding is_filled
came_has slots left fs t k = go (slot_in slots t) (same_tag t Kd) refl refl ∙ ap is_filled (sym (k.contents t)) ∙ filled_or t fs where
  go : (o : Option (List ℕ)) (b : Bool) → slot_in slots t ≡ o → same_tag t Kd ≡ b → is_some o ≡ is_filled (option_to_list o ++ cond b (option_to_list (second_in slots)) [])
  go (Some x) b e i = refl
  go None false e i = refl
  go None true e i =
      let none : came slots t ≡ false = ap is_some e in
      ap (λ (o : Option (List ℕ)). is_filled (option_to_list o)) (sym (k.second (subst (λ (s : Tag). came slots s ≡ false) (same_tags t Kd i) none)))

contents_count : (t : Tag) (fs : List Field) → length (map (λ f. f.contents) (filter (λ f. same_tag f.tag t) fs)) ≡ count_tag t (tags_in fs)
contents_count t [] = refl
contents_count t (f ∷ fs) = elim (cases_Bool (same_tag f.tag t)) [
  | inl h ↦ rw h (ap suc (contents_count t fs))
  | inr h ↦ rw h (contents_count t fs)
]

-- it came as often as it is one of them
pub comes_count : (slots : List (Option (Bor (List ℕ)))) (left : ℕ) (fs : List Field) (t : Tag) → Keeps slots left fs → comes slots t ≡ count_tag t (tags_in fs)
comes_count slots left fs t k = go (slot_in slots t) (second_in slots) (same_tag t Kd) refl refl refl ∙ ap length (sym (k.contents t)) ∙ contents_count t fs where
  go : (o p : Option (List ℕ)) (b : Bool) → slot_in slots t ≡ o → second_in slots ≡ p → same_tag t Kd ≡ b → cond (is_some o) (cond (b && is_some p) 2 1) 0 ≡ length (option_to_list o ++ cond b (option_to_list p) [])
  go (Some x) (Some y) true e f i = refl
  go (Some x) (Some y) false e f i = refl
  go (Some x) None true e f i = refl
  go (Some x) None false e f i = refl
  go None p false e f i = refl
  go None p true e f i =
      let none : came slots t ≡ false = ap is_some e in
      ap (λ (o : Option (List ℕ)). length (option_to_list o)) (sym (sym f ∙ k.second (subst (λ (s : Tag). came slots s ≡ false) (same_tags t Kd i) none)))

-- there is a second KD where KD came twice
second_comes : (slots : List (Option (Bor (List ℕ)))) (left : ℕ) (fs : List Field) → Keeps slots left fs → is_none (second_in slots) ≡ nat_lt (count_tag Kd (tags_in fs)) 2
second_comes slots left fs k = go (slot_in slots Kd) (second_in slots) refl refl ∙ ap (λ (n : ℕ). nat_lt n 2) (comes_count slots left fs Kd k) where
  go : (o p : Option (List ℕ)) → slot_in slots Kd ≡ o → second_in slots ≡ p → is_none p ≡ nat_lt (cond (is_some o) (cond (is_some p) 2 1) 0) 2
  go (Some x) (Some y) e f = refl
  go (Some x) None e f = refl
  go None None e f = refl
  go None (Some y) e f = absurd (let none : None ≡ Some y = sym (k.second (ap is_some e)) ∙ f in cc)

find_same : (p q : Tag → Bool) (ts : List Tag) → ((t : Tag) → p t ≡ q t) → find p ts ≡ find q ts
find_same p q [] h = refl
find_same p q (t ∷ ts) h = rw (h t, find_same p q ts h) refl

pub absent_same : (slots : List (Option (Bor (List ℕ)))) (left : ℕ) (fs : List Field) (f : Form) → Keeps slots left fs → absent_by slots f ≡ absent f (tags_in fs)
absent_same slots left fs f k = find_same (is_absent_by slots f) (is_absent f (tags_in fs)) (Mcl ∷ required f) (λ t. one t (nat_le 2 (times f t)) refl) where
  one : (t : Tag) (b : Bool) → nat_le 2 (times f t) ≡ b → cond b (is_none (second_in slots)) (not (came slots t)) ≡ cond b (nat_lt (count_tag t (tags_in fs)) 2) (not (has_tag t (tags_in fs)))
  one t true e = second_comes slots left fs k ∙ ap (λ (s : Tag). nat_lt (count_tag s (tags_in fs)) 2) (sym (same_tags t Kd (twice_kd f t e)))
  one t false e = ap not (came_has slots left fs t k)

any_same : (p q : Form → Bool) (fs : List Form) → ((f : Form) → p f ≡ q f) → list_any p fs ≡ list_any q fs
any_same p q [] h = refl
any_same p q (f ∷ fs) h = rw (h f, any_same p q fs h) refl

lacking_same : (slots : List (Option (Bor (List ℕ)))) (left : ℕ) (fs : List Field) (gs : List Form) → Keeps slots left fs → lacking_by slots gs ≡ lacking gs (tags_in fs)
lacking_same slots left fs [] k = refl
lacking_same slots left fs (g ∷ gs) k = rw (any_same (λ f. is_none (absent_by slots f)) (λ f. is_none (absent f (tags_in fs))) (g ∷ gs) (λ f. ap is_none (absent_same slots left fs f k)), absent_same slots left fs g k) refl

left_more : (slots : List (Option (Bor (List ℕ)))) (left : ℕ) (fs : List Field) (t : Tag) → Keeps slots left fs → filter (λ f. nat_lt (comes slots t) (times f t)) (forms_left fs (tags_in fs)) ≡ forms_left fs (t ∷ tags_in fs)
left_more slots left fs t k =
    filter_twice (λ f. admits f (tags_in fs)) (λ f. nat_lt (comes slots t) (times f t)) (candidates fs)
    ∙ filter_same (λ f. admits f (tags_in fs) && nat_lt (comes slots t) (times f t)) (λ f. admits f (t ∷ tags_in fs)) (candidates fs) (λ f. ap (λ (n : ℕ). admits f (tags_in fs) && nat_lt n (times f t)) (comes_count slots left fs t k) ∙ sym (admits_more f t (tags_in fs)))

-- the forms that are left where a tag comes
pub left_with : (slots : List (Option (Bor (List ℕ)))) (left more : ℕ) (fs : List Field) (t : Tag) → Keeps slots left fs → forms_in more ≡ filter (λ f. nat_lt (comes slots t) (times f t)) (forms_in left) → forms_in more ≡ forms_left fs (t ∷ tags_in fs)
left_with slots left more fs t k h = h ∙ ap (filter (λ f. nat_lt (comes slots t) (times f t))) k.forms ∙ left_more slots left fs t k

-- what the first form lacks
pub lacking_first : (slots : List (Option (Bor (List ℕ)))) (bits : ℕ) (complete : Bool) (o : Option Form) (f : Form) → complete ≡ list_any (λ g. is_none (absent_by slots g)) (forms_in bits) → complete ≡ false → o ≡ find (has_form bits) forms → o ≡ Some f → absent_by slots f ≡ lacking_by slots (forms_in bits)
lacking_first slots bits complete o f h e i j = go (forms_in bits) (sym h ∙ e) (sym (find_first (has_form bits) forms) ∙ (sym i ∙ j)) where
  go : (gs : List Form) → list_any (λ g. is_none (absent_by slots g)) gs ≡ false → slice_get gs 0 ≡ Some f → absent_by slots f ≡ lacking_by slots gs
  go [] k l = absurd cc
  go (g ∷ gs) k l = let same : g ≡ f = cc in rw k (ap (absent_by slots) (sym same))

turned_tags : (s t : Tag) → same_tag s t ≡ same_tag t s
turned_tags s t = elim (cases_Bool (same_tag s t)) [
  | inl h ↦ h ∙ sym (eq-eqb _ _ (sym (eqb-true _ _ h)))
  | inr h ↦ h ∙ sym (ne_eqb _ _ (λ e. eqb-false _ _ h (sym e)))
]

swapped : (a b c d : Bool) → ((a || (b || false)) || (c || d)) ≡ ((a || c) || (b || d))
swapped true b c d = refl
swapped false true true d = refl
swapped false true false d = refl
swapped false false c d = refl

closing_any : (ts : List Tag) → list_any is_closing ts ≡ (has_tag Mac ts || has_tag Edc ts)
closing_any [] = refl
closing_any (t ∷ ts) = rw (closing_any ts, turned_tags Mac t, turned_tags Edc t) (swapped (same_tag t Mac) (same_tag t Edc) (has_tag Mac ts) (has_tag Edc ts))

-- a code came where MAC or EDC did
pub closed_has : (slots : List (Option (Bor (List ℕ)))) (left : ℕ) (fs : List Field) → Keeps slots left fs → (came slots Mac || came slots Edc) ≡ list_any is_closing (tags_in fs)
closed_has slots left fs k = rw (came_has slots left fs Mac k, came_has slots left fs Edc k) (sym (closing_any (tags_in fs)))

-- the first field is MCL, so one came where it did
pub none_came : (slots : List (Option (Bor (List ℕ)))) (left : ℕ) (fs : List Field) → Keeps slots left fs → not (came slots Mcl) ≡ (length fs == 0)
none_came slots left fs k = ap not (came_has slots left fs Mcl k) ∙ go fs k.class_first where
  go : (gs : List Field) → BeginsWithClass gs → not (has_tag Mcl (tags_in gs)) ≡ (length gs == 0)
  go [] h = refl
  go (g ∷ gs) h = rw h (sym (ne_eqb (suc (length gs)) 0 (λ e. omega (arith, e))))

pub unwanted_closed : (slots : List (Option (Bor (List ℕ)))) (left : ℕ) (fs : List Field) (b other : Bool) → Keeps slots left fs → b ≡ (came slots Mac || came slots Edc) → b ≡ true → b ≡ (list_any is_closing (tags_in fs) || other)
unwanted_closed slots left fs b other k h e = e ∙ sym (or_left _ other (sym (closed_has slots left fs k) ∙ sym h ∙ e))

pub unwanted_open : (slots : List (Option (Bor (List ℕ)))) (left more : ℕ) (fs : List Field) (t : Tag) (b empty : Bool) → Keeps slots left fs → b ≡ (came slots Mac || came slots Edc) → b ≡ false → forms_in more ≡ filter (λ f. nat_lt (comes slots t) (times f t)) (forms_in left) → empty ≡ (length (forms_in more) == 0)
    → empty ≡ (list_any is_closing (tags_in fs) || (length (forms_left fs (t ∷ tags_in fs)) == 0))
unwanted_open slots left more fs t b empty k h e m n =
    let c : list_any is_closing (tags_in fs) ≡ false = sym (closed_has slots left fs k) ∙ sym h ∙ e in
    rw (c, ← left_with slots left more fs t k m) n

pub missing_code : (slots : List (Option (Bor (List ℕ)))) (left more : ℕ) (fs : List Field) (t : Tag) (b : Bool) (o : Option Tag) → Keeps slots left fs → b ≡ is_closing t → b ≡ true → forms_in more ≡ filter (λ f. nat_lt (comes slots t) (times f t)) (forms_in left) → o ≡ lacking_by slots (forms_in more)
    → o ≡ (if is_closing t then lacking (forms_left fs (t ∷ tags_in fs)) (tags_in fs) else None)
missing_code slots left more fs t b o k h e m n =
    rw (sym h ∙ e) (n ∙ ap (lacking_by slots) (left_with slots left more fs t k m) ∙ lacking_same slots left fs (forms_left fs (t ∷ tags_in fs)) k)

pub wrong_begin : (slots : List (Option (Bor (List ℕ)))) (left : ℕ) (fs : List Field) (b first : Bool) → Keeps slots left fs → b ≡ came slots Mcl → not b ≡ false → not b ≡ ((length fs == 0) && not first)
wrong_begin slots left fs b first k h e = e ∙ sym (and_left _ (not first) (sym (none_came slots left fs k) ∙ ap not (sym h) ∙ e))

-- the class that MCL names
pub class_named : (slots : List (Option (Bor (List ℕ)))) (left : ℕ) (fs : List Field) (c : List ℕ) → Keeps slots left fs → slot_in slots Mcl ≡ Some c → is_ksm fs ≡ bytes_eq c (codes "KSM")
class_named slots left fs c k h = go fs (k.contents Mcl ∙ ap (λ (o : Option (List ℕ)). option_to_list o ++ []) h) k.class_first where
  go : (gs : List Field) → map (λ f. f.contents) (filter (λ f. same_tag f.tag Mcl) gs) ≡ c ∷ [] → BeginsWithClass gs → is_ksm gs ≡ bytes_eq c (codes "KSM")
  go [] e b = absurd cc
  go (g ∷ gs) e b =
      let first : same_tag g.tag Mcl ≡ true = ap (λ (t : Tag). same_tag t Mcl) b in
      let all : g.contents ∷ map (λ (f : Field). f.contents) (filter (λ (f : Field). same_tag f.tag Mcl) gs) ≡ c ∷ [] = subst (λ (x : Bool). map (λ (f : Field). f.contents) (cond x (g ∷ filter (λ (f : Field). same_tag f.tag Mcl) gs) (filter (λ (f : Field). same_tag f.tag Mcl) gs)) ≡ c ∷ []) first e in
      let same : g.contents ≡ c = cc in
      ap (λ (x : List ℕ). bytes_eq x (codes "KSM")) same

pub no_class : (slots : List (Option (Bor (List ℕ)))) (left : ℕ) (fs : List Field) → Keeps slots left fs → slot_in slots Mcl ≡ None → is_ksm fs ≡ false
no_class slots left fs k h = go fs (sym (came_has slots left fs Mcl k) ∙ ap is_some h) k.class_first where
  go : (gs : List Field) → has_tag Mcl (tags_in gs) ≡ false → BeginsWithClass gs → is_ksm gs ≡ false
  go [] e b = refl
  go (g ∷ gs) e b = absurd (both_ways (same_tag g.tag Mcl) (or_parts _ _ e).0 (ap (λ (t : Tag). same_tag t Mcl) b))

-- KD that came, in a KSM, is repeated where it came twice; any other tag where it came
pub repeated_second : (slots : List (Option (Bor (List ℕ)))) (left : ℕ) (fs : List Field) (t : Tag) (second : Bool) → Keeps slots left fs → same_tag t Kd ≡ true → is_ksm fs ≡ true → second ≡ is_some (second_in slots) → second ≡ is_repeated fs t
repeated_second slots left fs t second k h c e =
    let n : is_some (second_in slots) ≡ nat_le 2 (count_tag Kd (tags_in fs)) = turned (second_in slots) (count_tag Kd (tags_in fs)) (second_comes slots left fs k) in
    rw (h, c) (e ∙ n ∙ ap (λ (s : Tag). nat_le 2 (count_tag s (tags_in fs))) (sym (same_tags t Kd h))) where
      turned : (o : Option (List ℕ)) (n : ℕ) → is_none o ≡ nat_lt n 2 → is_some o ≡ nat_le 2 n
      turned None n i = sym (lt-leb 2 n (ltb-true n 2 (sym i)))
      turned (Some x) n i = sym (le-leb 2 n (ltb-false n 2 (sym i)))

pub repeated_other : (slots : List (Option (Bor (List ℕ)))) (left : ℕ) (fs : List Field) (t : Tag) (has : Bool) → Keeps slots left fs → ((same_tag t Kd && came slots Kd) && is_ksm fs) ≡ false → has ≡ came slots t → has ≡ is_repeated fs t
repeated_other slots left fs t has k h e = go (same_tag t Kd) (is_ksm fs) refl refl h where
  there : has ≡ has_tag t (tags_in fs)
  there = e ∙ came_has slots left fs t k

  go : (b c : Bool) → same_tag t Kd ≡ b → is_ksm fs ≡ c → ((b && came slots Kd) && c) ≡ false → has ≡ cond (b && c) (nat_le 2 (count_tag t (tags_in fs))) (has_tag t (tags_in fs))
  go false c i j l = there
  go true false i j l = there
  go true true i j l =
      let none : came slots Kd ≡ false = sym (and-true (came slots Kd)) ∙ l in
      let same = same_tags t Kd i in
      let z : count_tag t (tags_in fs) ≡ 0 = absent_count t (tags_in fs) (sym (came_has slots left fs t k) ∙ ap (came slots) same ∙ none) in
      e ∙ ap (came slots) same ∙ none ∙ sym (ap (nat_le 2) z)
