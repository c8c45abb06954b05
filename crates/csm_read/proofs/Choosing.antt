-- The form of fields without a fault, and the contents behind each tag.
use Rattle.std.proofs.Common.{◌≡◌, ℕ, ◌≤◌, Bool, true, false, cond, List, [], ◌∷◌, ◌++◌, map, Some, None, refl, sym, ◌∙◌, ap, subst, arith}
use Rattle.std.specs.Prelude.{◌&&◌, ◌||◌, is_none, bytes_eq}
use Rattle.std.specs.List.{find, filter, list_any, list_all}
use Rattle.std.specs.Cmp.Lexicographic.{bytes_decides}
use Rattle.std.proofs.lemmas.Bool.{and_parts, and_from, or_left}
use Rattle.csm_grammar.specs.declared.tag.Tag.{Tag}
use Rattle.csm_grammar.specs.declared.tag.Tag.TheVariants.{Mcl}
use Rattle.csm_grammar.specs.declared.form.Form.{Form}
use Rattle.csm_grammar.specs.declared.form.Need.{Need}
use Rattle.csm_grammar.specs.declared.form.Need.TheVariants.{Required}
use Rattle.csm_grammar.specs.Tags.{has_tag, count_tag, is_closing}
use Rattle.csm_grammar.specs.Classes.{forms, class_text, class_forms, required, need_of, times}
use Rattle.csm_grammar.specs.Values.{AText}
use Rattle.csm_grammar.specs.Spelling.{Field, tags_in, ComesAs, AreOfForm, values_in}
use Rattle.csm_read.specs.Units.{Standing}
use Rattle.csm_read.specs.Faults.{candidates, admits, forms_left, absent, fields_from, unclosed_fault}
use Rattle.csm_read.specs.Judging.{form_left}
use Rattle.csm_grammar.proofs.TagLemmas.{find_passes, same_itself}
use Rattle.csm_read.proofs.Passing.{AllPass}
use Rattle.csm_grammar.proofs.Counting.{count_fields, present_count, mcl_count, of_form}
use Rattle.csm_read.proofs.Admitting.{complete_from, enough, admitted, admits_from}
use Rattle.csm_read.proofs.Closing.{any_filtered, IsWholeForm, whole_form}
use Rattle.csm_read.proofs.Making.{are_known, passing_known, OneCode}
use Rattle.csm_read.proofs.Codes.{one_code}
use Rattle.csm_read.proofs.Spelled.{faultless}
use Rattle.csm_read.proofs.Found.{class_values}
use Rattle.csm_read.proofs.Proper.{any_form, need_most}
use Rattle.csm_read.proofs.Judging.{AtEnd, closed_faultless}

found_all : {X : Type 0} (p q : X → Bool) (xs : List X) (x : X) → list_all q xs ≡ true → find p xs ≡ Some x → q x ≡ true
found_all p q [] x a h = absurd cc
found_all {X} p q (y ∷ ys) x a h = go (p y) h (λ i. found_all p q ys x k.1 i) where
  k : (q y ≡ true) × (list_all q ys ≡ true)
  k = and_parts (q y) (list_all q ys) a

  go : (b : Bool) → cond b (Some y) (find p ys) ≡ Some x → (find p ys ≡ Some x → q x ≡ true) → q x ≡ true
  go true i more = let e : y ≡ x = cc in subst (λ (z : X). q z ≡ true) e k.0
  go false i more = more i

filter_all : {X : Type 0} (q : X → Bool) (xs : List X) → list_all q (filter q xs) ≡ true
filter_all q [] = refl
filter_all {X} q (x ∷ xs) = go (q x) refl (filter_all q xs) where
  go : (b : Bool) → q x ≡ b → list_all q (filter q xs) ≡ true → list_all q (cond b (x ∷ filter q xs) (filter q xs)) ≡ true
  go true e more = and_from _ _ e more
  go false e more = more

filter_keeps : {X : Type 0} (p q : X → Bool) (xs : List X) → list_all p xs ≡ true → list_all p (filter q xs) ≡ true
filter_keeps p q [] h = refl
filter_keeps {X} p q (x ∷ xs) h = go (q x) (filter_keeps p q xs k.1) where
  k : (p x ≡ true) × (list_all p xs ≡ true)
  k = and_parts (p x) (list_all p xs) h

  go : (b : Bool) → list_all p (filter q xs) ≡ true → list_all p (cond b (x ∷ filter q xs) (filter q xs)) ≡ true
  go true more = and_from _ _ k.0 more
  go false more = more

any_found : {X : Type 0} (p : X → Bool) (xs : List X) → list_any p xs ≡ true → (x : X) × (find p xs ≡ Some x)
any_found p [] h = absurd cc
any_found {X} p (x ∷ xs) h = go (p x) h (λ i. any_found p xs i) where
  go : (b : Bool) → (b || list_any p xs) ≡ true → (list_any p xs ≡ true → (y : X) × (find p xs ≡ Some y)) → (y : X) × (cond b (Some x) (find p xs) ≡ Some y)
  go true i more = (x, refl)
  go false i more = more i

-- fields of a form, up to a code
pub record IsReady (fs : List Field) : Type 0 where
  pub form : Form
  pub left : form_left fs ≡ Some form
  pub tags : AreOfForm form fs
  pub known : are_known fs ≡ true
  pub class : values_in Mcl fs ≡ map Some (AText (class_text form) ∷ [])
  pub code : OneCode fs

module _ (fs : List Field) (pass : AllPass [] fs) (w : IsWholeForm fs) where
  gs : List Field
  gs = w.first ∷ w.rest

  complete_test : Form → Bool
  complete_test g = is_none (absent g (tags_in fs))

  allowed_test : Form → Bool
  allowed_test g = admits g (tags_in fs)

  class_test : Form → Bool
  class_test g = bytes_eq (class_text g) w.first.contents

  in_front : candidates fs ≡ class_forms w.first.contents
  in_front = ap candidates w.text

  all_tags : (t : Tag) → count_tag t (tags_in fs) ≤ times w.form t
  all_tags t = need_most (need_of w.form t) _ _ (w.tags t)

  own_complete : complete_test w.form ≡ true
  unfolding complete_test
  own_complete = complete_from w.form (tags_in fs) there where
    there : (t : Tag) → has_tag t (Mcl ∷ required w.form) ≡ true → times w.form t ≤ count_tag t (tags_in fs)
    there t h =
        let n : need_of w.form t ≡ Required = rw h refl in
        let all : count_tag t (tags_in fs) ≡ times w.form t = subst (λ (k : Need). ComesAs k (times w.form t) (count_tag t (tags_in fs))) n (w.tags t) in
        omega (arith, all)

  own_test : (class_test w.form && (allowed_test w.form && complete_test w.form)) ≡ true
  unfolding class_test allowed_test
  own_test = and_from _ _ ((bytes_decides (class_text w.form) w.first.contents).1 w.class) (and_from _ _ (admits_from w.form (tags_in fs) all_tags) own_complete)

  some_form : (g : Form) × (form_left fs ≡ Some g)
  unfolding class_test allowed_test complete_test
  some_form =
      let a = any_filtered complete_test allowed_test (candidates fs) in
      let b = ap (list_any (λ g. allowed_test g && complete_test g)) in_front ∙ any_filtered (λ g. allowed_test g && complete_test g) class_test forms in
      any_found complete_test (forms_left fs (tags_in fs)) (a ∙ b ∙ any_form (λ g. class_test g && (allowed_test g && complete_test g)) w.form own_test)

  -- a form that is left has all tags
  of_left : (g : Form) → form_left fs ≡ Some g → AreOfForm g fs
  unfolding class_test allowed_test complete_test gs
  of_left g h =
      let complete = find_passes complete_test (forms_left fs (tags_in fs)) g h in
      let allowed = found_all complete_test allowed_test (forms_left fs (tags_in fs)) g (filter_all allowed_test (candidates fs)) h in
      let counted = ap (λ (xs : List Field). count_tag w.code.tag (tags_in xs)) w.text ∙ count_fields w.code.tag gs (w.code ∷ []) in
      let code = present_count w.code.tag (w.code.tag ∷ []) (or_left _ _ (same_itself w.code.tag)) in
      of_form g fs w.code.tag (admitted g (tags_in fs) allowed) (enough g (tags_in fs) complete) w.closes (omega (arith, counted, code))

  left_class : (g : Form) → form_left fs ≡ Some g → class_text g ≡ w.first.contents
  unfolding class_test allowed_test complete_test
  left_class g h =
      let all : list_all class_test (candidates fs) ≡ true = ap (list_all class_test) in_front ∙ filter_all class_test forms in
      (bytes_decides (class_text g) w.first.contents).0 (found_all complete_test class_test (forms_left fs (tags_in fs)) g (filter_keeps class_test allowed_test (candidates fs) all) h)

  pub ready_fields : IsReady fs
  unfolding gs
  ready_fields =
      let g = some_form in
      let k = passing_known [] fs pass in
      let tags = of_left g.0 g.1 in
      let t : fs ≡ w.first ∷ (w.rest ++ w.code ∷ []) = w.text in
      let c = class_values g.0 w.first (w.rest ++ w.code ∷ []) w.class_first (left_class g.0 g.1) (subst (λ (xs : List Field). count_tag Mcl (tags_in xs) ≡ 1) t (mcl_count g.0 fs tags)) (subst (λ (xs : List Field). are_known xs ≡ true) t k) in
      record { form = g.0; left = g.1; tags = tags; known = k; class = ap (values_in Mcl) t ∙ c; code = subst OneCode (sym w.text) (one_code gs w.code w.closes w.unclosed) }

-- at `)` without a fault one form is left, and the fields have its tags
pub ready : (b : List ℕ) (done : List Standing) (at : ℕ) → AtEnd b done at → unclosed_fault (fields_from done) at ≡ None → IsReady (fields_from done)
ready b done at a h =
    let x = faultless b (closed_faultless b done at a h) in
    let e = x.fields ∙ ap fields_from a.are in
    let pass = subst (AllPass []) e x.pass in
    ready_fields (fields_from done) pass (whole_form (fields_from done) pass (subst (λ (fs : List Field). list_any is_closing (tags_in fs) ≡ true) e x.closes))
