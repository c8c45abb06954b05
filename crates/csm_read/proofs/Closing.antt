-- Fields that pass up to a code are those of a form.
use Rattle.std.proofs.Common.{◌≡◌, ◌+◌, Bool, true, false, cond, List, [], ◌∷◌, ◌++◌, length, None, refl, sym, ◌∙◌, ap, subst, append_assoc, arith}
use Rattle.std.specs.Prelude.{◌==◌, ◌&&◌, ◌||◌, is_none, bytes_eq}
use Rattle.std.specs.List.{list_any, filter}
use Rattle.std.specs.Cmp.Lexicographic.{bytes_decides}
use Rattle.std.proofs.lemmas.List.{append-nil}
use Rattle.std.proofs.lemmas.Bool.{and_parts, or_parts, or_left, or_right, not-false, true≢false, both_ways}
use Rattle.std.proofs.lemmas.List.Folds.{list_any-append}
use Rattle.csm_grammar.specs.declared.tag.Tag.{Tag}
use Rattle.csm_grammar.specs.declared.tag.Tag.TheVariants.{Mcl}
use Rattle.csm_grammar.specs.declared.form.Form.{Form}
use Rattle.csm_grammar.specs.Tags.{count_tag, is_closing}
use Rattle.csm_grammar.specs.Classes.{forms, class_text, class_forms, allows}
use Rattle.csm_grammar.specs.Spelling.{Field, tags_in, AreOfForm}
use Rattle.csm_read.specs.Faults.{admits, forms_left, absent, lacking}
use Rattle.csm_grammar.proofs.TagLemmas.{same_tags, same_itself}
use Rattle.csm_read.proofs.Passing.{Passes, AllPass}
use Rattle.csm_read.proofs.ContentsLemmas.{any_has}
use Rattle.csm_grammar.proofs.Counting.{tags_append, count_append, count_fields, present_count, of_form}
use Rattle.csm_read.proofs.Admitting.{enough, admitted, admits_allows}

-- a code among fields that pass is the last of them
pub record Closed (before fs : List Field) : Type 0 where
  pub others : List Field
  pub code : Field
  pub text : fs ≡ others ++ code ∷ []
  pub closes : is_closing code.tag ≡ true
  pub passes : Passes (before ++ others) code

closed_here : (before : List Field) (f : Field) (fs : List Field) → Passes before f → AllPass (before ++ f ∷ []) fs → is_closing f.tag ≡ true → Closed before (f ∷ fs)
closed_here before f [] p h e = record { others = []; code = f; text = refl; closes = e; passes = subst (λ (xs : List Field). Passes xs f) (sym (append-nil before)) p }
closed_here before f (g ∷ gs) p h e =
    let k = ap (list_any is_closing) (tags_append before (f ∷ [])) ∙ list_any-append is_closing (tags_in before) (f.tag ∷ []) in
    absurd (both_ways _ h.0.unclosed (k ∙ or_right _ _ (or_left _ _ e)))

closed_later : (before : List Field) (f : Field) (fs : List Field) → Closed (before ++ f ∷ []) fs → Closed before (f ∷ fs)
closed_later before f fs c = record {
  others = f ∷ c.others;
  code = c.code;
  text = ap (λ (xs : List Field). f ∷ xs) c.text;
  closes = c.closes;
  passes = subst (λ (xs : List Field). Passes xs c.code) (append_assoc before (f ∷ []) c.others) c.passes;
}

pub closed : (before fs : List Field) → AllPass before fs → list_any is_closing (tags_in fs) ≡ true → Closed before fs
closed before [] h c = absurd cc
closed before (f ∷ fs) h c = go (is_closing f.tag) refl c (λ i. closed (before ++ f ∷ []) fs h.1 i) where
  go : (b : Bool) → is_closing f.tag ≡ b → (b || list_any is_closing (tags_in fs)) ≡ true → (list_any is_closing (tags_in fs) ≡ true → Closed (before ++ f ∷ []) fs) → Closed before (f ∷ fs)
  go true e i more = closed_here before f fs h.0 h.1 e
  go false e i more = closed_later before f fs (more i)

pub any_filtered : (p q : Form → Bool) (xs : List Form) → list_any p (filter q xs) ≡ list_any (λ x. q x && p x) xs
any_filtered p q [] = refl
any_filtered p q (x ∷ xs) = go (q x) (any_filtered p q xs) where
  go : (b : Bool) → list_any p (filter q xs) ≡ list_any (λ y. q y && p y) xs → list_any p (cond b (x ∷ filter q xs) (filter q xs)) ≡ ((b && p x) || list_any (λ y. q y && p y) xs)
  go true e = ap (λ (b : Bool). p x || b) e
  go false e = e

not_lacking : (fs : List Form) (ts : List Tag) → lacking fs ts ≡ None → (length fs == 0) ≡ false → list_any (λ g. is_none (absent g ts)) fs ≡ true
not_lacking [] ts h n = absurd (true≢false n)
not_lacking (f ∷ fs) ts h n = go (list_any (λ g. is_none (absent g ts)) (f ∷ fs)) refl h where
  go : (b : Bool) → list_any (λ g. is_none (absent g ts)) (f ∷ fs) ≡ b → cond b None (absent f ts) ≡ None → b ≡ true
  go true e i = refl
  go false e i = let k = or_parts (is_none (absent f ts)) _ e in absurd (both_ways _ k.0 (ap is_none i))

-- a form of the class that MCL names, with all tags of fields and of a code, none of its own absent
pub record HasForm (gs : List Field) (c : Field) : Type 0 where
  pub form : Form
  pub first : Field
  pub rest : List Field
  pub begins : gs ≡ first ∷ rest
  pub class : class_text form ≡ first.contents
  pub allowed : admits form (c.tag ∷ tags_in gs) ≡ true
  pub complete : is_none (absent form (tags_in gs)) ≡ true

pub has_form : (gs : List Field) (c : Field) → Passes gs c → is_closing c.tag ≡ true → HasForm gs c
has_form [] c p h = absurd (both_ways _ closes (subst (λ (t : Tag). is_closing t ≡ true) (same_tags c.tag Mcl (not-false _ p.first)) h)) where
  closes : is_closing Mcl ≡ false
  closes = refl
has_form (f ∷ fs) c p h =
    let gs = f ∷ fs in
    let allowed : Form → Bool = λ g. admits g (c.tag ∷ tags_in gs) in
    let complete : Form → Bool = λ g. is_none (absent g (tags_in gs)) in
    let class : Form → Bool = λ g. bytes_eq (class_text g) f.contents in
    let a = not_lacking (forms_left gs (c.tag ∷ tags_in gs)) (tags_in gs) (p.complete h) p.left in
    let b = sym (any_filtered complete allowed (class_forms f.contents)) ∙ a in
    let d = sym (any_filtered (λ g. allowed g && complete g) class forms) ∙ b in
    let e = any_has (λ g. class g && (allowed g && complete g)) forms d in
    let k = and_parts (class e.0) (allowed e.0 && complete e.0) e.1 in
    let l = and_parts (allowed e.0) (complete e.0) k.1 in
    record { form = e.0; first = f; rest = fs; begins = refl; class = (bytes_decides (class_text e.0) f.contents).0 k.0; allowed = l.0; complete = l.1 }

-- fields that pass, with a code among them: MCL first, the code last, and the tags of one form
pub record IsWholeForm (fs : List Field) : Type 0 where
  pub form : Form
  pub first : Field
  pub rest : List Field
  pub code : Field
  pub text : fs ≡ (first ∷ rest) ++ code ∷ []
  pub class_first : first.tag ≡ Mcl
  pub class : class_text form ≡ first.contents
  pub closes : is_closing code.tag ≡ true
  pub unclosed : list_any is_closing (tags_in (first ∷ rest)) ≡ false
  pub allowed : allows form code.tag ≡ true
  pub tags : AreOfForm form fs

-- fields before a code, and the code, have the tags of a form that has them all and misses none
closed_form : (g : Form) (gs : List Field) (c : Field) → admits g (c.tag ∷ tags_in gs) ≡ true → is_none (absent g (tags_in gs)) ≡ true → is_closing c.tag ≡ true → AreOfForm g (gs ++ c ∷ [])
closed_form g gs c a n closes =
    let counted : (t : Tag) → count_tag t (tags_in (gs ++ c ∷ [])) ≡ count_tag t (tags_in gs) + count_tag t (c.tag ∷ []) = λ t. count_fields t gs (c ∷ []) in
    of_form g (gs ++ c ∷ []) c.tag
    (λ t. let m = admitted g (c.tag ∷ tags_in gs) a t in let k = counted t in let d = count_append t (c.tag ∷ []) (tags_in gs) in omega (arith, m, k, d))
    (λ t r. let m = enough g (tags_in gs) n t r in let k = counted t in omega (arith, m, k))
    closes
    (let k = counted c.tag in let d = present_count c.tag (c.tag ∷ []) (or_left _ _ (same_itself c.tag)) in omega (arith, k, d))

first_is_class : (f : Field) (fs : List Field) → AllPass [] (f ∷ fs) → f.tag ≡ Mcl
first_is_class f fs h = same_tags f.tag Mcl (not-false _ h.0.first)

pub whole_form : (fs : List Field) → AllPass [] fs → list_any is_closing (tags_in fs) ≡ true → IsWholeForm fs
whole_form fs h c =
    let k = closed [] fs h c in
    let g = has_form k.others k.code k.passes k.closes in
    let t : fs ≡ (g.first ∷ g.rest) ++ k.code ∷ [] = k.text ∙ ap (λ (xs : List Field). xs ++ k.code ∷ []) g.begins in
    record {
      form = g.form;
      first = g.first;
      rest = g.rest;
      code = k.code;
      text = t;
      class_first = first_is_class g.first (g.rest ++ k.code ∷ []) (subst (AllPass []) t h);
      class = g.class;
      closes = k.closes;
      unclosed = subst (λ (xs : List Field). list_any is_closing (tags_in xs) ≡ false) g.begins k.passes.unclosed;
      allowed = admits_allows g.form k.code.tag (tags_in k.others) g.allowed;
      tags = subst (AreOfForm g.form) (sym k.text) (closed_form g.form k.others k.code g.allowed g.complete k.closes);
    }
