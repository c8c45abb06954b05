-- Fields without a fault, each behind those before it.
use Rattle.std.proofs.Common.{◌≡◌, ℕ, Bool, true, false, cond, List, [], ◌∷◌, ◌++◌, length, map, Option, Some, None, refl, sym, ◌∙◌, ap, subst}
use Rattle.std.specs.Prelude.{◌==◌, ◌&&◌, ◌||◌, not, option_map, option_to_list, is_none}
use Rattle.std.specs.List.{list_any}
use Rattle.std.proofs.lemmas.Bool.{and_from, or_parts, or_from, not_from_false, true≢false}
use Rattle.csm_grammar.specs.declared.tag.Tag.{Tag}
use Rattle.csm_grammar.specs.declared.tag.Tag.TheVariants.{Mcl}
use Rattle.csm_grammar.specs.declared.refusal.ReadRefusal.{ReadRefusal}
use Rattle.csm_grammar.specs.declared.refusal.ReadRefusal.TheVariants as refusal
use Rattle.csm_grammar.specs.Tags.{same_tag, is_closing, is_unsupported}
use Rattle.csm_grammar.specs.Values.{Value, kind_of, value_of}
use Rattle.csm_grammar.specs.Spelling.{Field, field_text, tags_in}
use Rattle.csm_read.specs.Units.{Standing, is_half}
use Rattle.csm_read.specs.Faults.{refuse, or_else, is_repeated, field_of, forms_left, lacking, fault_of, fault_of_field, fields_from, first_fault}
use Rattle.csm_read.proofs.Grouping.{NoHalf}
use Rattle.csm_read.proofs.FieldLemmas.{refuse_none, IsField, is_field}
use Rattle.csm_read.proofs.ContentsLemmas.{field_not_half}

-- a field has no fault behind those before it
pub record Passes (before : List Field) (f : Field) : Type 0 where
  pub supported : is_unsupported f.tag ≡ false
  pub first : ((length before == 0) && not (same_tag f.tag Mcl)) ≡ false
  pub once : is_repeated before f.tag ≡ false
  pub unclosed : list_any is_closing (tags_in before) ≡ false
  pub left : (length (forms_left before (f.tag ∷ tags_in before)) == 0) ≡ false
  pub complete : is_closing f.tag ≡ true → lacking (forms_left before (f.tag ∷ tags_in before)) (tags_in before) ≡ None
  pub good : is_none (value_of (kind_of f.tag) f.contents) ≡ false

pub or_else_none : (o p : Option ReadRefusal) → or_else o p ≡ None → (o ≡ None) × (p ≡ None)
or_else_none None p h = (refl, h)
or_else_none (Some r) p h = absurd cc

unmapped : (t : Option Tag) (place : ℕ) (b : Bool) → cond b (option_map (λ t. refusal.Missing t place) t) None ≡ None → b ≡ true → t ≡ None
unmapped None place b h e = refl
unmapped (Some t) place true h e = absurd cc
unmapped (Some t) place false h e = absurd cc

pub passes_from : (before : List Field) (p : ℕ) (f : Field) → fault_of_field before p f ≡ None → Passes before f
passes_from before p f h =
    let a = refuse_none (is_unsupported f.tag) _ _ h in
    let b = refuse_none ((length before == 0) && not (same_tag f.tag Mcl)) _ _ a.1 in
    let c = refuse_none (is_repeated before f.tag) _ _ b.1 in
    let d = refuse_none (list_any is_closing (tags_in before) || (length (forms_left before (f.tag ∷ tags_in before)) == 0)) _ _ c.1 in
    let e = or_else_none (cond (is_closing f.tag) (option_map (λ t. refusal.Missing t p) (lacking (forms_left before (f.tag ∷ tags_in before)) (tags_in before))) None) _ d.1 in
    let g = refuse_none (is_none (value_of (kind_of f.tag) f.contents)) _ None e.1 in
    let o = or_parts (list_any is_closing (tags_in before)) (length (forms_left before (f.tag ∷ tags_in before)) == 0) d.0 in
    record { supported = a.0; first = b.0; once = c.0; unclosed = o.0; left = o.1; complete = unmapped _ p (is_closing f.tag) e.0; good = g.0 }

mapped_none : (t : Option Tag) (place : ℕ) (b : Bool) → (b ≡ true → t ≡ None) → cond b (option_map (λ t. refusal.Missing t place) t) None ≡ None
mapped_none t place false h = refl
mapped_none t place true h = ap (λ (o : Option Tag). option_map (λ t. refusal.Missing t place) o) (h refl)

refuse_false : (b : Bool) (r : ReadRefusal) (o : Option ReadRefusal) → b ≡ false → o ≡ None → refuse b r o ≡ None
refuse_false b r o h k = rw (h, k) refl

or_else_from : (o p : Option ReadRefusal) → o ≡ None → p ≡ None → or_else o p ≡ None
or_else_from o p h k = rw (h, k) refl

pub passes_none : (before : List Field) (p : ℕ) (f : Field) → Passes before f → fault_of_field before p f ≡ None
passes_none before p f h =
    refuse_false _ _ _ h.supported (refuse_false _ _ _ h.first (refuse_false _ _ _ h.once (refuse_false _ _ _ (or_from _ _ h.unclosed h.left)
    (or_else_from _ _ (mapped_none _ p (is_closing f.tag) h.complete) (refuse_false _ _ None h.good refl)))))

-- each field passes behind those before it
abbrev pub AllPass : List Field → List Field → Type 0
AllPass before [] = Unit {0}
AllPass before (f ∷ fs) = Passes before f × AllPass (before ++ f ∷ []) fs

-- the contents of a field that passes have a value
pub passing_value : (before : List Field) (f : Field) → Passes before f → (v : Value) × (value_of (kind_of f.tag) f.contents ≡ Some v)
passing_value before f h = go (value_of (kind_of f.tag) f.contents) h.good where
  go : (o : Option Value) → is_none o ≡ false → (v : Value) × (o ≡ Some v)
  go None i = absurd (true≢false i)
  go (Some v) i = (v, refl)

-- tokens without a fault are fields that pass
pub record Passed (before : List Field) (us : List Standing) : Type 0 where
  pub pass : AllPass before (fields_from us)
  pub half : NoHalf us
  pub texts : map (λ u. u.text) us ≡ map field_text (fields_from us)

passed_more : (before : List Field) (u : Standing) (us : List Standing) (f : Field) → IsField before u f → Passed (before ++ f ∷ []) us → Passed before (u ∷ us)
passed_more before u us f i h =
    let p = passes_from before u.place f i.faultless in
    let v = passing_value before f p in
    let e : fields_from (u ∷ us) ≡ f ∷ fields_from us = rw i.written refl in
    record {
      pass = subst (AllPass before) (sym e) (p, h.pass);
      half = and_from _ _ (not_from_false _ (ap is_half i.text ∙ field_not_half f v.0 v.1)) h.half;
      texts = (λ j. i.text j ∷ h.texts j) ∙ ap (map field_text) (sym e);
    }

pub no_fault : (before : List Field) → first_fault before [] ≡ None
unfolding first_fault
no_fault before = refl

pub fault_more : (before : List Field) (u : Standing) (us : List Standing) → first_fault before (u ∷ us) ≡ or_else (fault_of before u) (first_fault (before ++ option_to_list (field_of u)) us)
unfolding first_fault
fault_more before u us = refl

pub passed : (before : List Field) (us : List Standing) → first_fault before us ≡ None → Passed before us
passed before [] h = record { pass = tt; half = refl; texts = refl }
passed before (u ∷ us) h =
    let k = or_else_none (fault_of before u) (first_fault (before ++ option_to_list (field_of u)) us) (sym (fault_more before u us) ∙ h) in
    let f = is_field before u k.0 in
    passed_more before u us f.0 f.1 (passed (before ++ f.0 ∷ []) us (subst (λ (o : Option Field). first_fault (before ++ option_to_list o) us ≡ None) f.1.written k.1))
