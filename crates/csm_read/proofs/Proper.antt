-- The fields of a spelling pass, each behind those before it.
use Rattle.std.proofs.Common.{◌≡◌, ℕ, suc, ◌≤◌, ◌<◌, Bool, true, false, cond, List, [], ◌∷◌, ◌++◌, length, None, refl, sym, ◌∙◌, ap, subst, append_assoc, arith}
use Rattle.std.specs.Prelude.{◌==◌, ◌&&◌, ◌||◌, not, nat_le, is_none, codes, bytes_eq}
use Rattle.std.specs.List.{list_any, list_all, filter}
use Rattle.std.specs.Cmp.Lexicographic.{bytes_decides}
use Rattle.std.proofs.lemmas.List.{append-nil}
use Rattle.std.proofs.lemmas.Bool.{ne_eqb, and_parts, and_from, and_left, or_parts, or_left, or_right, not-true, not_from_true, not_from_false, false≢true, both_ways, false_from_ne_true, true_from_ne_false, leb-true, lt-leb}
use Rattle.std.proofs.lemmas.List.Folds.{list_any-append}
use Rattle.csm_grammar.specs.declared.tag.Tag.{Tag}
use Rattle.csm_grammar.specs.declared.tag.Tag.TheVariants.{Mcl, Kd}
use Rattle.csm_grammar.specs.declared.form.Form.{Form}
use Rattle.csm_grammar.specs.declared.form.Need.{Need}
use Rattle.csm_grammar.specs.declared.form.Need.TheVariants.{Required, Optional, Refused}
use Rattle.csm_grammar.specs.Tags.{same_tag, has_tag, count_tag, is_closing, is_unsupported}
use Rattle.csm_grammar.specs.Classes.{forms, class_text, required, need_of, allows, times}
use Rattle.csm_grammar.specs.Values.{kind_of, value_of}
use Rattle.csm_grammar.specs.Spelling.{Field, tags_in, ComesAs, AreOfForm}
use Rattle.csm_read.specs.Faults.{candidates, is_ksm, is_repeated, admits, forms_left, absent, lacking}
use Rattle.csm_grammar.proofs.TagLemmas.{each_form, same_tags, same_itself}
use Rattle.csm_read.proofs.Passing.{Passes, AllPass}
use Rattle.csm_grammar.proofs.Counting.{each, tags_append, count_append, count_fields, present_count}
use Rattle.csm_read.proofs.Admitting.{complete_from, admits_from, admits_allows}
use Rattle.csm_read.proofs.Closing.{any_filtered}
use Rattle.csm_read.proofs.Making.{are_known}

none_passes : {X : Type 0} (p : X → Bool) (xs : List X) → list_any p xs ≡ false → list_all (λ x. not (p x)) xs ≡ true
none_passes p [] h = refl
none_passes p (x ∷ xs) h = let k = or_parts (p x) (list_any p xs) h in and_from _ _ (not_from_false _ k.0) (none_passes p xs k.1)

-- a form that passes a test is among all
pub any_form : (p : Form → Bool) (g : Form) → p g ≡ true → list_any p forms ≡ true
any_form p g h = true_from_ne_false (list_any p forms) (λ e. both_ways (p g) (not-true _ (each_form (λ f. not (p f)) (none_passes p forms e) g)) h)

pub any_tag : (p : Tag → Bool) (ts : List Tag) → list_any p ts ≡ true → (t : Tag) × (p t ≡ true) × (has_tag t ts ≡ true)
any_tag p [] h = absurd cc
any_tag p (s ∷ ts) h = go (p s) refl h (λ i. any_tag p ts i) where
  go : (b : Bool) → p s ≡ b → (b || list_any p ts) ≡ true → (list_any p ts ≡ true → (t : Tag) × (p t ≡ true) × (has_tag t ts ≡ true)) → (t : Tag) × (p t ≡ true) × (has_tag t (s ∷ ts) ≡ true)
  go true e i more = (s, e, or_left _ _ (same_itself s))
  go false e i more = let k = more i in (k.0, k.1, or_right _ _ k.2)

not_zero : (n : ℕ) → (suc n == 0) ≡ false
not_zero n = ne_eqb (suc n) 0 (λ e. omega arith)

some_left : {X : Type 0} (p : X → Bool) (xs : List X) → list_any p xs ≡ true → (length (filter p xs) == 0) ≡ false
some_left p [] h = absurd cc
some_left p (x ∷ xs) h = go (p x) h (λ i. some_left p xs i) where
  go : (b : Bool) → (b || list_any p xs) ≡ true → (list_any p xs ≡ true → (length (filter p xs) == 0) ≡ false) → (length (cond b (x ∷ filter p xs) (filter p xs)) == 0) ≡ false
  go true i more = not_zero (length (filter p xs))
  go false i more = more i

lacking_none : (fs : List Form) (ts : List Tag) → list_any (λ g. is_none (absent g ts)) fs ≡ true → lacking fs ts ≡ None
lacking_none [] ts h = refl
lacking_none (f ∷ fs) ts h = rw h refl

unsupported_refused : (g : Form) (t : Tag) → (not (is_unsupported t) || not (allows g t)) ≡ true
unsupported_refused g t = each (λ f s. not (is_unsupported s) || not (allows f s)) refl g t

required_open : (g : Form) (t : Tag) → (not (has_tag t (Mcl ∷ required g)) || not (is_closing t)) ≡ true
required_open g t = each (λ f s. not (has_tag s (Mcl ∷ required f)) || not (is_closing s)) refl g t

or_not : (a b : Bool) → (not a || b) ≡ true → a ≡ true → b ≡ true
or_not true b h e = h
or_not false b h e = absurd (false≢true e)

-- fields and a code that are those of a form
pub record IsProper (g : Form) (gs : List Field) (c : Field) : Type 0 where
  pub tags : AreOfForm g (gs ++ c ∷ [])
  pub known : are_known (gs ++ c ∷ []) ≡ true
  pub first : Field
  pub rest : List Field
  pub begins : gs ≡ first ∷ rest
  pub class_first : first.tag ≡ Mcl
  pub class : class_text g ≡ first.contents
  pub closes : is_closing c.tag ≡ true
  pub unclosed : list_any is_closing (tags_in gs) ≡ false

pub need_most : (n : Need) (most k : ℕ) → ComesAs n most k → k ≤ most
need_most Required most k h = omega (arith, h)
need_most Optional most k h = h
need_most Refused most k h = omega (arith, h)

-- a form has no tag more often than it may come in its class
times_within : (g : Form) (t : Tag) → times g t ≤ cond (same_tag t Kd && bytes_eq (class_text g) (codes "KSM")) 2 1
times_within g t = leb-true _ _ (each (λ f s. nat_le (times f s) (cond (same_tag s Kd && bytes_eq (class_text f) (codes "KSM")) 2 1)) refl g t)

not_repeated : (before : List Field) (t : Tag) → count_tag t (tags_in before) < cond (same_tag t Kd && is_ksm before) 2 1 → is_repeated before t ≡ false
not_repeated before t h = go (same_tag t Kd && is_ksm before) h where
  go : (b : Bool) → count_tag t (tags_in before) < cond b 2 1 → cond b (nat_le 2 (count_tag t (tags_in before))) (has_tag t (tags_in before)) ≡ false
  go true i = lt-leb 2 (count_tag t (tags_in before)) i
  go false i = false_from_ne_true _ (λ e. let k = present_count t (tags_in before) e in omega (arith, i, k))

module _ (g : Form) (gs : List Field) (c : Field) (w : IsProper g gs c) where
  most : (t : Tag) → count_tag t (tags_in (gs ++ c ∷ [])) ≤ times g t
  most t = need_most (need_of g t) _ _ (w.tags t)

  complete : is_none (absent g (tags_in gs)) ≡ true
  complete = complete_from g (tags_in gs) there where
    there : (t : Tag) → has_tag t (Mcl ∷ required g) ≡ true → times g t ≤ count_tag t (tags_in gs)
    there t h =
        let n : need_of g t ≡ Required = rw h refl in
        let all : count_tag t (tags_in (gs ++ c ∷ [])) ≡ times g t = subst (λ (k : Need). ComesAs k (times g t) (count_tag t (tags_in (gs ++ c ∷ [])))) n (w.tags t) in
        let open_tag : is_closing t ≡ false = not-true _ (or_not _ _ (required_open g t) h) in
        let other : same_tag c.tag t ≡ false = false_from_ne_true _ (λ e. both_ways (is_closing t) open_tag (subst (λ (s : Tag). is_closing s ≡ true) (same_tags c.tag t e) w.closes)) in
        let z : count_tag t (c.tag ∷ []) ≡ 0 = rw other refl in
        let k = count_fields t gs (c ∷ []) in
        omega (arith, all, z, k)

  -- the form is among the candidates
  candidate : (p : Form → Bool) (before after : List Field) → gs ≡ before ++ after → p g ≡ true → list_any p (candidates before) ≡ true
  candidate p [] after e h = any_form p g h
  candidate p (f ∷ fs) after e h =
      let i : f ≡ w.first = cc (e, w.begins) in
      let k : bytes_eq (class_text g) f.contents ≡ true = (bytes_decides (class_text g) f.contents).1 (w.class ∙ ap (λ (x : Field). x.contents) (sym i)) in
      any_filtered p (λ h. bytes_eq (class_text h) f.contents) forms ∙ any_form (λ h. bytes_eq (class_text h) f.contents && p h) g (and_from _ _ k h)

  is_first : (before : List Field) (f : Field) (after : List Field) → gs ++ c ∷ [] ≡ before ++ f ∷ after → ((length before == 0) && not (same_tag f.tag Mcl)) ≡ false
  is_first [] f after e =
      let i : f ≡ w.first = cc (e, ap (λ (xs : List Field). xs ++ c ∷ []) w.begins) in
      let k : f.tag ≡ Mcl = ap (λ (x : Field). x.tag) i ∙ w.class_first in
      not_from_true _ (subst (λ (t : Tag). same_tag t Mcl ≡ true) (sym k) refl)
  is_first (b ∷ before) f after e = and_left _ _ (not_zero (length before))

  fewer_before : (before : List Field) (f : Field) (after : List Field) → gs ++ c ∷ [] ≡ before ++ f ∷ after → count_tag f.tag (tags_in before) < times g f.tag
  fewer_before before f after e =
      let a = ap (λ (xs : List Field). count_tag f.tag (tags_in xs)) e ∙ count_fields f.tag before (f ∷ after) in
      let d = present_count f.tag (tags_in (f ∷ after)) (or_left _ _ (same_itself f.tag)) in
      let m = most f.tag in
      omega (arith, a, d, m)

  not_before : (before : List Field) (f : Field) (after : List Field) → gs ++ c ∷ [] ≡ before ++ f ∷ after → is_repeated before f.tag ≡ false
  not_before [] f after e = not_repeated [] f.tag (go (same_tag f.tag Kd && false)) where
    go : (b : Bool) → 0 < cond b 2 1
    go true = omega arith
    go false = omega arith
  not_before (b ∷ bs) f after e =
      let i : b ≡ w.first = cc (e, ap (λ (xs : List Field). xs ++ c ∷ []) w.begins) in
      let k : class_text g ≡ b.contents = w.class ∙ ap (λ (x : Field). x.contents) (sym i) in
      let n = fewer_before (b ∷ bs) f after e in
      let m = times_within g f.tag in
      not_repeated (b ∷ bs) f.tag (subst (λ (x : List ℕ). count_tag f.tag (tags_in (b ∷ bs)) < cond (same_tag f.tag Kd && bytes_eq x (codes "KSM")) 2 1) k (omega (arith, n, m)))

  tags_so_far : (before : List Field) (f : Field) (after : List Field) → gs ++ c ∷ [] ≡ before ++ f ∷ after → admits g (f.tag ∷ tags_in before) ≡ true
  tags_so_far before f after e = admits_from g (f.tag ∷ tags_in before) (λ t.
      let a = ap (λ (xs : List Field). count_tag t (tags_in xs)) e ∙ count_fields t before (f ∷ after) in
      let b = count_append t (f.tag ∷ []) (tags_in after) in
      let d = count_append t (f.tag ∷ []) (tags_in before) in
      let m = most t in
      omega (arith, a, b, d, m))

  known_at : (before : List Field) (f : Field) (after : List Field) → are_known (before ++ f ∷ after) ≡ true → is_none (value_of (kind_of f.tag) f.contents) ≡ false
  known_at [] f after h = not_from_true _ (and_parts _ _ h).0
  known_at (b ∷ before) f after h = known_at before f after (and_parts _ _ h).1

  passes_at : (before : List Field) (f : Field) (after more : List Field) → gs ++ c ∷ [] ≡ before ++ f ∷ after → gs ≡ before ++ more → (is_closing f.tag ≡ true → lacking (forms_left before (f.tag ∷ tags_in before)) (tags_in before) ≡ None) → Passes before f
  passes_at before f after more e i lacks =
      let a = tags_so_far before f after e in
      record {
        supported = false_from_ne_true _ (λ h. both_ways (allows g f.tag) (not-true _ (or_not _ _ (unsupported_refused g f.tag) h)) (admits_allows g f.tag (tags_in before) a));
        first = is_first before f after e;
        once = not_before before f after e;
        unclosed = (or_parts _ _ (sym (ap (list_any is_closing) (ap tags_in i ∙ tags_append before more) ∙ list_any-append is_closing (tags_in before) (tags_in more)) ∙ w.unclosed)).0;
        left = some_left (λ h. admits h (f.tag ∷ tags_in before)) (candidates before) (candidate (λ h. admits h (f.tag ∷ tags_in before)) before more i a);
        complete = lacks;
        good = known_at before f after (subst (λ (xs : List Field). are_known xs ≡ true) e w.known);
      }

  passes_last : Passes gs c
  passes_last =
      let e : gs ≡ gs ++ [] = sym (append-nil gs) in
      let allows_all : Form → Bool = λ h. admits h (c.tag ∷ tags_in gs) in
      let lacks_none : Form → Bool = λ h. is_none (absent h (tags_in gs)) in
      let k = any_filtered lacks_none allows_all (candidates gs) ∙ candidate (λ h. allows_all h && lacks_none h) gs [] e (and_from _ _ (tags_so_far gs c [] refl) complete) in
      passes_at gs c [] [] refl e (λ h. lacking_none (forms_left gs (c.tag ∷ tags_in gs)) (tags_in gs) k)

  passes_other : (before : List Field) (f : Field) (after : List Field) → gs ≡ before ++ f ∷ after → Passes before f
  passes_other before f after e =
      let t = ap (list_any is_closing) (ap tags_in e ∙ tags_append before (f ∷ after)) ∙ list_any-append is_closing (tags_in before) (tags_in (f ∷ after)) in
      let o : is_closing f.tag ≡ false = (or_parts _ _ (or_parts _ _ (sym t ∙ w.unclosed)).1).0 in
      passes_at before f (after ++ c ∷ []) (f ∷ after) (ap (λ (xs : List Field). xs ++ c ∷ []) e ∙ append_assoc before (f ∷ after) (c ∷ [])) e (λ h. absurd (both_ways _ o h))

  passes_from_here : (before after : List Field) → gs ≡ before ++ after → AllPass before (after ++ c ∷ [])
  passes_from_here before [] e =
      let i : gs ≡ before = e ∙ append-nil before in
      (subst (λ (xs : List Field). Passes xs c) i passes_last, tt)
  passes_from_here before (f ∷ after) e = (passes_other before f after e, passes_from_here (before ++ f ∷ []) after (e ∙ sym (append_assoc before (f ∷ []) after)))

  pub proper_passes : AllPass [] (gs ++ c ∷ [])
  proper_passes = passes_from_here [] gs refl
