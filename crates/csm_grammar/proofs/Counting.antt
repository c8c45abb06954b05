-- How often a tag comes, and what the class table says of all forms and tags.
use Rattle.std.proofs.Common.{◌≡◌, suc, ◌+◌, ◌≤◌, Bool, true, false, cond, List, [], ◌∷◌, ◌++◌, length, Some, refl, sym, ◌∙◌, ap, subst, arith, inl, inr, length-append}
use Rattle.std.proofs.lemmas.List.{map-append}
use Rattle.std.specs.Prelude.{◌==◌, ◌&&◌, ◌||◌, not, nat_le, is_none, ◌⊎◌}
use Rattle.std.specs.List.{list_all, find}
use Rattle.std.proofs.lemmas.Bool.{and_parts, and_from, or_parts, or_cases, or_left, or_right, not-true, true≢false, false≢true, both_ways, eqb-true, leb-true}
use Rattle.std.proofs.lemmas.List.Elements.{filter-append}
use Rattle.csm_grammar.specs.declared.tag.Tag.{Tag}
use Rattle.csm_grammar.specs.declared.tag.Tag.TheVariants.{Mcl, Kd, Mac, Edc}
use Rattle.csm_grammar.specs.declared.form.Form.{Form}
use Rattle.csm_grammar.specs.declared.form.Need.{Need}
use Rattle.csm_grammar.specs.declared.form.Need.TheVariants.{Required, Optional, Refused}
use Rattle.csm_grammar.specs.Tags.{tags, same_tag, has_tag, count_tag, is_closing}
use Rattle.csm_grammar.specs.Classes.{forms, required, optional, closing, need_of, allows, times}
use Rattle.csm_grammar.specs.Spelling.{Field, tags_in, ComesAs, AreOfForm}
use Rattle.csm_grammar.proofs.TagLemmas.{each_tag, each_form, same_tags, same_itself}

pub tags_append : (xs ys : List Field) → tags_in (xs ++ ys) ≡ tags_in xs ++ tags_in ys
tags_append xs ys = map-append (λ f. f.tag) xs ys

pub count_append : (t : Tag) (xs ys : List Tag) → count_tag t (xs ++ ys) ≡ count_tag t xs + count_tag t ys
count_append t xs ys = ap length (filter-append (λ s. same_tag s t) xs ys) ∙ length-append _ _

pub count_fields : (t : Tag) (xs ys : List Field) → count_tag t (tags_in (xs ++ ys)) ≡ count_tag t (tags_in xs) + count_tag t (tags_in ys)
count_fields t xs ys = ap (count_tag t) (tags_append xs ys) ∙ count_append t (tags_in xs) (tags_in ys)

pub count_here : (t s : Tag) (ts : List Tag) → same_tag s t ≡ true → count_tag t (s ∷ ts) ≡ suc (count_tag t ts)
count_here t s ts h = rw h refl

pub count_other : (t s : Tag) (ts : List Tag) → same_tag s t ≡ false → count_tag t (s ∷ ts) ≡ count_tag t ts
count_other t s ts h = rw h refl

pub absent_count : (t : Tag) (ts : List Tag) → has_tag t ts ≡ false → count_tag t ts ≡ 0
absent_count t [] h = refl
absent_count t (s ∷ ts) h =
    let k = or_parts (same_tag s t) (has_tag t ts) h in
    count_other t s ts k.0 ∙ absent_count t ts k.1

pub present_count : (t : Tag) (ts : List Tag) → has_tag t ts ≡ true → 1 ≤ count_tag t ts
present_count t [] h = absurd cc
present_count t (s ∷ ts) h = go (same_tag s t) refl h (λ i. present_count t ts i) where
  go : (b : Bool) → same_tag s t ≡ b → (b || has_tag t ts) ≡ true → (has_tag t ts ≡ true → 1 ≤ count_tag t ts) → 1 ≤ count_tag t (s ∷ ts)
  go true e i more = let k = count_here t s ts e in omega arith
  go false e i more = let k = count_other t s ts e in let m = more i in omega arith

pub present_from_count : (t : Tag) (ts : List Tag) → 1 ≤ count_tag t ts → has_tag t ts ≡ true
present_from_count t ts h = go (has_tag t ts) refl where
  go : (b : Bool) → has_tag t ts ≡ b → b ≡ true
  go true e = refl
  go false e = let k = absent_count t ts e in absurd (omega arith)

-- a test that all of the tags pass
pub all_at : (p : Tag → Bool) (ts : List Tag) (t : Tag) → list_all p ts ≡ true → has_tag t ts ≡ true → p t ≡ true
all_at p [] t h i = absurd cc
all_at p (s ∷ ts) t h i = go (same_tag s t) refl i (and_parts (p s) (list_all p ts) h) (λ j k. all_at p ts t j k) where
  go : (b : Bool) → same_tag s t ≡ b → (b || has_tag t ts) ≡ true → (p s ≡ true) × (list_all p ts ≡ true) → (list_all p ts ≡ true → has_tag t ts ≡ true → p t ≡ true) → p t ≡ true
  go true e j k more = subst (λ (x : Tag). p x ≡ true) (same_tags s t e) k.0
  go false e j k more = more k.1 j

-- what is found nowhere
pub none_found : (p : Tag → Bool) (ts : List Tag) → is_none (find p ts) ≡ true → list_all (λ t. not (p t)) ts ≡ true
none_found p [] h = refl
none_found p (s ∷ ts) h = go (p s) h (λ i. none_found p ts i) where
  go : (b : Bool) → is_none (cond b (Some s) (find p ts)) ≡ true → (is_none (find p ts) ≡ true → list_all (λ t. not (p t)) ts ≡ true) → (not b && list_all (λ t. not (p t)) ts) ≡ true
  go true i more = absurd (false≢true i)
  go false i more = more i

pub found_nowhere : (p : Tag → Bool) (ts : List Tag) → list_all (λ t. not (p t)) ts ≡ true → is_none (find p ts) ≡ true
found_nowhere p [] h = refl
found_nowhere p (s ∷ ts) h = go (p s) h (λ i. found_nowhere p ts i) where
  go : (b : Bool) → (not b && list_all (λ t. not (p t)) ts) ≡ true → (list_all (λ t. not (p t)) ts ≡ true → is_none (find p ts) ≡ true) → is_none (cond b (Some s) (find p ts)) ≡ true
  go true i more = absurd (false≢true i)
  go false i more = more i

-- a test that each form and tag passes
pub each : (p : Form → Tag → Bool) → list_all (λ g. list_all (p g) tags) forms ≡ true → (g : Form) (t : Tag) → p g t ≡ true
each p h g t = each_tag (p g) (each_form (λ f. list_all (p f) tags) h g) t

abbrev pub is_refused : Need → Bool
is_refused Required = false
is_refused Optional = false
is_refused Refused = true

abbrev pub is_required : Need → Bool
is_required Required = true
is_required Optional = false
is_required Refused = false

pub refused_allows : (g : Form) (t : Tag) → is_refused (need_of g t) ≡ not (allows g t)
refused_allows g t = same _ _ (each (λ f s. agree (is_refused (need_of f s)) (not (allows f s))) refl g t) where
  agree : Bool → Bool → Bool
  agree true b = b
  agree false b = not b

  same : (a b : Bool) → agree a b ≡ true → a ≡ b
  same true true h = refl
  same true false h = absurd (false≢true h)
  same false true h = absurd (false≢true h)
  same false false h = refl

pub refused_from : (g : Form) (t : Tag) → need_of g t ≡ Refused → allows g t ≡ false
refused_from g t h = not-true _ (sym (refused_allows g t) ∙ ap is_refused h)

-- a required tag is among those beside the closing ones, or is the form's only closing tag
required_case : Form → Tag → Bool
required_case g t = not (is_required (need_of g t)) || (has_tag t (Mcl ∷ required g) || list_all (λ s. not (allows g s) || same_tag s t) (Mac ∷ Edc ∷ []))

every_required : (g : Form) (t : Tag) → required_case g t ≡ true
unfolding required_case
every_required g t = each required_case refl g t

pub required_from : (g : Form) (t : Tag) → need_of g t ≡ Required → (has_tag t (Mcl ∷ required g) ≡ true) ⊎ (list_all (λ s. not (allows g s) || same_tag s t) (Mac ∷ Edc ∷ []) ≡ true)
unfolding required_case
required_from g t h = go (or_cases _ _ (every_required g t)) where
  go : (not (is_required (need_of g t)) ≡ true) ⊎ ((has_tag t (Mcl ∷ required g) || list_all (λ s. not (allows g s) || same_tag s t) (Mac ∷ Edc ∷ [])) ≡ true) → (has_tag t (Mcl ∷ required g) ≡ true) ⊎ (list_all (λ s. not (allows g s) || same_tag s t) (Mac ∷ Edc ∷ []) ≡ true)
  go (inl i) = absurd (true≢false (sym (ap is_required h) ∙ not-true _ i))
  go (inr i) = or_cases _ _ i

-- the tag of a code that a form allows is its only closing tag, where it has one
closing_is : (g : Form) (c t : Tag) → is_closing c ≡ true → allows g c ≡ true → list_all (λ s. not (allows g s) || same_tag s t) (Mac ∷ Edc ∷ []) ≡ true → same_tag c t ≡ true
closing_is g c t h a i = go (or_cases _ _ (all_at (λ s. not (allows g s) || same_tag s t) (Mac ∷ Edc ∷ []) c i h)) where
  go : (not (allows g c) ≡ true) ⊎ (same_tag c t ≡ true) → same_tag c t ≡ true
  go (inl j) = absurd (both_ways (allows g c) (not-true _ j) a)
  go (inr j) = j

-- how often a form has a tag

pub times_few : (g : Form) (t : Tag) → times g t ≤ 2
times_few g t = leb-true (times g t) 2 (each (λ f s. nat_le (times f s) 2) refl g t)

pub refused_never : (g : Form) (t : Tag) → need_of g t ≡ Refused → times g t ≡ 0
refused_never g t h = absent_count t (Mcl ∷ (required g ++ (optional g ++ closing g))) (refused_from g t h)

implied : (a b : Bool) → (not a || b) ≡ true → a ≡ true → b ≡ true
implied true b h e = h
implied false b h e = absurd (false≢true e)

-- a form has each tag that it requires
pub required_times : (g : Form) (t : Tag) → has_tag t (Mcl ∷ required g) ≡ true → 1 ≤ times g t
required_times g t h = leb-true 1 (times g t) (implied _ _ (each (λ f s. not (has_tag s (Mcl ∷ required f)) || nat_le 1 (times f s)) refl g t) h)

-- only KD comes twice
pub twice_kd : (g : Form) (t : Tag) → nat_le 2 (times g t) ≡ true → same_tag t Kd ≡ true
twice_kd g t h = implied _ _ (each (λ f s. not (nat_le 2 (times f s)) || same_tag s Kd) refl g t) h

pub twice_required : (g : Form) (t : Tag) → nat_le 2 (times g t) ≡ true → has_tag t (Mcl ∷ required g) ≡ true
twice_required g t h = implied _ _ (each (λ f s. not (nat_le 2 (times f s)) || has_tag s (Mcl ∷ required f)) refl g t) h

-- no form has a code twice
pub code_once : (g : Form) (t : Tag) → is_closing t ≡ true → times g t ≤ 1
code_once g t h = leb-true (times g t) 1 (implied _ _ (each (λ f s. not (is_closing s) || nat_le (times f s) 1) refl g t) h)

pub mcl_once : (g : Form) → times g Mcl ≡ 1
mcl_once g = eqb-true (times g Mcl) 1 (each_form (λ f. times f Mcl == 1) refl g)

-- a test that each tag of a list passes
pub all_from : (p : Tag → Bool) (ts : List Tag) → ((t : Tag) → has_tag t ts ≡ true → p t ≡ true) → list_all p ts ≡ true
all_from p [] h = refl
all_from p (s ∷ ts) h = and_from _ _ (h s (or_left _ _ (same_itself s))) (all_from p ts (λ t i. h t (or_right _ _ i)))

pub mcl_count : (g : Form) (fs : List Field) → AreOfForm g fs → count_tag Mcl (tags_in fs) ≡ 1
mcl_count g fs h = let n : count_tag Mcl (tags_in fs) ≡ times g Mcl = h Mcl in n ∙ mcl_once g

-- fields of which the form has each as often as it comes, of which no required one comes too seldom, and
-- with a code among them, have the tags of the form
pub of_form : (g : Form) (fs : List Field) (c : Tag) → ((t : Tag) → count_tag t (tags_in fs) ≤ times g t) → ((t : Tag) → has_tag t (Mcl ∷ required g) ≡ true → times g t ≤ count_tag t (tags_in fs)) → is_closing c ≡ true → 1 ≤ count_tag c (tags_in fs)
    → AreOfForm g fs
of_form g fs c most all closes here t = go (need_of g t) refl where
  ts : List Tag
  ts = tags_in fs

  last : same_tag c t ≡ true → count_tag t ts ≡ times g t
  last h =
      let i = same_tags c t h in
      let n = code_once g t (subst (λ (s : Tag). is_closing s ≡ true) i closes) in
      let k : 1 ≤ count_tag t ts = subst (λ (s : Tag). 1 ≤ count_tag s ts) i here in
      let m = most t in
      omega (arith, n, k, m)

  allowed : allows g c ≡ true
  allowed = let m = most c in present_from_count c (Mcl ∷ (required g ++ (optional g ++ closing g))) (omega (arith, m, here))

  go : (n : Need) → need_of g t ≡ n → ComesAs n (times g t) (count_tag t ts)
  go Optional e = most t
  go Refused e = let z = refused_never g t e in let m = most t in omega (arith, z, m)
  go Required e = needed (required_from g t e) where
    needed : (has_tag t (Mcl ∷ required g) ≡ true) ⊎ (list_all (λ s. not (allows g s) || same_tag s t) (Mac ∷ Edc ∷ []) ≡ true) → count_tag t ts ≡ times g t
    needed (inl h) = let a = all t h in let m = most t in omega (arith, a, m)
    needed (inr h) = last (closing_is g c t closes allowed h)
