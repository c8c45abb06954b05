-- Fields by tag, and the message that they stand for.
use Rattle.std.proofs.Common.{◌≡◌, suc, Bool, true, false, cond, List, [], ◌∷◌, ◌++◌, length, map, Option, Some, refl, sym, ◌∙◌, ap, subst, inl, inr}
use Rattle.std.specs.Prelude.{◌&&◌, ◌||◌, not, ◌⊎◌}
use Rattle.std.specs.List.{list_all, filter, flat_map}
use Rattle.std.proofs.lemmas.List.{append-nil, map-append, nil_from_length}
use Rattle.std.proofs.lemmas.List.Elements.{filter-append}
use Rattle.std.proofs.lemmas.Bool.{and_parts, or_parts, or_cases, not-true, not_from_false, false≢true, both_ways}
use Rattle.csm_grammar.specs.declared.tag.Tag.{Tag}
use Rattle.csm_grammar.specs.declared.form.Form.{Form}
use Rattle.csm_grammar.specs.declared.form.Need.{Need}
use Rattle.csm_grammar.specs.declared.form.Need.TheVariants.{Required, Optional, Refused}
use Rattle.csm_grammar.specs.declared.message.Message.{Message}
use Rattle.csm_grammar.specs.declared.parsed.Shut.{Shut}
use Rattle.csm_grammar.specs.Tags.{tags, same_tag, has_tag, count_tag}
use Rattle.csm_grammar.specs.Classes.{need_of, allows, times}
use Rattle.csm_grammar.specs.Values.{Value, kind_of, value_of}
use Rattle.csm_grammar.specs.Messages.{Valued, valued, all_fields}
use Rattle.csm_grammar.specs.Spelling.{Field, tags_in, ComesAs, AreOfForm, values_in, values_for, StandFor}
use Rattle.csm_grammar.proofs.TagLemmas.{each_tag, same_tags}
use Rattle.csm_grammar.proofs.Counting.{is_refused, refused_allows}

-- a tag, and the values behind it
pub record Slot : Type 0 where
  pub tag : Tag
  pub values : List Value

abbrev pub slot : Tag → List Value → Slot
slot t vs = record { tag = t; values = vs }

abbrev pub slot_tags : List Slot → List Tag
slot_tags ps = map (λ p. p.tag) ps

-- all fields of the slots
abbrev pub fields_at : List Slot → List Valued
fields_at ps = flat_map (λ p. map (valued p.tag) p.values) ps

abbrev pub are_distinct : List Tag → Bool
are_distinct [] = true
are_distinct (t ∷ ts) = not (has_tag t ts) && are_distinct ts

-- the fields have these values
abbrev pub AreFilled : List Field → List Slot → Type 0
AreFilled fs [] = Unit {0}
AreFilled fs (p ∷ ps) = (values_in p.tag fs ≡ map Some p.values) × AreFilled fs ps

pub values_append : (t : Tag) (xs ys : List Valued) → values_for t (xs ++ ys) ≡ values_for t xs ++ values_for t ys
values_append t xs ys = ap (map (λ v. v.value)) (filter-append (λ v. same_tag v.tag t) xs ys) ∙ map-append (λ v. v.value) _ _

pub slot_here : (s t : Tag) (vs : List Value) → same_tag s t ≡ true → values_for t (map (valued s) vs) ≡ vs
slot_here s t [] h = refl
slot_here s t (v ∷ vs) h = rw h (ap (λ (ws : List Value). v ∷ ws) (slot_here s t vs h))

pub slot_other : (s t : Tag) (vs : List Value) → same_tag s t ≡ false → values_for t (map (valued s) vs) ≡ []
slot_other s t [] h = refl
slot_other s t (v ∷ vs) h = rw h (slot_other s t vs h)

pub no_slot : (t : Tag) (ps : List Slot) → has_tag t (slot_tags ps) ≡ false → values_for t (fields_at ps) ≡ []
no_slot t [] h = refl
no_slot t (p ∷ ps) h =
    let k = or_parts (same_tag p.tag t) _ h in
    values_append t (map (valued p.tag) p.values) (fields_at ps) ∙ (λ i. slot_other p.tag t p.values k.0 i ++ no_slot t ps k.1 i)

slot_values : (t : Tag) (fs : List Field) (ps : List Slot) → are_distinct (slot_tags ps) ≡ true → AreFilled fs ps → (has_tag t (slot_tags ps) ≡ false → values_in t fs ≡ []) → values_in t fs ≡ map Some (values_for t (fields_at ps))
slot_values t fs [] d f none = none refl
slot_values t fs (p ∷ ps) d f none = go (same_tag p.tag t) refl (λ n. slot_values t fs ps k.1 f.1 n) where
  k : (not (has_tag p.tag (slot_tags ps)) ≡ true) × (are_distinct (slot_tags ps) ≡ true)
  k = and_parts _ _ d

  go : (b : Bool) → same_tag p.tag t ≡ b → ((has_tag t (slot_tags ps) ≡ false → values_in t fs ≡ []) → values_in t fs ≡ map Some (values_for t (fields_at ps))) → values_in t fs ≡ map Some (values_for t (fields_at (p ∷ ps)))
  go true e more =
      let i = same_tags p.tag t e in
      let n : has_tag t (slot_tags ps) ≡ false = subst (λ (s : Tag). has_tag s (slot_tags ps) ≡ false) i (not-true _ k.0) in
      ap (λ (s : Tag). values_in s fs) (sym i) ∙ f.0
      ∙ ap (map Some) (sym (values_append t (map (valued p.tag) p.values) (fields_at ps) ∙ (λ j. slot_here p.tag t p.values e j ++ no_slot t ps n j) ∙ append-nil p.values))
  go false e more =
      more (λ n. none (rw e n)) ∙ ap (map Some) (sym (values_append t (map (valued p.tag) p.values) (fields_at ps) ∙ ap (λ (vs : List Value). vs ++ values_for t (fields_at ps)) (slot_other p.tag t p.values e)))

pub count_values : (t : Tag) (fs : List Field) → length (values_in t fs) ≡ count_tag t (tags_in fs)
count_values t [] = refl
count_values t (f ∷ fs) = go (same_tag f.tag t) (count_values t fs) where
  vs : List Field → List (Option Value)
  vs gs = map (λ g. value_of (kind_of g.tag) g.contents) gs

  go : (b : Bool) → length (values_in t fs) ≡ count_tag t (tags_in fs)
      → length (map (λ (g : Field). value_of (kind_of g.tag) g.contents) (cond b (f ∷ filter (λ g. same_tag g.tag t) fs) (filter (λ g. same_tag g.tag t) fs))) ≡ length (cond b (f.tag ∷ filter (λ s. same_tag s t) (tags_in fs)) (filter (λ s. same_tag s t) (tags_in fs)))
  go true e = ap suc e
  go false e = e

-- a tag that the form doesn't allow doesn't come
pub unallowed_count : (g : Form) (fs : List Field) (t : Tag) → AreOfForm g fs → allows g t ≡ false → count_tag t (tags_in fs) ≡ 0
unallowed_count g fs t h a = go (need_of g t) (h t) (refused_allows g t ∙ not_from_false _ a) where
  go : (n : Need) → ComesAs n (times g t) (count_tag t (tags_in fs)) → is_refused n ≡ true → count_tag t (tags_in fs) ≡ 0
  go Required i k = absurd (false≢true k)
  go Optional i k = absurd (false≢true k)
  go Refused i k = i

pub unallowed_values : (g : Form) (fs : List Field) (t : Tag) → AreOfForm g fs → allows g t ≡ false → values_in t fs ≡ []
unallowed_values g fs t h a = nil_from_length _ (count_values t fs ∙ unallowed_count g fs t h a)

abbrev pub covers : Form → List Tag → Bool
covers g ts = list_all (λ t. not (allows g t) || has_tag t ts) tags

-- fields of a form, with a slot for each tag that the form allows, stand for the message that has the
-- values of the slots
pub stand_by_slots : (g : Form) (fs : List Field) (ps : List Slot) (m : Message) (shut : Shut) → AreOfForm g fs → AreFilled fs ps → all_fields m shut ≡ fields_at ps → are_distinct (slot_tags ps) ≡ true → covers g (slot_tags ps) ≡ true → StandFor fs m shut
stand_by_slots g fs ps m shut h f e d c t =
    slot_values t fs ps d f (λ n. unallowed_values g fs t h (not_there n (or_cases _ _ (each_tag (λ s. not (allows g s) || has_tag s (slot_tags ps)) c t)))) ∙ ap (λ (vs : List Valued). map Some (values_for t vs)) (sym e) where
      not_there : has_tag t (slot_tags ps) ≡ false → (not (allows g t) ≡ true) ⊎ (has_tag t (slot_tags ps) ≡ true) → allows g t ≡ false
      not_there n (inl i) = not-true _ i
      not_there n (inr i) = absurd (both_ways _ n i)
