-- Fields in the writer's order are read back.
use Rattle.std.proofs.Common.{◌≡◌, ℕ, ◌+◌, Bool, true, false, cond, List, [], ◌∷◌, ◌++◌, length, map, Some, refl, sym, ◌∙◌, ap, subst, append_assoc, arith, length-append}
use Rattle.std.specs.Prelude.{codes}
use Rattle.std.specs.List.{flat_map, filter, AllZip}
use Rattle.std.proofs.lemmas.List.{append-nil, map-append, length-map, same_from_push}
use Rattle.std.proofs.lemmas.List.Concat.{flat_map-append}
use Rattle.csm_grammar.specs.declared.tag.Tag.{Tag}
use Rattle.csm_grammar.specs.declared.tag.Tag.TheVariants.{Mcl}
use Rattle.csm_grammar.specs.declared.message.Message.{Message}
use Rattle.csm_grammar.specs.declared.parsed.Shut.{Shut}
use Rattle.csm_grammar.specs.Tags.{same_tag}
use Rattle.csm_grammar.specs.Classes.{need_of, times}
use Rattle.csm_grammar.specs.Values.{kind_of, value_of}
use Rattle.csm_grammar.specs.Messages.{Valued, form_of, fields_of, shut_field, all_fields}
use Rattle.csm_grammar.specs.Spelling.{Field, field_text, Spelled, spelled_text, fields_in, tags_in, AreParted, ComesAs, AreOfForm, values_in, values_for, StandFor}
use Rattle.csm_grammar.specs.Reading.{IsRead}
use Rattle.csm_grammar.specs.Written.{IsFor, authenticated_fields, blank_text}
use Rattle.csm_read.specs.Laws.{WrittenRead}
use Rattle.csm_grammar.proofs.Slots.{count_values}
use Rattle.csm_read.proofs.Forming.{fields_form}
use Rattle.csm_read.proofs.Found.{spells_from}

zip_values : (t : Tag) (fs : List Field) (vs : List Valued) → AllZip IsFor fs vs → values_in t fs ≡ map Some (values_for t vs)
zip_values t [] [] h = refl
zip_values t [] (v ∷ vs) h = absurd h
zip_values t (f ∷ fs) [] h = absurd h
zip_values t (f ∷ fs) (v ∷ vs) h = go (same_tag f.tag t) (same_tag v.tag t) (ap (λ (s : Tag). same_tag s t) h.0.tag) (zip_values t fs vs h.1) where
  is : value_of (kind_of f.tag) f.contents ≡ Some v.value
  is = ap (λ (s : Tag). value_of (kind_of s) f.contents) h.0.tag ∙ h.0.value

  go : (b c : Bool) → b ≡ c → values_in t fs ≡ map Some (values_for t vs)
      → map (λ (g : Field). value_of (kind_of g.tag) g.contents) (cond b (f ∷ filter (λ g. same_tag g.tag t) fs) (filter (λ g. same_tag g.tag t) fs)) ≡ map Some (map (λ (w : Valued). w.value) (cond c (v ∷ filter (λ w. same_tag w.tag t) vs) (filter (λ w. same_tag w.tag t) vs)))
  go true true h e = λ i. is i ∷ e i
  go true false h e = absurd cc
  go false true h e = absurd cc
  go false false h e = e

zip_tags : (fs : List Field) (vs : List Valued) → AllZip IsFor fs vs → tags_in fs ≡ map (λ v. v.tag) vs
zip_tags [] [] h = refl
zip_tags [] (v ∷ vs) h = absurd h
zip_tags (f ∷ fs) [] h = absurd h
zip_tags (f ∷ fs) (v ∷ vs) h = λ i. h.0.tag i ∷ zip_tags fs vs h.1 i

-- the tags of the fields and that of the code
tags_parted : (fs : List Field) (code : Field) (m : Message) (shut : Shut) → tags_in (fs ++ code ∷ []) ≡ map (λ v. v.tag) (all_fields m shut) → (tags_in fs ≡ Mcl ∷ map (λ v. v.tag) (fields_of m)) × (code.tag ≡ (shut_field shut).tag)
tags_parted fs code m shut h =
    let a : tags_in fs ++ code.tag ∷ [] ≡ (Mcl ∷ map (λ v. v.tag) (fields_of m)) ++ (shut_field shut).tag ∷ [] =
    sym (map-append (λ f. f.tag) fs (code ∷ [])) ∙ h ∙ ap (λ (ts : List Tag). Mcl ∷ ts) (map-append (λ v. v.tag) (fields_of m) (shut_field shut ∷ [])) in
    same_from_push _ _ _ _ a

-- a field and one blank
abbrev with_blank : Field → Spelled
with_blank f = record { field = f; gap = 32 ∷ [] }

abbrev with_none : Field → Spelled
with_none f = record { field = f; gap = [] }

blank_fields : (fs : List Field) → fields_in (map with_blank fs) ≡ fs
blank_fields [] = refl
blank_fields (f ∷ fs) = ap (λ (gs : List Field). f ∷ gs) (blank_fields fs)

blank_spelled : (fs : List Field) → flat_map spelled_text (map with_blank fs) ≡ flat_map (λ f. field_text f ++ codes " ") fs
blank_spelled [] = refl
blank_spelled (f ∷ fs) = ap (λ (xs : List ℕ). (field_text f ++ codes " ") ++ xs) (blank_spelled fs)

blank_parted : (fs : List Field) (code : Field) → AreParted (map with_blank fs ++ with_none code ∷ [])
blank_parted [] code = refl
blank_parted (f ∷ []) code = (refl, λ e. cc, refl)
blank_parted (f ∷ g ∷ fs) code = (refl, λ e. cc, blank_parted (g ∷ fs) code)

all_spelled : (fs : List Field) (code : Field) → flat_map spelled_text (map with_blank fs ++ with_none code ∷ []) ≡ flat_map (λ f. field_text f ++ codes " ") fs ++ field_text code
all_spelled fs code =
    flat_map-append spelled_text (map with_blank fs) (with_none code ∷ []) ∙ (λ i. blank_spelled fs i ++ (append-nil (field_text code ++ []) ∙ append-nil (field_text code)) i)

all_fields_in : (fs : List Field) (code : Field) → fields_in (map with_blank fs ++ with_none code ∷ []) ≡ fs ++ code ∷ []
all_fields_in fs code = map-append (λ s. s.field) (map with_blank fs) (with_none code ∷ []) ∙ ap (λ (gs : List Field). gs ++ code ∷ []) (blank_fields fs)

blank_is : (xs c rest ys : List ℕ) → ys ≡ xs ++ c → (codes "CSM(" ++ xs) ++ (c ++ codes ")") ++ rest ≡ codes "CSM(" ++ ([] ++ (ys ++ 41 ∷ rest))
blank_is xs c rest ys e =
    ap (λ (zs : List ℕ). codes "CSM(" ++ zs) (append_assoc xs (c ++ codes ")") rest ∙ ap (λ (zs : List ℕ). xs ++ zs) (append_assoc c (codes ")") rest) ∙ sym (append_assoc xs c (41 ∷ rest)) ∙ ap (λ (zs : List ℕ). zs ++ 41 ∷ rest) (sym e))

pub written_read : WrittenRead
written_read fs code m shut rest w =
    let gs = fs ++ code ∷ [] in
    let ss = map with_blank fs in
    let l = with_none code in
    let xs = flat_map (λ f. field_text f ++ codes " ") fs in
    let c = field_text code in
    let flat = all_spelled fs code in
    let stands : StandFor gs m shut = λ t. zip_values t gs (all_fields m shut) w.each in
    let form : AreOfForm (form_of m) gs =
    λ t. subst (ComesAs (need_of (form_of m) t) (times (form_of m) t)) (sym (length-map (values_for t (all_fields m shut)) Some) ∙ ap length (sym (stands t)) ∙ count_values t gs) (fields_form m shut w.allowed t) in
    let tags = tags_parted fs code m shut (zip_tags gs (all_fields m shut) w.each) in
    let e = all_fields_in fs code in
    let none : List ℕ = [] in
    let len = length (blank_text fs code) in
    let l0 = length-append xs (c ++ codes ")") in
    let l1 = length-append c (codes ")") in
    let l2 = ap length flat in
    let l3 = length-append xs c in
    let l4 = ap length (blank_spelled fs) in
    let sh = w.short in
    let n : len ≡ length none + length (flat_map spelled_text (ss ++ l ∷ [])) + 5 = omega arith in
    let r : IsRead (blank_text fs code ++ rest) (record { message = m; shut = shut; auth_len = 4 + (length none + length (flat_map spelled_text ss)); len = len }) =
    spells_from (blank_text fs code ++ rest) none rest ss l m shut (map (λ v. v.tag) (fields_of m)) len refl (blank_parted fs code) (blank_is xs c rest _ flat) (omega arith) n
    (ap tags_in (blank_fields fs) ∙ tags.0) tags.1 (subst (AreOfForm (form_of m)) (sym e) form) (subst (λ (hs : List Field). StandFor hs m shut) (sym e) stands) in
    subst (λ (a : ℕ). IsRead (blank_text fs code ++ rest) (record { message = m; shut = shut; auth_len = a; len = len })) (let a : 4 + (length none + length (flat_map spelled_text ss)) ≡ length (authenticated_fields fs) = omega arith in a) r
