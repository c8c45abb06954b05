-- A text that begins with a spelling has no fault, and its tokens are the spelling's fields.
use Rattle.std.proofs.Common.{◌≡◌, ℕ, ◌+◌, ◌≤◌, Bool, true, false, List, [], ◌∷◌, ◌++◌, length, take, drop, map, Option, Some, None, refl, sym, ◌∙◌, ap, subst, append_assoc, arith, length-append}
use Rattle.std.specs.Prelude.{is_some, option_to_list, codes, bytes_eq}
use Rattle.std.specs.List.{list_any, flat_map}
use Rattle.std.proofs.lemmas.Bool.{and_parts, and_from, or_left, or_right, not_from_true, false≢true, false_from_ne_true}
use Rattle.std.proofs.lemmas.List.{take_at, take-append-drop, take-take, map-append, append-nil, length-take-le}
use Rattle.std.proofs.lemmas.List.Folds.{list_any-append}
use Rattle.csm_grammar.specs.declared.tag.Tag.{Tag}
use Rattle.csm_grammar.specs.declared.tag.Tag.TheVariants.{Mcl}
use Rattle.csm_grammar.specs.declared.message.Message.{Message}
use Rattle.csm_grammar.specs.declared.parsed.Shut.{Shut}
use Rattle.csm_grammar.specs.declared.parsed.Shut.TheVariants as shuts
use Rattle.csm_grammar.specs.declared.parsed.Parsed.{Parsed}
use Rattle.csm_grammar.specs.Tags.{same_tag, is_closing}
use Rattle.csm_grammar.specs.Classes.{class_text, forms}
use Rattle.csm_grammar.specs.Values.{Value, AText, OfClass, kind_of, value_of, value_if}
use Rattle.csm_grammar.specs.Messages.{form_of, shut_field, all_fields}
use Rattle.csm_grammar.specs.Spelling.{AreSeparators, Field, field_text, Spelled, spelled_text, fields_in, tags_in, AreParted, AreOfForm, values_in, values_for, StandFor, Spells}
use Rattle.csm_read.specs.Units.{stretches, end_place, units, stretches_of, units_of}
use Rattle.csm_read.specs.Faults.{differs, or_else, field_of, fault_of, fields_from, first_fault, front_fault, end_fault, fault_of_text}
use Rattle.csm_read.specs.Judging.{last_place}
use Rattle.csm_grammar.specs.Reading.{IsRead}
use Rattle.csm_grammar.proofs.TagLemmas.{same_itself}
use Rattle.csm_read.proofs.Stretching.{standing, gap_units, gap_end}
use Rattle.csm_read.proofs.Tokens.{IsToken, spread_text, AreSpread, standings, spread_units}
use Rattle.csm_read.proofs.FieldLemmas.{field, field_written, fault_of_written}
use Rattle.csm_read.proofs.ContentsLemmas.{token_of_field}
use Rattle.csm_read.proofs.Passing.{AllPass, passes_none, no_fault, fault_more}
use Rattle.csm_grammar.proofs.Counting.{count_fields, present_count, tags_append, code_once}
use Rattle.csm_read.proofs.Making.{are_known}
use Rattle.csm_read.proofs.Codes.{code_tag}
use Rattle.csm_read.proofs.Spelled.{spread_of, spread_same, untested}
use Rattle.csm_read.proofs.Proper.{any_tag, need_most, IsProper, proper_passes}

-- where the values behind each tag are told, each of the contents stands for one
known_from : (fs : List Field) → ((t : Tag) → (vs : List Value) × (values_in t fs ≡ map Some vs)) → are_known fs ≡ true
known_from [] h = refl
known_from (f ∷ fs) h = and_from _ _ here (known_from fs (λ t. later t (same_tag f.tag t) refl (h t).0 (h t).1)) where
  head_known : (o : Option Value) (os : List (Option Value)) (vs : List Value) → o ∷ os ≡ map Some vs → is_some o ≡ true
  head_known o os [] e = absurd cc
  head_known o os (v ∷ vs) e = let k : o ≡ Some v = cc in ap is_some k

  tail_known : (o : Option Value) (os : List (Option Value)) (vs : List Value) → o ∷ os ≡ map Some vs → (ws : List Value) × (os ≡ map Some ws)
  tail_known o os [] e = absurd cc
  tail_known o os (v ∷ vs) e = (vs, cc)

  opened : (t : Tag) → same_tag f.tag t ≡ true → values_in t (f ∷ fs) ≡ value_of (kind_of f.tag) f.contents ∷ values_in t fs
  opened t e = rw e refl

  here : is_some (value_of (kind_of f.tag) f.contents) ≡ true
  here = head_known _ (values_in f.tag fs) (h f.tag).0 (sym (opened f.tag (same_itself f.tag)) ∙ (h f.tag).1)

  later : (t : Tag) (b : Bool) → same_tag f.tag t ≡ b → (vs : List Value) → values_in t (f ∷ fs) ≡ map Some vs → (ws : List Value) × (values_in t fs ≡ map Some ws)
  later t true e vs k = tail_known _ (values_in t fs) vs (sym (opened t e) ∙ k)
  later t false e vs k = (vs, rw e at k)

known_value : (f : Field) → is_some (value_of (kind_of f.tag) f.contents) ≡ true → (v : Value) × (value_of (kind_of f.tag) f.contents ≡ Some v)
known_value f h = go (value_of (kind_of f.tag) f.contents) h where
  go : (o : Option Value) → is_some o ≡ true → (v : Value) × (o ≡ Some v)
  go None i = absurd (false≢true i)
  go (Some v) i = (v, refl)

known_token : (f : Field) → is_some (value_of (kind_of f.tag) f.contents) ≡ true → IsToken (field_text f)
known_token f h = let v = known_value f h in token_of_field f v.0 v.1

spread_from : (ss : List Spelled) → are_known (fields_in ss) ≡ true → AreParted ss → AreSpread (map spread_of ss)
spread_from [] k h = tt
spread_from (s ∷ []) k h = (known_token s.field (and_parts _ _ k).0, h)
spread_from (s ∷ t ∷ ss) k h = (known_token s.field (and_parts _ _ k).0, h.0, h.1, spread_from (t ∷ ss) (and_parts _ _ k).1 h.2)

pub standing_fields : (p : ℕ) (ss : List Spelled) → fields_from (standings p (map spread_of ss)) ≡ fields_in ss
standing_fields p [] = refl
standing_fields p (s ∷ ss) = rw (field_written p s.field) (ap (λ (xs : List Field). s.field ∷ xs) (standing_fields (p + length (spread_text (spread_of s))) ss))

standing_faultless : (before : List Field) (p : ℕ) (ss : List Spelled) → AllPass before (fields_in ss) → first_fault before (standings p (map spread_of ss)) ≡ None
standing_faultless before p [] h = no_fault before
standing_faultless before p (s ∷ ss) h =
    let us = standings (p + length (spread_text (spread_of s))) (map spread_of ss) in
    let u = standing p (field_text s.field) in
    let a : fault_of before u ≡ None = fault_of_written before p s.field ∙ passes_none before p s.field h.0 in
    let b : first_fault (before ++ option_to_list (field_of u)) us ≡ None =
    ap (λ (o : Option Field). first_fault (before ++ option_to_list o) us) (field_written p s.field) ∙ standing_faultless (before ++ s.field ∷ []) (p + length (spread_text (spread_of s))) ss h.1 in
    fault_more before u us ∙ (λ i. or_else (a i) (b i))

end_closes : (shut : Shut) → is_closing (shut_field shut).tag ≡ true
end_closes (shuts.Mac n) = refl
end_closes (shuts.Edc n) = refl

head_class : (f : Field) (fs : List Field) → f.tag ≡ Mcl → values_in Mcl (f ∷ fs) ≡ value_of OfClass f.contents ∷ values_in Mcl fs
head_class f fs h = subst (λ (g : Field). values_in Mcl (g ∷ fs) ≡ value_of OfClass f.contents ∷ values_in Mcl fs) (let k : field Mcl f.contents ≡ f = (λ i. field (sym h i) f.contents) in k) refl

where_text : (b : Bool) (c t : List ℕ) → value_if b (AText c) ≡ Some (AText t) → t ≡ c
where_text true c t h = cc
where_text false c t h = absurd cc

pub class_of : (m : Message) (shut : Shut) (f : Field) (fs : List Field) → f.tag ≡ Mcl → StandFor (f ∷ fs) m shut → class_text (form_of m) ≡ f.contents
class_of m shut f fs h s =
    let e : value_of OfClass f.contents ∷ values_in Mcl fs ≡ map Some (values_for Mcl (all_fields m shut)) = sym (head_class f fs h) ∙ s Mcl in
    let k : value_of OfClass f.contents ≡ Some (AText (class_text (form_of m))) = first_same _ _ _ _ e in
    where_text (list_any (λ g. bytes_eq (class_text g) f.contents) forms) f.contents (class_text (form_of m)) k where
      first_same : (o p : Option Value) (os ps : List (Option Value)) → o ∷ os ≡ p ∷ ps → o ≡ p
      first_same o p os ps e = cc

-- the facts of a spelling's fields
pub proper : (m : Message) (shut : Shut) (ss : List Spelled) (l : Spelled) (others : List Tag) → AreOfForm (form_of m) (fields_in (ss ++ l ∷ [])) → StandFor (fields_in (ss ++ l ∷ [])) m shut
    → tags_in (fields_in ss) ≡ Mcl ∷ others → l.field.tag ≡ (shut_field shut).tag → IsProper (form_of m) (fields_in ss) l.field
proper m shut [] l others form stands class code = absurd cc
proper m shut (s ∷ ss) l others form stands class code =
    let gs = fields_in (s ∷ ss) in
    let e : fields_in ((s ∷ ss) ++ l ∷ []) ≡ gs ++ l.field ∷ [] = map-append (λ x. x.field) (s ∷ ss) (l ∷ []) in
    let st = subst (λ (fs : List Field). StandFor fs m shut) e stands in
    let fm = subst (AreOfForm (form_of m)) e form in
    let first : s.field.tag ≡ Mcl = cc in
    record {
      tags = fm;
      known = known_from (gs ++ l.field ∷ []) (λ t. (values_for t (all_fields m shut), st t));
      first = s.field;
      rest = fields_in ss;
      begins = refl;
      class_first = first;
      class = class_of m shut s.field (fields_in ss ++ l.field ∷ []) first st;
      closes = ap is_closing code ∙ end_closes shut;
      unclosed = no_code gs l.field m shut fm st code;
    } where
      no_code : (gs : List Field) (c : Field) (m : Message) (shut : Shut) → AreOfForm (form_of m) (gs ++ c ∷ []) → StandFor (gs ++ c ∷ []) m shut → c.tag ≡ (shut_field shut).tag → list_any is_closing (tags_in gs) ≡ false
      no_code gs c m shut fm st code = false_from_ne_true _ (λ h.
          let k = any_tag is_closing (tags_in gs) h in
          let a = count_fields k.0 gs (c ∷ []) in
          let b = present_count k.0 (tags_in gs) k.2 in
          let d : k.0 ≡ (shut_field shut).tag = code_tag k.0 (gs ++ c ∷ []) m shut st k.1 (omega arith) in
          let same : same_tag c.tag k.0 ≡ true = subst (λ (t : Tag). same_tag t k.0 ≡ true) (d ∙ sym code) (same_itself k.0) in
          let one = present_count k.0 (c.tag ∷ []) (or_left _ _ same) in
          let most = need_most _ _ _ (fm k.0) in
          let few = code_once (form_of m) k.0 k.1 in
          omega arith)

pub taken : (P r : List ℕ) (n : ℕ) → length P ≤ n → take n (P ++ r) ≡ P ++ drop (length P) (take n (P ++ r))
taken P r n h =
    let a = take-append-drop (length P) (take n (P ++ r)) in
    let b : take (length P) (take n (P ++ r)) ≡ P = take-take (length P) n (P ++ r) h ∙ take_at P r (length P) refl in
    sym a ∙ ap (λ (x : List ℕ). x ++ drop (length P) (take n (P ++ r))) b

standing_last : (p : ℕ) (ss : List Spelled) (l : Spelled) → last_place (standings p (map spread_of (ss ++ l ∷ []))) ≡ p + length (flat_map spelled_text ss)
standing_last p [] l = let k : p ≡ p + 0 = omega arith in k
standing_last p (s ∷ []) l =
    let a = append-nil (spelled_text s) in
    ap (λ (x : List ℕ). p + length x) (sym a)
standing_last p (s ∷ t ∷ ss) l =
    let q = p + length (spelled_text s) in
    let a = length-append (spelled_text s) (flat_map spelled_text (t ∷ ss)) in
    standing_last q (t ∷ ss) l ∙ (let k : q + length (flat_map spelled_text (t ∷ ss)) ≡ p + length (flat_map spelled_text (s ∷ t ∷ ss)) = omega arith in k)

spelled_front : (front : List ℕ) (ss : List Spelled) (rest : List ℕ) → front ++ (flat_map spelled_text ss ++ 41 ∷ rest) ≡ (front ++ (flat_map spelled_text ss ++ codes ")")) ++ rest
spelled_front front ss rest = sym (append_assoc front (flat_map spelled_text ss ++ codes ")") rest ∙ ap (λ (x : List ℕ). front ++ x) (append_assoc (flat_map spelled_text ss) (codes ")") rest))

-- the judged units of a text that begins with spelled fields
pub record Units (b front : List ℕ) (ss : List Spelled) : Type 0 where
  pub units : units_of b ≡ standings (4 + length front) (map spread_of ss)
  pub place : end_place (stretches_of b) ≡ Some (4 + length front + length (flat_map spelled_text ss))

pub units_spelled : (b front rest : List ℕ) (ss : List Spelled) → b ≡ codes "CSM(" ++ (front ++ (flat_map spelled_text ss ++ 41 ∷ rest)) → length front + length (flat_map spelled_text ss) + 5 ≤ 1024 → AreSeparators front → are_known (fields_in ss) ≡ true → AreParted ss → Units b front ss
units_spelled b front rest ss text short seps known parted =
    let fs = flat_map spelled_text ss in
    let P = front ++ (fs ++ codes ")") in
    let l = length-append front (fs ++ codes ")") in
    let l2 = length-append fs (codes ")") in
    let rest2 = drop (length P) (take 1020 (P ++ rest)) in
    let w : drop 4 (take 1024 b) ≡ front ++ (flat_map spread_text (map spread_of ss) ++ 41 ∷ rest2) =
    ap (λ (x : List ℕ). drop 4 (take 1024 x)) text ∙ ap (take 1020) (spelled_front front ss rest) ∙ taken P rest 1020 (omega arith) ∙ sym (spelled_front front ss rest2)
    ∙ ap (λ (x : List ℕ). front ++ (x ++ 41 ∷ rest2)) (sym (spread_same ss)) in
    let k = spread_units (4 + length front) (map spread_of ss) rest2 (spread_from ss known parted) in
    record {
      units = ap (λ (x : List ℕ). units (stretches 4 x)) w ∙ gap_units 4 front _ seps ∙ k.0;
      place = ap (λ (x : List ℕ). end_place (stretches 4 x)) w ∙ gap_end 4 front _ seps ∙ k.1 ∙ ap (λ (x : List ℕ). Some (4 + length front + length x)) (spread_same ss);
    }

differs_no_more : (place : ℕ) (xs : List ℕ) → differs place xs [] ≡ None
differs_no_more place [] = refl
differs_no_more place (x ∷ xs) = refl

front_good : (b xs : List ℕ) → b ≡ codes "CSM(" ++ xs → front_fault b ≡ None
front_good b xs h = ap front_fault h ∙ differs_no_more 4 xs

ends_well : (at n : ℕ) (fs : List Field) (place : Option ℕ) → place ≡ Some at → list_any is_closing (tags_in fs) ≡ true → end_fault place fs n ≡ None
ends_well at n fs place h c = rw h (rw (not_from_true _ c) refl)

-- what a text that begins with a spelling has
pub record Kept (b : List ℕ) (p : Parsed) : Type 0 where
  pub faultless : fault_of_text b ≡ None
  pub stands : StandFor (fields_from (units_of b)) p.message p.shut
  pub form : AreOfForm (form_of p.message) (fields_from (units_of b))
  pub proper : (gs : List Field) × (c : Field) × (fields_from (units_of b) ≡ gs ++ c ∷ []) × IsProper (form_of p.message) gs c
  pub at : ℕ
  pub place : end_place (stretches_of b) ≡ Some at
  pub len : p.len ≡ at + 1
  pub auth : p.auth_len ≡ last_place (units_of b)

kept_from : (b rest : List ℕ) (m : Message) (shut : Shut) (a n : ℕ) (x : List ℕ) → Spells x m shut a → b ≡ x ++ rest → length x ≡ n → Kept b (record { message = m; shut = shut; auth_len = a; len = n })
kept_from b rest m shut a n x s e k =
    let ss = s.fields ++ s.last ∷ [] in
    let fs = fields_in ss in
    let p = proper m shut s.fields s.last s.others s.form s.values s.class_first s.code_last in
    let q : fs ≡ fields_in s.fields ++ s.last.field ∷ [] = map-append (λ y. y.field) s.fields (s.last ∷ []) in
    let known = subst (λ (gs : List Field). are_known gs ≡ true) (sym q) p.known in
    let flat = flat_map spelled_text ss in
    let text : b ≡ codes "CSM(" ++ (s.front ++ (flat ++ 41 ∷ rest)) = e ∙ ap (λ (y : List ℕ). y ++ rest) s.text ∙ ap (λ (y : List ℕ). codes "CSM(" ++ y) (sym (spelled_front s.front ss rest)) in
    let l = ap length s.text in
    let l1 = length-append s.front (flat ++ codes ")") in
    let l2 = length-append flat (codes ")") in
    let sh = s.short in
    let u = units_spelled b s.front rest ss text (omega arith) s.separators known s.parted in
    let are : fields_from (units_of b) ≡ fs = ap fields_from u.units ∙ standing_fields (4 + length s.front) ss in
    let pass = subst (AllPass []) (sym q) (proper_passes (form_of m) (fields_in s.fields) s.last.field p) in
    let closing : list_any is_closing (tags_in fs) ≡ true =
    ap (λ (gs : List Field). list_any is_closing (tags_in gs)) q ∙ ap (list_any is_closing) (tags_append (fields_in s.fields) (s.last.field ∷ []))
    ∙ list_any-append is_closing (tags_in (fields_in s.fields)) (s.last.field.tag ∷ []) ∙ or_right _ _ (or_left _ _ p.closes) in
    let tokens : first_fault [] (units_of b) ≡ None = ap (first_fault []) u.units ∙ standing_faultless [] (4 + length s.front) ss pass in
    record {
      faultless = untested b (record {
        front = front_good b _ text;
        tokens = tokens;
        end = ends_well _ (length b) (fields_from (units_of b)) _ u.place (subst (λ (gs : List Field). list_any is_closing (tags_in gs) ≡ true) (sym are) closing);
      });
      stands = subst (λ (gs : List Field). StandFor gs m shut) (sym are) s.values;
      form = subst (AreOfForm (form_of m)) (sym are) s.form;
      proper = (fields_in s.fields, s.last.field, are ∙ q, p);
      at = 4 + length s.front + length flat;
      place = u.place;
      len = omega arith;
      auth = s.auth ∙ (let j : 4 + (length s.front + length (flat_map spelled_text s.fields)) ≡ 4 + length s.front + length (flat_map spelled_text s.fields) = omega arith in j) ∙ sym (ap last_place u.units ∙ standing_last (4 + length s.front) s.fields s.last);
    }

pub kept : (b : List ℕ) (p : Parsed) → IsRead b p → Kept b p
kept b p r = kept_from b (drop p.len b) p.message p.shut p.auth_len p.len (take p.len b) r.spelled (sym (take-append-drop p.len b)) (length-take-le p.len b r.within)
