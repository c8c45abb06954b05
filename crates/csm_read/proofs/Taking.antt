-- A token is taken behind the fields before it.
use Rattle.std.proofs.Common.{◌≡◌, ℕ, Bool, true, false, cond, List, [], ◌∷◌, ◌++◌, length, map, Option, Some, None, refl, sym, ◌∙◌, ap, subst, inl, inr}
use Rattle.std.specs.Prelude.{◌&&◌, ◌==◌, not, nat_le, nat_lt, option_to_list, is_some, is_none, ◌+◌, if◌then◌else◌}
use Rattle.std.specs.List.{filter, list_all, list_any}
use Rattle.std.specs.Borrow.{Bor}
use Rattle.std.proofs.lemmas.Bool.{cases_Bool, and_parts, true≢false, false_from_ne_true, both_ways, not-false, or_left}
use Rattle.std.proofs.lemmas.List.{map-append, append-nil}
use Rattle.std.proofs.lemmas.List.Elements.{filter-append}
use Rattle.csm_grammar.specs.declared.tag.Tag.{Tag}
use Rattle.csm_grammar.specs.declared.tag.Tag.TheVariants.{Mcl, Kd}
use Rattle.csm_grammar.specs.declared.form.Form.{Form}
use Rattle.csm_grammar.specs.declared.refusal.ReadRefusal.{ReadRefusal}
use Rattle.csm_grammar.specs.declared.refusal.ReadRefusal.TheVariants as refusal
use Rattle.csm_grammar.specs.Tags.{tag_name, same_tag, has_tag, count_tag, tag_of}
use Rattle.csm_grammar.specs.Classes.{class_forms, times}
use Rattle.csm_grammar.specs.Spelling.{Field, tags_in}
use Rattle.csm_read.specs.Units.{tag_text, contents_text}
use Rattle.csm_grammar.specs.Values.{Value, kind_of, value_of}
use Rattle.csm_read.specs.Faults.{contents_fault, is_tag_byte, field_of, candidates, is_ksm, is_repeated, admits, forms_left, fault_of, fault_of_field}
use Rattle.csm_grammar.specs.FormSets.{forms_in}
use Rattle.csm_read.specs.Slotting.{slot_in, second_in, contents_in, came, comes, Puts, BeginsWithClass, Keeps}
use Rattle.csm_grammar.proofs.TagLemmas.{each_tag, each_form, same_tags, same_itself, name_of_tag}
use Rattle.csm_read.proofs.FieldLemmas.{is_field}
use Rattle.csm_read.proofs.Passing.{Passes, passes_from}
use Rattle.csm_grammar.proofs.SetLemmas.{filter_twice, filter_same}
use Rattle.csm_read.proofs.SlotLemmas.{comes_count, repeated_second, repeated_other}
use Rattle.csm_read.proofs.Admitting.{admits_more, admits_turned}

pub good_contents : (t : Tag) (place : ℕ) (c : List ℕ) → is_some (value_of (kind_of t) c) ≡ true → contents_fault t place c ≡ None
good_contents t place c h = go (value_of (kind_of t) c) h where
  go : (o : Option Value) → is_some o ≡ true → (if is_none o then Some (refusal.BadContents t (place + (length (tag_name t) + 1))) else None) ≡ None
  go None e = absurd (true≢false (sym e))
  go (Some v) e = refl

pub bad_contents : (t : Tag) (place : ℕ) (c : List ℕ) (r : ReadRefusal) → value_of (kind_of t) c ≡ None → r ≡ refusal.BadContents t (place + (length (tag_name t) + 1)) → contents_fault t place c ≡ Some r
bad_contents t place c r h e = rw (h, e) refl

abbrev is_name : List ℕ → Bool
is_name n = (nat_le 1 (length n) && nat_le (length n) 4) && list_all is_tag_byte n

abbrev slash_in : List ℕ → Bool
slash_in t = list_any (λ b. b == 47) t

pub unnamed_fault : (fs : List Field) (place : ℕ) (text name : List ℕ) (r : ReadRefusal) → slash_in text ≡ true → name ≡ tag_text text → None ≡ tag_of name → r ≡ (if is_name name then refusal.UnknownTag place else refusal.BadTag place) → fault_of fs (record { place = place; text = text }) ≡ Some r
unnamed_fault fs place text name r h e n k = elim (cases_Bool (is_name (tag_text text))) [
  | inl g ↦ (let m : None ≡ tag_of (tag_text text) = n ∙ ap tag_of e in let q : r ≡ refusal.UnknownTag place = k ∙ ap (λ (x : List ℕ). if is_name x then refusal.UnknownTag place else refusal.BadTag place) e ∙ rw g refl in rw (h, g, ← m, q) refl)
  | inr g ↦ (let q : r ≡ refusal.BadTag place = k ∙ ap (λ (x : List ℕ). if is_name x then refusal.UnknownTag place else refusal.BadTag place) e ∙ rw g refl in rw (h, g, q) refl)
]

named : (t : Tag) → is_name (tag_name t) ≡ true
named t = each_tag (λ s. is_name (tag_name s)) refl t

pub record Named (fs : List Field) (place : ℕ) (text : List ℕ) (f : Field) : Type 0 where
  pub fault : fault_of fs (record { place = place; text = text }) ≡ fault_of_field fs place f
  pub field : field_of (record { place = place; text = text }) ≡ Some f

pub named_field : (fs : List Field) (place : ℕ) (text name contents : List ℕ) (t : Tag) → slash_in text ≡ true → name ≡ tag_text text → contents ≡ contents_text text → Some t ≡ tag_of name → Named fs place text (record { tag = t; contents = contents })
named_field fs place text name contents t h e c n =
    let m : Some t ≡ tag_of (tag_text text) = n ∙ ap tag_of e in
    let g : is_name (tag_text text) ≡ true = sym (ap is_name (name_of_tag (tag_text text) t (sym m))) ∙ named t in
    record { fault = rw (h, g, ← m, c) refl; field = rw (← m, c) refl }

-- what a field without a fault may find in the slots: its tag didn't come, or it is a second KD and there is none
pub record IsFree (slots : List (Option (Bor (List ℕ)))) (t : Tag) : Type 0 where
  pub first : (same_tag t Kd && came slots Kd) ≡ false → came slots t ≡ false
  pub second : (same_tag t Kd && came slots Kd) ≡ true → second_in slots ≡ None

not_some : (o : Option (List ℕ)) → is_some o ≡ false → o ≡ None
not_some None h = refl
not_some (Some x) h = absurd cc

free : (slots : List (Option (Bor (List ℕ)))) (left : ℕ) (fs : List Field) (t : Tag) → Keeps slots left fs → is_repeated fs t ≡ false → IsFree slots t
free slots left fs t k h = record { first = first; second = second } where
  first : (same_tag t Kd && came slots Kd) ≡ false → came slots t ≡ false
  first e = go (same_tag t Kd) refl e where
    go : (b : Bool) → same_tag t Kd ≡ b → (b && came slots Kd) ≡ false → came slots t ≡ false
    go true i j = subst (λ (s : Tag). came slots s ≡ false) (sym (same_tags t Kd i)) j
    go false i j = repeated_other slots left fs t (came slots t) k (rw i refl) refl ∙ h

  second : (same_tag t Kd && came slots Kd) ≡ true → second_in slots ≡ None
  second e =
      let l = and_parts _ _ e in
      go (is_ksm fs) refl l.0 l.1 where
        go : (c : Bool) → is_ksm fs ≡ c → same_tag t Kd ≡ true → came slots Kd ≡ true → second_in slots ≡ None
        go true i j m = not_some (second_in slots) (repeated_second slots left fs t (is_some (second_in slots)) k j i refl ∙ h)
        go false i j m =
            let there : came slots t ≡ true = subst (λ (s : Tag). came slots s ≡ true) (sym (same_tags t Kd j)) m in
            absurd (both_ways (came slots t) (repeated_other slots left fs t (came slots t) k (rw (j, m, i) refl) refl ∙ h) there)

-- the contents that are put come behind those that were there
put_contents : (slots more : List (Option (Bor (List ℕ)))) (tag : Tag) (c : List ℕ) → Puts slots more tag c → IsFree slots tag → (came slots Kd ≡ false → second_in slots ≡ None) → (t : Tag) → contents_in more t ≡ contents_in slots t ++ (if same_tag tag t then c ∷ [] else [])
put_contents slots more tag c p free order t = go (same_tag tag Kd && came slots Kd) (same_tag tag t) refl refl (p.behind t) p.second where
  joined : (x y : Option (List ℕ)) → slot_in more t ≡ x → second_in more ≡ y → contents_in more t ≡ option_to_list x ++ cond (same_tag t Kd) (option_to_list y) []
  joined x y e f = (λ i. option_to_list (e i) ++ cond (same_tag t Kd) (option_to_list (f i)) [])

  go : (s b : Bool) → (same_tag tag Kd && came slots Kd) ≡ s → same_tag tag t ≡ b → slot_in more t ≡ cond (b && not s) (Some c) (slot_in slots t) → second_in more ≡ cond s (Some c) (second_in slots)
      → contents_in more t ≡ contents_in slots t ++ cond b (c ∷ []) []
  go true true i j e f =
      let l = and_parts _ _ i in
      let kd : same_tag t Kd ≡ true = subst (λ (x : Tag). same_tag x Kd ≡ true) (same_tags tag t j) l.0 in
      joined _ _ e f ∙ rw (kd, free.second i) (ap (λ (xs : List (List ℕ)). xs ++ c ∷ []) (sym (append-nil (option_to_list (slot_in slots t)))))
  go true false i j e f =
      let l = and_parts _ _ i in
      let other : same_tag t Kd ≡ false = false_from_ne_true _ (λ k. both_ways (same_tag tag t) j (ap (same_tag tag) (same_tags t Kd k) ∙ l.0)) in
      joined _ _ e f ∙ rw other (sym (append-nil _))
  go false false i j e f = joined _ _ e f ∙ sym (append-nil _)
  go false true i j e f =
      let same = same_tags tag t j in
      let none : slot_in slots t ≡ None = not_some (slot_in slots t) (subst (λ (x : Tag). came slots x ≡ false) same (free.first i)) in
      let empty : cond (same_tag t Kd) (option_to_list (second_in slots)) [] ≡ [] = no_second (same_tag t Kd) refl none in
      joined _ _ e f ∙ (λ n. c ∷ empty n) ∙ sym (ap (λ (o : Option (List ℕ)). (option_to_list o ++ cond (same_tag t Kd) (option_to_list (second_in slots)) []) ++ c ∷ []) none ∙ ap (λ (xs : List (List ℕ)). xs ++ c ∷ []) empty) where
        no_second : (b : Bool) → same_tag t Kd ≡ b → slot_in slots t ≡ None → cond b (option_to_list (second_in slots)) [] ≡ []
        no_second false k n = refl
        no_second true k n = ap (λ (o : Option (List ℕ)). option_to_list o) (order (subst (λ (x : Tag). came slots x ≡ false) (same_tags t Kd k) (ap is_some n)))

-- a second KD stays behind a first
put_order : (slots more : List (Option (Bor (List ℕ)))) (tag : Tag) (c : List ℕ) → Puts slots more tag c → (came slots Kd ≡ false → second_in slots ≡ None) → came more Kd ≡ false → second_in more ≡ None
put_order slots more tag c p order h = go (same_tag tag Kd) (came slots Kd) refl refl (p.behind Kd) p.second where
  go : (a b : Bool) → same_tag tag Kd ≡ a → came slots Kd ≡ b → slot_in more Kd ≡ cond (a && not (a && b)) (Some c) (slot_in slots Kd) → second_in more ≡ cond (a && b) (Some c) (second_in slots) → second_in more ≡ None
  go true true i j e f = absurd (both_ways (came slots Kd) (sym (ap is_some e) ∙ h) j)
  go true false i j e f = absurd (let k : true ≡ false = sym (ap is_some e) ∙ h in true≢false k)
  go false true i j e f = absurd (both_ways (came slots Kd) (sym (ap is_some e) ∙ h) j)
  go false false i j e f = f ∙ order j

more_contents : (slots : List (Option (Bor (List ℕ)))) (left : ℕ) (fs : List Field) (f : Field) (t : Tag) → Keeps slots left fs
    → map (λ g. g.contents) (filter (λ g. same_tag g.tag t) (fs ++ f ∷ [])) ≡ contents_in slots t ++ (if same_tag f.tag t then f.contents ∷ [] else [])
more_contents slots left fs f t k =
    ap (map (λ (g : Field). g.contents)) (filter-append (λ (g : Field). same_tag g.tag t) fs (f ∷ [])) ∙ map-append (λ (g : Field). g.contents) _ _ ∙ go (same_tag f.tag t) where
      go : (b : Bool) → map (λ (g : Field). g.contents) (filter (λ (g : Field). same_tag g.tag t) fs) ++ map (λ (g : Field). g.contents) (if b then f ∷ [] else []) ≡ contents_in slots t ++ (if b then f.contents ∷ [] else [])
      go true = ap (λ (xs : List (List ℕ)). xs ++ f.contents ∷ []) (k.contents t)
      go false = ap (λ (xs : List (List ℕ)). xs ++ []) (k.contents t)

filter_all : (p : Form → Bool) (fs : List Form) → ((f : Form) → p f ≡ true) → filter p fs ≡ fs
filter_all p [] h = refl
filter_all p (f ∷ fs) h = rw (h f) (ap (λ (gs : List Form). f ∷ gs) (filter_all p fs h))

first_forms : (f : Field) → same_tag f.tag Mcl ≡ true → forms_left (f ∷ []) (f.tag ∷ []) ≡ class_forms f.contents
first_forms f h =
    let e = same_tags f.tag Mcl h in
    filter_all (λ g. admits g (f.tag ∷ [])) (class_forms f.contents) (λ g. ap (λ (t : Tag). admits g (t ∷ [])) e ∙ each_form (λ x. admits x (Mcl ∷ [])) refl g)

more_left : (slots : List (Option (Bor (List ℕ)))) (left : ℕ) (g : Field) (gs : List Field) (f : Field) → comes slots f.tag ≡ count_tag f.tag (tags_in (g ∷ gs))
    → forms_left (g ∷ (gs ++ f ∷ [])) (tags_in (g ∷ (gs ++ f ∷ []))) ≡ filter (λ h. nat_lt (comes slots f.tag) (times h f.tag)) (forms_left (g ∷ gs) (tags_in (g ∷ gs)))
more_left slots left g gs f c =
    let ts = tags_in (g ∷ gs) in
    ap (λ (us : List Tag). filter (λ h. admits h us) (candidates (g ∷ gs))) (map-append (λ (x : Field). x.tag) (g ∷ gs) (f ∷ []))
    ∙ filter_same (λ h. admits h (ts ++ f.tag ∷ [])) (λ h. admits h ts && nat_lt (comes slots f.tag) (times h f.tag)) (candidates (g ∷ gs)) (λ h. admits_turned h f.tag ts ∙ admits_more h f.tag ts ∙ ap (λ (n : ℕ). admits h ts && nat_lt n (times h f.tag)) (sym c))
    ∙ sym (filter_twice (λ h. admits h ts) (λ h. nat_lt (comes slots f.tag) (times h f.tag)) (candidates (g ∷ gs)))

more_forms : (slots : List (Option (Bor (List ℕ)))) (left : ℕ) (fs : List Field) (f : Field) → Keeps slots left fs → Passes fs f
    → (if same_tag f.tag Mcl then class_forms f.contents else filter (λ g. nat_lt (comes slots f.tag) (times g f.tag)) (forms_in left)) ≡ forms_left (fs ++ f ∷ []) (tags_in (fs ++ f ∷ []))
more_forms slots left fs f k p = go fs k.forms k.class_first p (comes_count slots left fs f.tag k) where
  chosen : Bool → List Form
  chosen b = if b then class_forms f.contents else filter (λ g. nat_lt (comes slots f.tag) (times g f.tag)) (forms_in left)

  go : (gs : List Field) → forms_in left ≡ forms_left gs (tags_in gs) → BeginsWithClass gs → Passes gs f → comes slots f.tag ≡ count_tag f.tag (tags_in gs)
      → (if same_tag f.tag Mcl then class_forms f.contents else filter (λ g. nat_lt (comes slots f.tag) (times g f.tag)) (forms_in left)) ≡ forms_left (gs ++ f ∷ []) (tags_in (gs ++ f ∷ []))
  go [] h c q n = let e = not-false _ q.first in ap chosen e ∙ sym (first_forms f e)
  go (g ∷ gs) h c q n =
      let e : same_tag f.tag Mcl ≡ false = elim (cases_Bool (same_tag f.tag Mcl)) [
        | inl i ↦ absurd (again (g ∷ gs) f.tag (same_tags f.tag Mcl i) q.once (or_left (same_tag g.tag f.tag) _ (ap (λ (t : Tag). same_tag t f.tag) (c ∙ sym (same_tags f.tag Mcl i)) ∙ same_itself f.tag)))
        | inr i ↦ i
      ] in
      ap chosen e ∙ ap (filter (λ x. nat_lt (comes slots f.tag) (times x f.tag))) h ∙ sym (more_left slots left g gs f n) where
        again : (hs : List Field) (t : Tag) → t ≡ Mcl → is_repeated hs t ≡ false → has_tag t (tags_in hs) ≡ true → ⊥
        again hs t i r s = both_ways (has_tag Mcl (tags_in hs)) (subst (λ (x : Tag). is_repeated hs x ≡ false) i r) (subst (λ (x : Tag). has_tag x (tags_in hs) ≡ true) i s)

more_first : (fs : List Field) (f : Field) → BeginsWithClass fs → Passes fs f → BeginsWithClass (fs ++ f ∷ [])
more_first [] f h p = same_tags f.tag Mcl (not-false _ p.first)
more_first (g ∷ gs) f h p = h

-- a field without a fault is kept behind the others
pub keeps_more : (slots more : List (Option (Bor (List ℕ)))) (left after : ℕ) (fs : List Field) (place : ℕ) (f : Field) → Keeps slots left fs → fault_of_field fs place f ≡ None
    → Puts slots more f.tag f.contents
    → forms_in after ≡ (if same_tag f.tag Mcl then class_forms f.contents else filter (λ g. nat_lt (comes slots f.tag) (times g f.tag)) (forms_in left)) → Keeps more after (fs ++ f ∷ [])
keeps_more slots more left after fs place f k h s l =
    let p = passes_from fs place f h in
    record {
      contents = λ t. more_contents slots left fs f t k ∙ sym (put_contents slots more f.tag f.contents s (free slots left fs f.tag k p.once) k.second t);
      second = put_order slots more f.tag f.contents s k.second;
      forms = l ∙ more_forms slots left fs f k p;
      class_first = more_first fs f k.class_first p;
    }

-- a token without a fault is kept as the field that it writes
pub taken : (slots more : List (Option (Bor (List ℕ)))) (left after : ℕ) (fs : List Field) (place : ℕ) (text : List ℕ) (f : Field) → Keeps slots left fs
    → fault_of fs (record { place = place; text = text }) ≡ None → field_of (record { place = place; text = text }) ≡ Some f
    → Puts slots more f.tag f.contents
    → forms_in after ≡ (if same_tag f.tag Mcl then class_forms f.contents else filter (λ g. nat_lt (comes slots f.tag) (times g f.tag)) (forms_in left)) → Keeps more after (fs ++ option_to_list (field_of (record { place = place; text = text })))
taken slots more left after fs place text f k h e s l =
    let x = is_field fs (record { place = place; text = text }) h in
    let same : x.0 ≡ f = (let i : Some x.0 ≡ Some f = sym x.1.written ∙ e in cc) in
    rw e (keeps_more slots more left after fs place f k (subst (λ (g : Field). fault_of_field fs place g ≡ None) same x.1.faultless) s l)
