-- A message is read exactly where a text has no fault: from no fault to the message.
use Rattle.std.proofs.Common.{◌≡◌, ℕ, ◌+◌, ◌≤◌, Bool, true, false, List, [], ◌∷◌, ◌++◌, length, take, map, Some, None, refl, sym, ◌∙◌, ap, subst, append_assoc, arith, length-append}
use Rattle.std.specs.Prelude.{is_some, codes, bytes_eq}
use Rattle.std.specs.List.{list_any, flat_map}
use Rattle.std.proofs.lemmas.Bool.{and_parts, false≢true}
use Rattle.std.proofs.lemmas.List.{take_at, nil_from_length}
use Rattle.csm_grammar.specs.declared.tag.Tag.{Tag}
use Rattle.csm_grammar.specs.declared.tag.Tag.TheVariants.{Mcl}
use Rattle.csm_grammar.specs.declared.form.Form.{Form}
use Rattle.csm_grammar.specs.declared.message.Message.{Message}
use Rattle.csm_grammar.specs.declared.parsed.Shut.{Shut}
use Rattle.csm_grammar.specs.declared.parsed.Parsed.{Parsed}
use Rattle.csm_grammar.specs.Tags.{count_tag}
use Rattle.csm_grammar.specs.Classes.{class_text, forms}
use Rattle.csm_grammar.specs.Values.{AText, OfClass, value_of, value_if}
use Rattle.csm_grammar.specs.Messages.{form_of, shut_field}
use Rattle.csm_grammar.specs.Spelling.{AreSeparators, Field, Spelled, spelled_text, fields_in, tags_in, AreParted, AreOfForm, values_in, StandFor}
use Rattle.csm_read.specs.Faults.{fault_of_text}
use Rattle.csm_grammar.specs.Reading.{IsRead}
use Rattle.csm_read.proofs.FieldLemmas.{field}
use Rattle.csm_grammar.proofs.Counting.{count_fields, present_count, mcl_count}
use Rattle.csm_read.proofs.Closing.{IsWholeForm, whole_form}
use Rattle.csm_grammar.proofs.Slots.{count_values}
use Rattle.csm_read.proofs.Making.{are_known, passing_known, Made, made, OneCode}
use Rattle.csm_read.proofs.Codes.{code_tag, one_code}
use Rattle.csm_read.proofs.Spelled.{Faultless, faultless}
use Rattle.csm_grammar.proofs.TagLemmas.{same_itself}

class_known : (c : List ℕ) (b : Bool) → is_some (value_if b (AText c)) ≡ true → value_if b (AText c) ≡ Some (AText c)
class_known c true h = refl
class_known c false h = absurd (false≢true h)

class_at : (g : Form) (c : List ℕ) (fs : List Field) → class_text g ≡ c → count_tag Mcl (tags_in (field Mcl c ∷ fs)) ≡ 1 → are_known (field Mcl c ∷ fs) ≡ true → values_in Mcl (field Mcl c ∷ fs) ≡ map Some (AText (class_text g) ∷ [])
class_at g c fs e n k =
    let l = count_values Mcl (field Mcl c ∷ fs) in
    let t : values_in Mcl fs ≡ [] = nil_from_length _ (omega arith) in
    let v : value_of OfClass c ≡ Some (AText c) = class_known c (list_any (λ g. bytes_eq (class_text g) c) forms) (and_parts _ _ k).0 in
    λ i. (v ∙ ap (λ (x : List ℕ). Some (AText x)) (sym e)) i ∷ t i

-- MCL names the class of the form
pub class_values : (g : Form) (f : Field) (fs : List Field) → f.tag ≡ Mcl → class_text g ≡ f.contents → count_tag Mcl (tags_in (f ∷ fs)) ≡ 1 → are_known (f ∷ fs) ≡ true → values_in Mcl (f ∷ fs) ≡ map Some (AText (class_text g) ∷ [])
class_values g f fs t e n k =
    let i : f ≡ field Mcl f.contents = λ j. field (t j) f.contents in
    subst (λ (x : Field). values_in Mcl (x ∷ fs) ≡ map Some (AText (class_text g) ∷ [])) (sym i)
    (class_at g f.contents fs e (subst (λ (x : Field). count_tag Mcl (tags_in (x ∷ fs)) ≡ 1) i n) (subst (λ (x : Field). are_known (x ∷ fs) ≡ true) i k))

-- spelled fields of which the last is split off
record LastOf (ss : List Spelled) (gs : List Field) (c : Field) : Type 0 where
  pub others : List Spelled
  pub last : Spelled
  pub text : ss ≡ others ++ last ∷ []
  pub fields : fields_in others ≡ gs
  pub field : last.field ≡ c

last_of : (ss : List Spelled) (gs : List Field) (c : Field) → fields_in ss ≡ gs ++ c ∷ [] → LastOf ss gs c
last_of [] [] c h = absurd cc
last_of [] (g ∷ gs) c h = absurd cc
last_of (s ∷ []) [] c h = record { others = []; last = s; text = refl; fields = refl; field = cc }
last_of (s ∷ t ∷ ss) [] c h = absurd cc
last_of (s ∷ ss) (g ∷ gs) c h =
    let more = last_of ss gs c cc in
    let e : s.field ≡ g = cc in
    record { others = s ∷ more.others; last = more.last; text = ap (λ (xs : List Spelled). s ∷ xs) more.text; fields = λ i. e i ∷ more.fields i; field = more.field }

pub spells_from : (b front rest : List ℕ) (ss : List Spelled) (l : Spelled) (m : Message) (shut : Shut) (others : List Tag) (n : ℕ) → AreSeparators front → AreParted (ss ++ l ∷ [])
    → b ≡ codes "CSM(" ++ (front ++ (flat_map spelled_text (ss ++ l ∷ []) ++ 41 ∷ rest)) → length front + length (flat_map spelled_text (ss ++ l ∷ [])) + 5 ≤ 1024
    → n ≡ length front + length (flat_map spelled_text (ss ++ l ∷ [])) + 5 → tags_in (fields_in ss) ≡ Mcl ∷ others → l.field.tag ≡ (shut_field shut).tag
    → AreOfForm (form_of m) (fields_in (ss ++ l ∷ [])) → StandFor (fields_in (ss ++ l ∷ [])) m shut
    → IsRead b (record { message = m; shut = shut; auth_len = 4 + (length front + length (flat_map spelled_text ss)); len = n })
spells_from b front rest ss l m shut others n seps parted text short len class code form stands =
    let fs = flat_map spelled_text (ss ++ l ∷ []) in
    let whole = codes "CSM(" ++ (front ++ (fs ++ codes ")")) in
    let t : b ≡ whole ++ rest = text ∙ ap (λ (x : List ℕ). codes "CSM(" ++ x) (ap (λ (x : List ℕ). front ++ x) (sym (append_assoc fs (codes ")") rest)) ∙ sym (append_assoc front (fs ++ codes ")") rest)) in
    let a = length-append front (fs ++ codes ")") in
    let c = length-append fs (codes ")") in
    let k : length whole ≡ n = omega arith in
    let e : take n b ≡ whole = ap (take n) t ∙ take_at whole rest n k in
    let d = ap length t ∙ length-append whole rest in
    record {
      within = omega arith;
      spelled = record {
        front = front;
        fields = ss;
        last = l;
        text = e;
        short = subst (λ (x : List ℕ). length x ≤ 1024) (sym e) (let z : length whole ≤ 1024 = omega arith in z);
        separators = seps;
        parted = parted;
        others = others;
        class_first = class;
        code_last = code;
        form = form;
        values = stands;
        auth = refl;
      };
    }

-- a message that the fields of a text without a fault stand for is read
pub record ReadOf (b : List ℕ) (m : Message) (shut : Shut) : Type 0 where
  pub auth_len : ℕ
  pub len : ℕ
  pub read : IsRead b (record { message = m; shut = shut; auth_len = auth_len; len = len })

pub read_of : (b : List ℕ) (x : Faultless b) (m : Message) (shut : Shut) → AreOfForm (form_of m) (fields_in x.spelled) → StandFor (fields_in x.spelled) m shut → ReadOf b m shut
read_of b x m shut form stands =
    let w = whole_form (fields_in x.spelled) x.pass x.closes in
    let l = last_of x.spelled (w.first ∷ w.rest) w.code w.text in
    let e = l.text in
    let here : 1 ≤ count_tag w.code.tag (tags_in (fields_in x.spelled)) =
    let a = ap (λ (fs : List Field). count_tag w.code.tag (tags_in fs)) w.text ∙ count_fields w.code.tag (w.first ∷ w.rest) (w.code ∷ []) in
    let b : 1 ≤ count_tag w.code.tag (w.code.tag ∷ []) = present_count w.code.tag (w.code.tag ∷ []) (rw (same_itself w.code.tag) refl) in
    omega arith in
    record {
      auth_len = 4 + (length x.front + length (flat_map spelled_text l.others));
      len = length x.front + length (flat_map spelled_text (l.others ++ l.last ∷ [])) + 5;
      read = spells_from b x.front x.rest l.others l.last m shut (tags_in w.rest) _ x.separators (subst AreParted e x.parted)
          (subst (λ (ss : List Spelled). b ≡ codes "CSM(" ++ (x.front ++ (flat_map spelled_text ss ++ 41 ∷ x.rest))) e x.text)
          (subst (λ (ss : List Spelled). length x.front + length (flat_map spelled_text ss) + 5 ≤ 1024) e x.short) refl
          (ap tags_in l.fields ∙ ap (λ (t : Tag). t ∷ tags_in w.rest) w.class_first)
          (ap (λ (f : Field). f.tag) l.field ∙ code_tag w.code.tag (fields_in x.spelled) m shut stands w.closes here)
          (subst (λ (ss : List Spelled). AreOfForm (form_of m) (fields_in ss)) e form)
          (subst (λ (ss : List Spelled). StandFor (fields_in ss) m shut) e stands);
    }

-- the message of the fields of a text without a fault
pub message_of : (b : List ℕ) (x : Faultless b) → (w : IsWholeForm (fields_in x.spelled)) × Made w.form (fields_in x.spelled)
message_of b x =
    let fs = fields_in x.spelled in
    let w = whole_form fs x.pass x.closes in
    let k = passing_known [] fs x.pass in
    let t : fs ≡ w.first ∷ (w.rest ++ w.code ∷ []) = w.text in
    let c = class_values w.form w.first (w.rest ++ w.code ∷ []) w.class_first w.class (subst (λ (gs : List Field). count_tag Mcl (tags_in gs) ≡ 1) t (mcl_count w.form fs w.tags)) (subst (λ (gs : List Field). are_known gs ≡ true) t k) in
    (w, made w.form fs k w.tags (ap (values_in Mcl) t ∙ c) (subst OneCode (sym w.text) (one_code (w.first ∷ w.rest) w.code w.closes w.unclosed)))

-- a text without a fault begins with the spelling of a message
pub found : (b : List ℕ) → fault_of_text b ≡ None → (p : Parsed) × IsRead b p
found b h =
    let x = faultless b h in
    let m = message_of b x in
    let r = read_of b x m.1.message m.1.shut (subst (λ (g : Form). AreOfForm g (fields_in x.spelled)) (sym m.1.form_is) m.0.tags) m.1.stands in
    (_, r.read)
