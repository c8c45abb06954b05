-- The laws of every text.
use Rattle.std.proofs.Common.{◌≡◌, ℕ, ◌+◌, ◌≤◌, true, List, [], ◌∷◌, ◌++◌, length, take, drop, Option, Some, None, refl, sym, ◌∙◌, ap, subst, append_assoc, arith, inl, inr, length-append}
use Rattle.std.specs.Prelude.{◌⊎◌, codes}
use Rattle.std.specs.List.{flat_map}
use Rattle.std.proofs.lemmas.Bool.{and_parts, and_from}
use Rattle.std.proofs.lemmas.List.{take_at, take-take, take-append-drop, length-take-le, map-append}
use Rattle.std.proofs.lemmas.List.Concat.{flat_map-append}
use Rattle.csm_grammar.specs.declared.message.Message.{Message}
use Rattle.csm_grammar.specs.declared.parsed.Shut.{Shut}
use Rattle.csm_grammar.specs.declared.refusal.ReadRefusal.{ReadRefusal}
use Rattle.csm_grammar.specs.Messages.{form_of}
use Rattle.csm_grammar.specs.Spelling.{Field, Spelled, spelled_text, fields_in, AreParted, StandFor, Spells, Says}
use Rattle.csm_read.specs.Units.{units_of}
use Rattle.csm_read.specs.Faults.{fields_from, fault_of_text}
use Rattle.csm_read.specs.Laws.{OneSpelling, OneFault, OneAnswer, OneMeaning, ReadSays}
use Rattle.csm_read.proofs.Making.{are_known}
use Rattle.csm_read.proofs.Proper.{IsProper}
use Rattle.csm_read.proofs.Found.{found}
use Rattle.csm_read.proofs.Kept.{kept, proper, units_spelled, standing_fields}
use Rattle.csm_read.proofs.Sole.{one_message, sole}

one_spelling : (b : List ℕ) → fault_of_text b ≡ None → OneSpelling b
one_spelling b h =
    let p = found b h in
    record { parsed = p.0; read = p.1; alone = λ q r. sole b q p.0 r p.1; faultless = λ r f. cc (h, f) }

one_fault : (b : List ℕ) (r : ReadRefusal) → fault_of_text b ≡ Some r → OneFault b
one_fault b r h = record {
  reason = r;
  fault = h;
  alone = λ s f. (let k : Some s ≡ Some r = sym f ∙ h in cc);
  unread = λ p i. (let k : None ≡ Some r = sym (kept b p i).faultless ∙ h in cc);
}

pub one_answer : OneAnswer
one_answer b = go (fault_of_text b) refl where
  go : (o : Option ReadRefusal) → fault_of_text b ≡ o → OneSpelling b ⊎ OneFault b
  go None h = inl (one_spelling b h)
  go (Some r) h = inr (one_fault b r h)

parted_front : (ss : List Spelled) (l : Spelled) → AreParted (ss ++ l ∷ []) → AreParted ss
parted_front [] l h = tt
parted_front (s ∷ []) l h = h.0
parted_front (s ∷ t ∷ ss) l h = (h.0, h.1, parted_front (t ∷ ss) l h.2)

known_front : (gs : List Field) (c : Field) → are_known (gs ++ c ∷ []) ≡ true → are_known gs ≡ true
known_front [] c h = refl
known_front (g ∷ gs) c h = let k = and_parts _ _ h in and_from _ _ k.0 (known_front gs c k.1)

-- what an authenticated text is made of
record Authentic (text : List ℕ) (m : Message) : Type 0 where
  pub shut : Shut
  pub gs : List Field
  pub code : Field
  pub proper : IsProper (form_of m) gs code
  pub stands : StandFor (gs ++ code ∷ []) m shut
  pub fields : fields_from (units_of (text ++ codes ")")) ≡ gs

authentic_text : (text rest front : List ℕ) (ss : List Spelled) (l : Spelled) → text ++ rest ≡ codes "CSM(" ++ (front ++ (flat_map spelled_text (ss ++ l ∷ []) ++ codes ")")) → length text ≡ 4 + (length front + length (flat_map spelled_text ss))
    → text ++ codes ")" ≡ codes "CSM(" ++ (front ++ (flat_map spelled_text ss ++ 41 ∷ []))
authentic_text text rest front ss l h n =
    let fs = flat_map spelled_text ss in
    let more = flat_map spelled_text (l ∷ []) ++ codes ")" in
    let P = codes "CSM(" ++ (front ++ fs) in
    let a = length-append front fs in
    let flat = flat_map-append spelled_text ss (l ∷ []) in
    let e : text ++ rest ≡ P ++ more =
    h ∙ ap (λ (x : List ℕ). codes "CSM(" ++ (front ++ (x ++ codes ")"))) flat ∙ ap (λ (x : List ℕ). codes "CSM(" ++ (front ++ x)) (append_assoc fs (flat_map spelled_text (l ∷ [])) (codes ")"))
    ∙ ap (λ (x : List ℕ). codes "CSM(" ++ x) (sym (append_assoc front fs more)) in
    let t : text ≡ P = sym (take_at text rest (length text) refl) ∙ ap (take (length text)) e ∙ take_at P more (length text) (omega arith) in
    ap (λ (x : List ℕ). x ++ codes ")") t ∙ ap (λ (x : List ℕ). codes "CSM(" ++ x) (append_assoc front fs (codes ")"))

authentic : (text rest : List ℕ) (m : Message) (shut : Shut) (a : ℕ) → Spells (text ++ rest) m shut a → a ≡ length text → Authentic text m
authentic text rest m shut a s n =
    let gs = fields_in s.fields in
    let p = proper m shut s.fields s.last s.others s.form s.values s.class_first s.code_last in
    let q = map-append (λ (y : Spelled). y.field) s.fields (s.last ∷ []) in
    let t = authentic_text text rest s.front s.fields s.last s.text (sym n ∙ s.auth) in
    let flat = flat_map-append spelled_text s.fields (s.last ∷ []) in
    let l0 = ap length flat in
    let l1 = length-append (flat_map spelled_text s.fields) (flat_map spelled_text (s.last ∷ [])) in
    let l2 = ap length s.text in
    let l3 = length-append s.front (flat_map spelled_text (s.fields ++ s.last ∷ []) ++ codes ")") in
    let l4 = length-append (flat_map spelled_text (s.fields ++ s.last ∷ [])) (codes ")") in
    let sh = s.short in
    let u = units_spelled (text ++ codes ")") s.front [] s.fields t (omega arith) s.separators (known_front gs s.last.field p.known) (parted_front s.fields s.last s.parted) in
    record { shut = shut; gs = gs; code = s.last.field; proper = p; stands = subst (λ (fs : List Field). StandFor fs m shut) q s.values; fields = ap fields_from u.units ∙ standing_fields (4 + length s.front) s.fields }

pub one_meaning : OneMeaning
one_meaning text m n s t =
    let x = authentic text s.rest m s.shut (length text) s.spelled refl in
    let y = authentic text t.rest n t.shut (length text) t.spelled refl in
    let e : y.gs ≡ x.gs = sym y.fields ∙ x.fields in
    one_message m n x.shut y.shut x.gs x.code y.code x.proper (subst (λ (gs : List Field). IsProper (form_of n) gs y.code) e y.proper) x.stands (subst (λ (gs : List Field). StandFor (gs ++ y.code ∷ []) n y.shut) e y.stands)

says_from : (x text : List ℕ) (m : Message) (shut : Shut) (a : ℕ) → Spells x m shut a → take a x ≡ text → a ≤ length x → Says text m
says_from x text m shut a s t l =
    let k : length text ≡ a = ap length (sym t) ∙ length-take-le a x l in
    let e : x ≡ text ++ drop a x = sym (take-append-drop a x) ∙ ap (λ (y : List ℕ). y ++ drop a x) t in
    record { shut = shut; rest = drop a x; spelled = subst (λ (n : ℕ). Spells (text ++ drop a x) m shut n) (sym k) (subst (λ (y : List ℕ). Spells y m shut a) e s) }

auth_within : (x : List ℕ) (m : Message) (shut : Shut) (a : ℕ) → Spells x m shut a → a ≤ length x
auth_within x m shut a s =
    let l0 = ap length (flat_map-append spelled_text s.fields (s.last ∷ [])) in
    let l1 = length-append (flat_map spelled_text s.fields) (flat_map spelled_text (s.last ∷ [])) in
    let l2 = ap length s.text in
    let l3 = length-append s.front (flat_map spelled_text (s.fields ++ s.last ∷ []) ++ codes ")") in
    let l4 = length-append (flat_map spelled_text (s.fields ++ s.last ∷ [])) (codes ")") in
    let l5 = s.auth in
    omega arith

pub read_says : ReadSays
read_says b p r =
    let l = auth_within (take p.len b) p.message p.shut p.auth_len r.spelled in
    let n = length-take-le p.len b r.within in
    says_from (take p.len b) (take p.auth_len b) p.message p.shut p.auth_len r.spelled (take-take p.auth_len p.len b (omega arith)) l
