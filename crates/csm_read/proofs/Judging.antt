-- The steps of judging a text.
use Rattle.std.proofs.Common.{◌≡◌, ℕ, ◌+◌, List, [], ◌∷◌, ◌++◌, length, take, drop, Option, Some, None, refl, sym, ◌∙◌, ap, subst, append_assoc, arith}
use Rattle.std.specs.Prelude.{option_to_list}
use Rattle.std.proofs.lemmas.List.{append-nil}
use Rattle.std.proofs.lemmas.List.Elements.{filter_map-append}
use Rattle.csm_grammar.specs.declared.message.Message.{Message}
use Rattle.csm_grammar.specs.declared.parsed.Shut.{Shut}
use Rattle.csm_grammar.specs.declared.refusal.ReadRefusal.{ReadRefusal}
use Rattle.csm_grammar.specs.Messages.{form_of}
use Rattle.csm_grammar.specs.Spelling.{AreSeparators, Field, AreOfForm, StandFor}
use Rattle.csm_read.specs.Units.{Standing, stretches, end_place, units, stretches_of, units_of}
use Rattle.csm_read.specs.Faults.{or_else, field_of, fault_of, fields_from, front_fault, first_fault, unclosed_fault, fault_of_text}
use Rattle.csm_read.specs.Judging.{stretches_from, Judged, IsNext, last_place}
use Rattle.csm_grammar.specs.Reading.{IsRead}
use Rattle.csm_read.proofs.Stretching.{stretch_closed, unit_empty, gap_units, gap_end}
use Rattle.csm_read.proofs.Tokens.{no_units}
use Rattle.csm_read.proofs.Passing.{no_fault, fault_more}
use Rattle.csm_read.proofs.Kept.{kept}
use Rattle.csm_read.proofs.Spelled.{faultless}
use Rattle.csm_read.proofs.Found.{read_of}

-- a fault in front is the text's
pub front_refused : (b : List ℕ) (r : ReadRefusal) → front_fault b ≡ Some r → fault_of_text b ≡ Some r
unfolding fault_of_text
front_refused b r h = rw h refl

pub begin : (b : List ℕ) → front_fault b ≡ None → Judged b 4 []
begin b h = record { front = h; are = refl; faults = refl; shut = refl }

-- the fault of the next token is the text's
pub token_refused : (b : List ℕ) (place : ℕ) (done : List Standing) (u : Standing) (after : ℕ) (r : ReadRefusal) → Judged b place done → IsNext b place u after → fault_of (fields_from done) u ≡ Some r → fault_of_text b ≡ Some r
unfolding fault_of_text
token_refused b place done u after r j n h =
    let k : first_fault [] (units_of b) ≡ Some r =
    j.faults ∙ ap (first_fault (fields_from done)) n.units_are ∙ fault_more (fields_from done) u (units (stretches_from after b))
    ∙ ap (λ (o : Option ReadRefusal). or_else o (first_fault (fields_from done ++ option_to_list (field_of u)) (units (stretches_from after b)))) h in
    rw (j.front, k) refl

fields_more : (done : List Standing) (u : Standing) → fields_from (done ++ u ∷ []) ≡ fields_from done ++ option_to_list (field_of u)
fields_more done u = filter_map-append field_of done (u ∷ []) ∙ ap (λ (fs : List Field). fields_from done ++ fs) (one (field_of u) refl) where
  one : (o : Option Field) → field_of u ≡ o → fields_from (u ∷ []) ≡ option_to_list (field_of u)
  one None e = rw e refl
  one (Some f) e = rw e refl

-- a token without a fault is judged
pub token_judged : (b : List ℕ) (place : ℕ) (done : List Standing) (u : Standing) (after : ℕ) → Judged b place done → IsNext b place u after → fault_of (fields_from done) u ≡ None → Judged b after (done ++ u ∷ [])
token_judged b place done u after j n h =
    let us = units (stretches_from after b) in
    record {
      front = j.front;
      are = j.are ∙ ap (λ (x : List Standing). done ++ x) n.units_are ∙ sym (append_assoc done (u ∷ []) us);
      faults = j.faults ∙ ap (first_fault (fields_from done)) n.units_are ∙ fault_more (fields_from done) u us
          ∙ ap (λ (o : Option ReadRefusal). or_else o (first_fault (fields_from done ++ option_to_list (field_of u)) us)) h ∙ ap (λ (fs : List Field). first_fault fs us) (sym (fields_more done u));
      shut = j.shut ∙ n.shut;
    }

-- and its field comes behind those before it
pub field_judged : (done : List Standing) (u : Standing) (f : Field) → field_of u ≡ Some f → fields_from (done ++ u ∷ []) ≡ fields_from done ++ f ∷ []
field_judged done u f h = fields_more done u ∙ ap (λ (o : Option Field). fields_from done ++ option_to_list o) h

-- the stretches from a place on, behind separators
behind_gap : (w gap rest : List ℕ) (place : ℕ) → drop place w ≡ gap ++ rest → AreSeparators gap
    → (units (stretches place (drop place w)) ≡ units (stretches (place + length gap) rest)) × (end_place (stretches place (drop place w)) ≡ end_place (stretches (place + length gap) rest))
behind_gap w gap rest place h s =
    (ap (λ (x : List ℕ). units (stretches place x)) h ∙ gap_units place gap rest s, ap (λ (x : List ℕ). end_place (stretches place x)) h ∙ gap_end place gap rest s)

-- where `)` stands
pub record AtEnd (b : List ℕ) (done : List Standing) (at : ℕ) : Type 0 where
  pub are : units_of b ≡ done
  pub place : end_place (stretches_of b) ≡ Some at
  pub tokens : first_fault [] (units_of b) ≡ None
  pub front : front_fault b ≡ None

pub at_end : (b : List ℕ) (place : ℕ) (done : List Standing) (gap rest : List ℕ) → Judged b place done → drop place (take 1024 b) ≡ gap ++ 41 ∷ rest → AreSeparators gap → AtEnd b done (place + length gap)
at_end b place done gap rest j h s =
    let q = place + length gap in
    let g = behind_gap (take 1024 b) gap (41 ∷ rest) place h s in
    let k = stretch_closed q rest in
    let us : units (stretches_from place b) ≡ [] = g.0 ∙ ap units k ∙ unit_empty q 41 [] ∙ no_units in
    record {
      are = j.are ∙ ap (λ (x : List Standing). done ++ x) us ∙ append-nil done;
      place = j.shut ∙ g.1 ∙ ap end_place k ∙ ap (λ (n : ℕ). Some n) (let l : q + 0 ≡ q = omega arith in l);
      tokens = j.faults ∙ ap (first_fault (fields_from done)) us ∙ no_fault (fields_from done);
      front = j.front;
    }

-- the fault of `)` is the text's
pub unclosed_refused : (b : List ℕ) (done : List Standing) (at : ℕ) (r : ReadRefusal) → AtEnd b done at → unclosed_fault (fields_from done) at ≡ Some r → fault_of_text b ≡ Some r
unfolding fault_of_text
unclosed_refused b done at r a h =
    let k : unclosed_fault (fields_from (units_of b)) at ≡ Some r = ap (λ (us : List Standing). unclosed_fault (fields_from us) at) a.are ∙ h in
    rw (a.front, a.tokens, a.place) k

pub closed_faultless : (b : List ℕ) (done : List Standing) (at : ℕ) → AtEnd b done at → unclosed_fault (fields_from done) at ≡ None → fault_of_text b ≡ None
unfolding fault_of_text
closed_faultless b done at a h =
    let k : unclosed_fault (fields_from (units_of b)) at ≡ None = ap (λ (us : List Standing). unclosed_fault (fields_from us) at) a.are ∙ h in
    rw (a.front, a.tokens, a.place) k

-- a message that the fields stand for is read
pub message_read : (b : List ℕ) (done : List Standing) (at : ℕ) (m : Message) (shut : Shut) → AtEnd b done at → unclosed_fault (fields_from done) at ≡ None → AreOfForm (form_of m) (fields_from done) → StandFor (fields_from done) m shut
    → IsRead b (record { message = m; shut = shut; auth_len = last_place done; len = at + 1 })
message_read b done at m shut a h form stands =
    let n = closed_faultless b done at a h in
    let x = faultless b n in
    let e = sym (ap fields_from a.are) ∙ sym x.fields in
    let r = read_of b x m shut (subst (AreOfForm (form_of m)) e form) (subst (λ (fs : List Field). StandFor fs m shut) e stands) in
    let k = kept b (record { message = m; shut = shut; auth_len = r.auth_len; len = r.len }) r.read in
    let place : k.at ≡ at = (let z : Some k.at ≡ Some at = sym k.place ∙ a.place in cc) in
    let len : r.len ≡ at + 1 = k.len ∙ ap (λ (n : ℕ). n + 1) place in
    let auth : r.auth_len ≡ last_place done = k.auth ∙ ap last_place a.are in
    subst (λ (n : ℕ). IsRead b (record { message = m; shut = shut; auth_len = last_place done; len = n })) len
    (subst (λ (n : ℕ). IsRead b (record { message = m; shut = shut; auth_len = n; len = r.len })) auth r.read)
