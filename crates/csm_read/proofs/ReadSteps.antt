-- The steps of reading.
use Rattle.std.proofs.Common.{◌≡◌, ◌≢◌, ℕ, ◌+◌, ◌<◌, ◌≤◌, true, false, List, [], ◌∷◌, ◌++◌, length, get_or, take, drop, Option, Some, None, Result, Ok, Err, refl, sym, ◌∙◌, ap, subst, add-one, arith, inl, inr}
use Rattle.std.specs.Prelude.{◌⊎◌, ◌==◌, codes, option_to_list}
use Rattle.std.specs.Borrow.{Bor}
use Rattle.std.proofs.Math.Seq.{drop-cons}
use Rattle.std.proofs.lemmas.Bool.{eqb-true, not-false, or_cases}
use Rattle.std.proofs.lemmas.List.{length-take, length-drop, drop-drop, get_or-drop, nil_from_length}
use Rattle.csm_grammar.specs.declared.parsed.Parsed.{Parsed}
use Rattle.csm_grammar.specs.declared.refusal.ReadRefusal.{ReadRefusal}
use Rattle.csm_grammar.specs.declared.refusal.ReadRefusal.TheVariants as refusal
use Rattle.csm_grammar.specs.declared.tag.Tag.TheVariants.{Mac, Edc}
use Rattle.csm_grammar.specs.Tags.{count_tag}
use Rattle.csm_grammar.specs.Spelling.{Field, tags_in, is_separator}
use Rattle.csm_read.specs.Units.{Standing, stretches, end_place, put, units, stretches_of, units_of}
use Rattle.csm_read.specs.Faults.{differs, front_fault, field_of, fault_of, fields_from, first_fault, endless_fault, fault_of_text}
use Rattle.csm_read.specs.Judging.{is_plain, stretches_from, Judged, IsNext, last_place}
use Rattle.csm_grammar.specs.Reading.{IsRead}
use Rattle.csm_read.specs.Faults.{IsFault}
use Rattle.csm_read.specs.Answers.{Found, Only, Faulted, Faults}
use Rattle.csm_read.specs.Slotting.{Keeps}
use Rattle.csm_read.specs.Scanning.{IsUnit, RunsOut}
use Rattle.csm_read.specs.Building.{AreClosed, AreSound, Ends, IsAnswer, IsReading}
use Rattle.csm_read.proofs.Stretching.{stretch, standing, stretch_separator, unit_empty, separator_end}
use Rattle.csm_read.proofs.Tokens.{put_filled, no_units}
use Rattle.csm_read.proofs.FieldLemmas.{is_field}
use Rattle.csm_read.proofs.Passing.{no_fault}
use Rattle.csm_read.proofs.Making.{OneCode, by_mac, by_edc}
use Rattle.csm_read.proofs.Choosing.{IsReady, ready}
use Rattle.csm_read.proofs.Judging.{begin, token_refused, token_judged, field_judged, AtEnd, at_end, unclosed_refused, message_read}
use Rattle.csm_read.proofs.Kept.{kept}
use Rattle.csm_read.proofs.Sole.{sole}

cons_at : (s : List ℕ) (i : ℕ) → i < length s → drop i s ≡ get_or s i 0 ∷ drop (i + 1) s
cons_at s i h = rw (add-one, drop-cons s i 0) refl

-- a unit is the next token
last_more : (us : List Standing) (u : Standing) → last_place (us ++ u ∷ []) ≡ u.place
last_more [] u = refl
last_more (v ∷ []) u = refl
last_more (v ∷ w ∷ us) u = last_more (w ∷ us) u

pub unit_next : (b : List ℕ) (place n : ℕ) (text : List ℕ) → IsUnit (drop place (take 1024 b)) n → 0 < n → text ≡ take n (drop place (take 1024 b)) → IsNext b place (standing place text) (place + n)
unit_next b place n text u h e =
    let w = drop place (take 1024 b) in
    let inside = u.within in
    let size : length text ≡ n = ap length e ∙ (let k = length-take n w in omega arith) in
    let filled : text ≢ [] = λ i. (let z : length text ≡ 0 = ap length i in omega (arith, z, size, h)) in
    let behind : drop n w ≡ drop (place + n) (take 1024 b) = drop-drop n place (take 1024 b) in
    record {
      units_are = u.first place ∙ ap (λ (t : List ℕ). put (stretch place t (get_or w n 0)) (units (stretches (place + n) (drop n w)))) (sym e) ∙ put_filled place (get_or w n 0) text _ filled ∙ ap (λ (x : List ℕ). standing place text ∷ units (stretches (place + n) x)) behind;
      shut = u.shut place ∙ ap (λ (x : List ℕ). end_place (stretches (place + n) x)) behind;
    }

pub token_fault : (b : List ℕ) (place last n : ℕ) (text : List ℕ) (slots : List (Option (Bor (List ℕ)))) (left : ℕ) (r : ReadRefusal) (i : IsReading b place last slots left) → IsNext b place (standing place text) (place + n) → fault_of (fields_from i.done) (standing place text) ≡ Some r → IsFault b r
token_fault b place last n text slots left r i x h = token_refused b place i.done (standing place text) (place + n) r i.judged x h

pub token_taken : (b : List ℕ) (place last n : ℕ) (text : List ℕ) (slots more : List (Option (Bor (List ℕ)))) (left after : ℕ) (i : IsReading b place last slots left) → IsNext b place (standing place text) (place + n) → place + n ≤ length (take 1024 b)
    → fault_of (fields_from i.done) (standing place text) ≡ None → Keeps more after (fields_from i.done ++ option_to_list (field_of (standing place text))) → IsReading b (place + n) place more after
token_taken b place last n text slots more left after i x w h k =
    let u = standing place text in
    let f = is_field (fields_from i.done) u h in
    record {
      done = i.done ++ u ∷ [];
      judged = token_judged b place i.done u (place + n) i.judged x h;
      keeps = subst (Keeps more after) (ap (λ (o : Option Field). fields_from i.done ++ option_to_list o) f.1.written ∙ sym (field_judged i.done u f.0 f.1.written)) k;
      last_is = sym (last_more i.done u);
      within = w;
    }

-- a separator in front changes nothing
gap_judged : (b : List ℕ) (place : ℕ) (done : List Standing) → Judged b place done → place < length (take 1024 b) → is_separator (get_or (take 1024 b) place 0) ≡ true → Judged b (place + 1) done
gap_judged b place done j h s =
    let w = take 1024 b in
    let e = cons_at w place h in
    let k : stretches place (drop place w) ≡ stretch place [] (get_or w place 0) ∷ stretches (place + 1) (drop (place + 1) w) = ap (stretches place) e ∙ stretch_separator place (get_or w place 0) (drop (place + 1) w) s in
    let us : units (stretches_from place b) ≡ units (stretches_from (place + 1) b) = ap units k ∙ unit_empty place (get_or w place 0) (stretches (place + 1) (drop (place + 1) w)) in
    record {
      front = j.front;
      are = j.are ∙ ap (λ (x : List Standing). done ++ x) us;
      faults = j.faults ∙ ap (first_fault (fields_from done)) us;
      shut = j.shut ∙ ap end_place k ∙ rw (separator_end (get_or w place 0) s) refl;
    }

ended_by : (e : ℕ) → is_plain e ≡ false → (e ≡ 41 → ⊥) → is_separator e ≡ true
ended_by e h n = elim (or_cases (e == 41) (is_separator e) (not-false _ h)) [
  | inl i ↦ absurd (n (eqb-true e 41 i))
  | inr i ↦ i
]

pub gap_taken : (b : List ℕ) (place last : ℕ) (slots : List (Option (Bor (List ℕ)))) (left : ℕ) → IsReading b place last slots left → place < length (take 1024 b) → is_plain (get_or (take 1024 b) place 0) ≡ false → (get_or (take 1024 b) place 0 ≡ 41 → ⊥) → IsReading b (place + 1) last slots left
gap_taken b place last slots left i h p n = record {
  done = i.done;
  judged = gap_judged b place i.done i.judged h (ended_by (get_or (take 1024 b) place 0) p n);
  keeps = i.keeps;
  last_is = i.last_is;
  within = omega arith;
}

pub end_here : (b : List ℕ) (place : ℕ) (done : List Standing) → Judged b place done → place < length (take 1024 b) → get_or (take 1024 b) place 0 ≡ 41 → AtEnd b done place
end_here b place done j h e =
    let w = take 1024 b in
    let a = at_end b place done [] (drop (place + 1) w) j (cons_at w place h ∙ ap (λ (x : ℕ). x ∷ drop (place + 1) w) e) refl in
    let z : place + 0 ≡ place = omega arith in
    subst (AtEnd b done) z a

code_cases : (fs : List Field) → OneCode fs → ((count_tag Mac (tags_in fs) ≡ 1) × (count_tag Edc (tags_in fs) ≡ 0)) ⊎ ((count_tag Mac (tags_in fs) ≡ 0) × (count_tag Edc (tags_in fs) ≡ 1))
code_cases fs (by_mac m e) = inl (m, e)
code_cases fs (by_edc m e) = inr (m, e)

closed_fields : (fs : List Field) → IsReady fs → AreClosed fs
closed_fields fs r = record { form = r.form; left = r.left; tags = r.tags; known = r.known; class = r.class; code = code_cases fs r.code }

pub sound_here : (b : List ℕ) (place last : ℕ) (slots : List (Option (Bor (List ℕ)))) (left : ℕ) (i : IsReading b place last slots left) → place < length (take 1024 b) → get_or (take 1024 b) place 0 ≡ 41 → AreSound slots left (fields_from i.done)
sound_here b place last slots left i h e = record {
  keeps = i.keeps;
  closed = λ c. closed_fields (fields_from i.done) (ready b i.done place (end_here b place i.done i.judged h e) (rw c refl));
}

pub end_answer : (b : List ℕ) (place last : ℕ) (slots : List (Option (Bor (List ℕ)))) (left : ℕ) (i : IsReading b place last slots left) (r : Result Parsed ReadRefusal) → place < length (take 1024 b) → get_or (take 1024 b) place 0 ≡ 41 → Ends (fields_from i.done) place last r → IsAnswer b r
end_answer b place last slots left i (Ok p) h e k =
    let m = message_read b i.done place p.message p.shut (end_here b place i.done i.judged h e) k.faultless k.form k.stands in
    let auth : last_place i.done ≡ p.auth_len = sym i.last_is ∙ sym k.auth_len in
    subst (λ (n : ℕ). IsRead b (record { message = p.message; shut = p.shut; auth_len = p.auth_len; len = n })) (sym k.len)
    (subst (λ (n : ℕ). IsRead b (record { message = p.message; shut = p.shut; auth_len = n; len = place + 1 })) auth m)
end_answer b place last slots left i (Err r) h e (inl k) = inl (unclosed_refused b i.done place r (end_here b place i.done i.judged h e) k)
end_answer b place last slots left i (Err r) h e (inr k) = inr k

-- nothing is ended from a place on
endless_from : (b : List ℕ) (place : ℕ) (done : List Standing) → Judged b place done → units (stretches_from place b) ≡ [] → end_place (stretches_from place b) ≡ None → IsFault b (endless_fault (length b))
unfolding fault_of_text
endless_from b place done j u s =
    let tokens : first_fault [] (units_of b) ≡ None = j.faults ∙ ap (first_fault (fields_from done)) u ∙ no_fault (fields_from done) in
    let none : end_place (stretches_of b) ≡ None = j.shut ∙ s in
    rw (j.front, tokens, none) refl

pub endless_answer : (b : List ℕ) (place last : ℕ) (slots : List (Option (Bor (List ℕ)))) (left : ℕ) (i : IsReading b place last slots left) → RunsOut (drop place (take 1024 b)) → IsFault b (endless_fault (length b))
endless_answer b place last slots left i r = endless_from b place i.done i.judged (r.none place) (r.open_ place)

no_stretches : stretches 4 [] ≡ []
unfolding stretches
no_stretches = refl

pub short_answer : (b : List ℕ) → front_fault b ≡ None → length (take 1024 b) < 4 → IsFault b (endless_fault (length b))
short_answer b h k =
    let e : drop 4 (take 1024 b) ≡ [] = nil_from_length _ (let z = length-drop 4 (take 1024 b) in omega arith) in
    let s : stretches_from 4 b ≡ [] = ap (stretches 4) e ∙ no_stretches in
    endless_from b 4 [] (begin b h) (ap units s ∙ no_units) (ap end_place s)

-- the clauses of reading
pub found_clause : (b : List ℕ) (r : Result Parsed ReadRefusal) → IsAnswer b r → Found b r
found_clause b (Ok p) h = h
found_clause b (Err r) h = tt

pub only_clause : (b : List ℕ) (r : Result Parsed ReadRefusal) → IsAnswer b r → Only b r
only_clause b (Ok q) h = λ p i. inl (ap (λ (x : Parsed). Ok x) (sole b q p h i))
only_clause b (Err r) (inl h) = λ p i. absurd (let z : None ≡ Some r = sym (kept b p i).faultless ∙ h in cc)
only_clause b (Err r) (inr h) = λ p i. inr (ap (λ (x : ReadRefusal). Err x) h)

pub faulted_clause : (b : List ℕ) (r : Result Parsed ReadRefusal) → IsAnswer b r → Faulted b r
faulted_clause b (Ok q) h = λ s e. absurd cc
faulted_clause b (Err r) (inl h) = λ s e. inl (let z : r ≡ s = cc in subst (IsFault b) z h)
faulted_clause b (Err r) (inr h) = λ s e. inr (let z : s ≡ r = cc in z ∙ h)

pub faults_clause : (b : List ℕ) (r : Result Parsed ReadRefusal) → IsAnswer b r → Faults b r
faults_clause b (Ok q) h = λ s f. absurd (let z : None ≡ Some s = sym (kept b q h).faultless ∙ f in cc)
faults_clause b (Err r) (inl h) = λ s f. inl (let z : Some r ≡ Some s = sym h ∙ f in cc)
faults_clause b (Err r) (inr h) = λ s f. inr (ap (λ (x : ReadRefusal). Err x) h)

pub differs_done : (i : ℕ) (xs : List ℕ) → differs i xs [] ≡ None
differs_done i [] = refl
differs_done i (x ∷ xs) = refl

pub front_done : (b : List ℕ) (i : ℕ) → 4 ≤ i → front_fault b ≡ differs i (drop i b) (drop i (codes "CSM(")) → front_fault b ≡ None
front_done b i h e = e ∙ ap (differs i (drop i b)) (nil_from_length (drop i (codes "CSM(")) (let k = length-drop i (codes "CSM(") in omega arith)) ∙ differs_done i (drop i b)

pub unit_there : (b w x : List ℕ) (place n : ℕ) → w ≡ take 1024 b → x ≡ drop place w → IsUnit x n → IsUnit (drop place (take 1024 b)) n
unit_there b w x place n e h u = subst (λ (y : List ℕ). IsUnit y n) (h ∙ ap (drop place) e) u

pub record IsGap (b : List ℕ) (place : ℕ) : Type 0 where
  pub within : place < length (take 1024 b)
  pub ended : is_plain (get_or (take 1024 b) place 0) ≡ false

pub gap_here : (b : List ℕ) (place n : ℕ) → IsUnit (drop place (take 1024 b)) n → n ≤ 0 → IsGap b place
gap_here b place n u h =
    let inside = u.within in
    let k : place + n ≡ place = omega arith in
    record {
      within = omega (arith, inside, length-drop place (take 1024 b));
      ended = ap is_plain (sym (get_or-drop place (take 1024 b) n 0 ∙ ap (λ (i : ℕ). get_or (take 1024 b) i 0) k)) ∙ u.ended;
    }

pub unit_end : (b : List ℕ) (place n : ℕ) → IsUnit (drop place (take 1024 b)) n → place + n ≤ length (take 1024 b)
unit_end b place n u = let inside = u.within in omega (arith, inside, length-drop place (take 1024 b))

-- where bytes are refused, a message that stands in front was left for want of memory
pub refused_only : (b : List ℕ) (o : Result Parsed ReadRefusal) (r : ReadRefusal) → IsAnswer b o → o ≡ Err r → (p : Parsed) → IsRead b p → r ≡ refusal.NoMemory
refused_only b o r h e p i = go (only_clause b o h p i)
  where
    go : (o ≡ Ok p) ⊎ (o ≡ Err refusal.NoMemory) → r ≡ refusal.NoMemory
    go (inl f) = absurd (cc)
    go (inr f) = cc

-- where a message is read, the bytes have no fault
pub read_faultless : (b : List ℕ) (o : Result Parsed ReadRefusal) (p : Parsed) → IsAnswer b o → o ≡ Ok p → (r : ReadRefusal) → IsFault b r → ⊥
read_faultless b o p h e r f = go (faults_clause b o h r f)
  where
    go : (o ≡ Err r) ⊎ (o ≡ Err refusal.NoMemory) → ⊥
    go (inl g) = cc
    go (inr g) = cc
