-- A text without a fault begins with a spelling.
use Rattle.std.proofs.Common.{◌≡◌, ◌≢◌, ℕ, ◌+◌, ◌≤◌, Bool, true, false, cond, List, [], ◌∷◌, ◌++◌, length, take, drop, map, Option, Some, None, refl, sym, ◌∙◌, ap, subst, append_assoc, arith, length-append}
use Rattle.std.specs.Prelude.{◌==◌, not, codes}
use Rattle.std.specs.List.{list_any, flat_map}
use Rattle.std.proofs.lemmas.Bool.{eqb-true, not-false}
use Rattle.std.proofs.lemmas.List.{take-append-drop, length-take, drop-take}
use Rattle.csm_grammar.specs.declared.refusal.ReadRefusal.{ReadRefusal}
use Rattle.csm_grammar.specs.Tags.{is_closing}
use Rattle.csm_grammar.specs.Spelling.{AreSeparators, Field, field_text, Spelled, spelled_text, fields_in, tags_in, AreParted}
use Rattle.csm_read.specs.Units.{stretches, end_place, units, stretches_of, units_of}
use Rattle.csm_read.specs.Faults.{front_fault, fields_from, first_fault, end_fault, fault_of_text}
use Rattle.csm_read.proofs.Stretching.{gap_units, gap_end}
use Rattle.csm_read.proofs.Tokens.{Spread, spread_text, AreSpread, standings, spread_units}
use Rattle.csm_read.proofs.Grouping.{end_from_place, ended, grouped}
use Rattle.csm_read.proofs.FieldLemmas.{refuse_none}
use Rattle.csm_read.proofs.Passing.{or_else_none, AllPass, passed}

abbrev pub spread_of : Spelled → Spread
spread_of s = record { token = field_text s.field; gap = s.gap }

pub spread_same : (ss : List Spelled) → flat_map spread_text (map spread_of ss) ≡ flat_map spelled_text ss
spread_same [] = refl
spread_same (s ∷ ss) = ap (λ (xs : List ℕ). spelled_text s ++ xs) (spread_same ss)

pub spread_parted : (ss : List Spelled) → AreSpread (map spread_of ss) → AreParted ss
spread_parted [] h = tt
spread_parted (s ∷ []) h = h.1
spread_parted (s ∷ t ∷ ss) h = (h.1, h.2, spread_parted (t ∷ ss) h.3)

-- tokens that are texts of fields, with their gaps
record OfFields (spreads : List Spread) (fs : List Field) : Type 0 where
  pub spelled : List Spelled
  pub fields : fields_in spelled ≡ fs
  pub spread : map spread_of spelled ≡ spreads

of_fields : (spreads : List Spread) (fs : List Field) → map (λ s. s.token) spreads ≡ map field_text fs → OfFields spreads fs
of_fields [] [] h = record { spelled = []; fields = refl; spread = refl }
of_fields [] (f ∷ fs) h = absurd cc
of_fields (s ∷ ss) [] h = absurd cc
of_fields (s ∷ ss) (f ∷ fs) h =
    let e : s.token ≡ field_text f = cc in
    let more = of_fields ss fs cc in
    let t : Spelled = record { field = f; gap = s.gap } in
    record {
      spelled = t ∷ more.spelled;
      fields = ap (λ (xs : List Field). f ∷ xs) more.fields;
      spread = λ i. (let u : Spread = record { token = sym e i; gap = s.gap } in u) ∷ more.spread i;
    }

texts_standing : (p : ℕ) (ss : List Spread) → map (λ u. u.text) (standings p ss) ≡ map (λ s. s.token) ss
texts_standing p [] = refl
texts_standing p (s ∷ ss) = ap (λ (xs : List (List ℕ)). s.token ∷ xs) (texts_standing (p + length (spread_text s)) ss)

front_step : (b : Bool) (o : Option ReadRefusal) (r : ReadRefusal) → cond b o (Some r) ≡ None → (b ≡ true) × (o ≡ None)
front_step true o r h = (refl, h)
front_step false o r h = absurd cc

-- bytes without a fault in front, of which some follow the first four
pub front_is : (b : List ℕ) → front_fault b ≡ None → drop 4 b ≢ [] → b ≡ codes "CSM(" ++ drop 4 b
front_is [] h n = absurd cc
front_is (c ∷ []) h n = absurd (n refl)
front_is (c ∷ d ∷ []) h n = absurd (n refl)
front_is (c ∷ d ∷ e ∷ []) h n = absurd (n refl)
front_is (c ∷ d ∷ e ∷ f ∷ xs) h n =
    let i = front_step (c == 67) _ _ h in
    let j = front_step (d == 83) _ _ i.1 in
    let k = front_step (e == 77) _ _ j.1 in
    let l = front_step (f == 40) _ _ k.1 in
    λ x. eqb-true c 67 i.0 x ∷ eqb-true d 83 j.0 x ∷ eqb-true e 77 k.0 x ∷ eqb-true f 40 l.0 x ∷ xs

-- what a text without a fault is made of
pub record Faultless (b : List ℕ) : Type 0 where
  pub front : List ℕ
  pub spelled : List Spelled
  pub rest : List ℕ
  pub separators : AreSeparators front
  pub parted : AreParted spelled
  pub fields : fields_in spelled ≡ fields_from (units_of b)
  pub pass : AllPass [] (fields_in spelled)
  pub closes : list_any is_closing (tags_in (fields_in spelled)) ≡ true
  pub text : b ≡ codes "CSM(" ++ (front ++ (flat_map spelled_text spelled ++ 41 ∷ rest))
  pub short : length front + length (flat_map spelled_text spelled) + 5 ≤ 1024
  pub place : end_place (stretches_of b) ≡ Some (4 + length front + length (flat_map spelled_text spelled))
  pub units : units_of b ≡ standings (4 + length front) (map spread_of spelled)

-- the three tests of a text
pub record Tests (b : List ℕ) : Type 0 where
  pub front : front_fault b ≡ None
  pub tokens : first_fault [] (units_of b) ≡ None
  pub end : end_fault (end_place (stretches_of b)) (fields_from (units_of b)) (length b) ≡ None

pub tests : (b : List ℕ) → fault_of_text b ≡ None → Tests b
unfolding fault_of_text
tests b h =
    let k = or_else_none (front_fault b) _ h in
    let l = or_else_none (first_fault [] (units_of b)) _ k.1 in
    record { front = k.0; tokens = l.0; end = l.1 }

pub untested : (b : List ℕ) → Tests b → fault_of_text b ≡ None
unfolding fault_of_text
untested b t = rw (t.front, t.tokens, t.end) refl

pub record IsEnded (place : Option ℕ) (fs : List Field) : Type 0 where
  pub at : ℕ
  pub here : place ≡ Some at
  pub closes : list_any is_closing (tags_in fs) ≡ true

pub is_ended : (place : Option ℕ) (fs : List Field) (n : ℕ) → end_fault place fs n ≡ None → IsEnded place fs
is_ended None fs n h = absurd cc
is_ended (Some at) fs n h = record { at = at; here = refl; closes = not-false _ (refuse_none (not (list_any is_closing (tags_in fs))) _ None h).0 }

some_follow : (b : List ℕ) (at : ℕ) → end_place (stretches 4 (drop 4 (take 1024 b))) ≡ Some at → drop 4 b ≢ []
unfolding stretches
some_follow b at h e =
    let w : drop 4 (take 1024 b) ≡ [] = drop-take 4 1020 b ∙ ap (take 1020) e in
    let n : end_place (stretches 4 []) ≡ Some at = subst (λ (x : List ℕ). end_place (stretches 4 x) ≡ Some at) w h in
    cc

assemble : (b front rest : List ℕ) (ss : List Spelled) → b ≡ codes "CSM(" ++ drop 4 b → take 1020 (drop 4 b) ≡ front ++ (flat_map spelled_text ss ++ 41 ∷ rest)
    → b ≡ codes "CSM(" ++ (front ++ (flat_map spelled_text ss ++ 41 ∷ (rest ++ drop 1020 (drop 4 b))))
assemble b front rest ss h t =
    let xs = drop 4 b in
    let fs = flat_map spelled_text ss in
    h ∙ ap (λ (y : List ℕ). codes "CSM(" ++ y) (sym (take-append-drop 1020 xs) ∙ ap (λ (y : List ℕ). y ++ drop 1020 xs) t
    ∙ append_assoc front (fs ++ 41 ∷ rest) (drop 1020 xs) ∙ ap (λ (y : List ℕ). front ++ y) (append_assoc fs (41 ∷ rest) (drop 1020 xs)))

short_text : (front fs rest xs : List ℕ) → take 1020 xs ≡ front ++ (fs ++ 41 ∷ rest) → length front + length fs + 5 ≤ 1024
short_text front fs rest xs h =
    let a = length-take 1020 xs in
    let b = length-append front (fs ++ 41 ∷ rest) in
    let c = length-append fs (41 ∷ rest) in
    let d = ap length h in
    omega arith

pub faultless : (b : List ℕ) → fault_of_text b ≡ None → Faultless b
faultless b h =
    let t = tests b h in
    let p = passed [] (units_of b) t.tokens in
    let e = is_ended (end_place (stretches_of b)) (fields_from (units_of b)) (length b) t.end in
    let s = ended 4 (drop 4 (take 1024 b)) (end_from_place (stretches_of b) e.at e.here) in
    let g = grouped (stretches_of b) s.shut p.half in
    let fs = flat_map spread_text g.spreads in
    let w : drop 4 (take 1024 b) ≡ g.front ++ (fs ++ 41 ∷ s.rest) =
    s.text ∙ ap (λ (x : List ℕ). x ++ s.rest) g.text ∙ append_assoc g.front (fs ++ 41 ∷ []) s.rest ∙ ap (λ (x : List ℕ). g.front ++ x) (append_assoc fs (41 ∷ []) s.rest) in
    let k = spread_units (4 + length g.front) g.spreads s.rest g.spread in
    let us = ap (λ (x : List ℕ). units (stretches 4 x)) w ∙ gap_units 4 g.front (fs ++ 41 ∷ s.rest) g.separators ∙ k.0 in
    let at = ap (λ (x : List ℕ). end_place (stretches 4 x)) w ∙ gap_end 4 g.front (fs ++ 41 ∷ s.rest) g.separators ∙ k.1 in
    let o = of_fields g.spreads (fields_from (units_of b)) (sym (texts_standing (4 + length g.front) g.spreads) ∙ ap (map (λ u. u.text)) (sym us) ∙ p.texts) in
    let flat : fs ≡ flat_map spelled_text o.spelled = ap (flat_map spread_text) (sym o.spread) ∙ spread_same o.spelled in
    let x : take 1020 (drop 4 b) ≡ g.front ++ (flat_map spelled_text o.spelled ++ 41 ∷ s.rest) =
    sym (drop-take 4 1020 b) ∙ w ∙ ap (λ (y : List ℕ). g.front ++ (y ++ 41 ∷ s.rest)) flat in
    record {
      front = g.front;
      spelled = o.spelled;
      rest = s.rest ++ drop 1020 (drop 4 b);
      separators = g.separators;
      parted = spread_parted o.spelled (subst AreSpread (sym o.spread) g.spread);
      fields = o.fields;
      pass = subst (AllPass []) (sym o.fields) p.pass;
      closes = subst (λ (fs : List Field). list_any is_closing (tags_in fs) ≡ true) (sym o.fields) e.closes;
      text = assemble b g.front s.rest o.spelled (front_is b t.front (some_follow b e.at e.here)) x;
      short = short_text g.front (flat_map spelled_text o.spelled) s.rest (drop 4 b) x;
      place = at ∙ ap (λ (y : List ℕ). Some (4 + length g.front + length y)) flat;
      units = us ∙ ap (standings (4 + length g.front)) (sym o.spread);
    }
