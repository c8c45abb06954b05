-- A text that goes on: its answer stays, unless it was only not ended.
use Rattle.std.proofs.Common.{◌≡◌, ◌≢◌, ℕ, ◌+◌, ◌≤◌, ◌<◌, Bool, true, false, cond, List, [], ◌∷◌, ◌++◌, length, take, drop, Option, Some, None, refl, sym, ◌∙◌, ap, subst, append_assoc, arith, inl, inr, length-append}
use Rattle.std.specs.Prelude.{◌⊎◌, ◌==◌, ◌&&◌, ◌||◌, option_to_list, codes}
use Rattle.std.proofs.lemmas.Bool.{lt-ltb, le-ltb, cases_lt, true≢false, false≢true}
use Rattle.std.proofs.lemmas.List.{take-append-drop, take-append-le, length-take, drop-append-le, drop_all, take_all}
use Rattle.csm_grammar.specs.declared.parsed.Parsed.{Parsed}
use Rattle.csm_grammar.specs.declared.refusal.ReadRefusal.{ReadRefusal}
use Rattle.csm_grammar.specs.declared.refusal.ReadRefusal.TheVariants as refusal
use Rattle.csm_grammar.specs.Values.{is_hex}
use Rattle.csm_grammar.specs.Spelling.{Field, is_separator, Spells}
use Rattle.csm_read.specs.Units.{Stretch, Standing, longer, stretches, end_place, waits, put, units, stretches_of, units_of}
use Rattle.csm_read.specs.Faults.{or_else, differs, front_fault, field_of, fault_of, fields_from, first_fault, unclosed_fault, endless_fault, end_fault, fault_of_text}
use Rattle.csm_grammar.specs.Reading.{IsRead}
use Rattle.csm_read.specs.Judging.{ArePlain}
use Rattle.csm_read.specs.Laws.{FaultStays, UnendedStays}
use Rattle.csm_read.proofs.Stretching.{stretch, stretch_none, unit_not_waiting}
use Rattle.csm_read.proofs.Tokens.{no_units}
use Rattle.csm_read.proofs.Grouping.{is_close, units_two}
use Rattle.csm_read.proofs.Passing.{no_fault, fault_more}
use Rattle.csm_read.proofs.Kept.{taken}
use Rattle.csm_read.proofs.Reasons.{unended_parts}

-- stretches of a longer text
stretches_step : (p b : ℕ) (xs ys : List Stretch) (zs : List Stretch) (shut separator : Bool) → ys ≡ xs ++ zs
    → (us : List Stretch) × (cond shut (stretch p [] b ∷ []) (cond separator (stretch p [] b ∷ ys) (longer p b ys)) ≡ cond shut (stretch p [] b ∷ []) (cond separator (stretch p [] b ∷ xs) (longer p b xs)) ++ us)
stretches_step p b xs ys zs true separator e = ([], refl)
stretches_step p b xs ys zs false true e = (zs, ap (λ (ss : List Stretch). stretch p [] b ∷ ss) e)
stretches_step p b [] ys zs false false e = (longer p b ys, refl)
stretches_step p b (x ∷ xs) ys zs false false e = (zs, ap (longer p b) e)

pub stretches_more : (p : ℕ) (b more : List ℕ) → (us : List Stretch) × (stretches p (b ++ more) ≡ stretches p b ++ us)
unfolding stretches
stretches_more p [] more = (stretches p more, refl)
stretches_more p (b ∷ bs) more =
    let k = stretches_more (p + 1) bs more in
    stretches_step p b (stretches (p + 1) bs) (stretches (p + 1) (bs ++ more)) k.0 (b == 41) (is_separator b) k.1

end_step : (p b : ℕ) (xs ys : List Stretch) (shut separator : Bool) → (b == 41) ≡ shut → (is_close xs ≡ true → ys ≡ xs)
    → is_close (cond shut (stretch p [] b ∷ []) (cond separator (stretch p [] b ∷ xs) (longer p b xs))) ≡ true
    → cond shut (stretch p [] b ∷ []) (cond separator (stretch p [] b ∷ ys) (longer p b ys)) ≡ cond shut (stretch p [] b ∷ []) (cond separator (stretch p [] b ∷ xs) (longer p b xs))
end_step p b xs ys true separator e more h = refl
end_step p b xs ys false true e more h = ap (λ (ss : List Stretch). stretch p [] b ∷ ss) (more (rw e at h))
end_step p b [] ys false false e more h = absurd (false≢true h)
end_step p b (x ∷ xs) ys false false e more h = ap (longer p b) (more h)

-- what stands behind `)` isn't looked at
pub stretches_end : (p : ℕ) (b more : List ℕ) → is_close (stretches p b) ≡ true → stretches p (b ++ more) ≡ stretches p b
unfolding stretches
stretches_end p [] more h = absurd (false≢true h)
stretches_end p (b ∷ bs) more h = end_step p b (stretches (p + 1) bs) (stretches (p + 1) (bs ++ more)) (b == 41) (is_separator b) refl (λ i. stretches_end (p + 1) bs more i) h

put_more : (s : Stretch) (us vs : List Standing) → put s (us ++ vs) ≡ put s us ++ vs
put_more s us vs = go s.text where
  go : (t : List ℕ) → put (stretch s.place t s.end) (us ++ vs) ≡ put (stretch s.place t s.end) us ++ vs
  go [] = refl
  go (b ∷ bs) = refl

-- the tokens of a longer text
one_more : (s : Stretch) (zs : List Stretch) (b : Bool) → waits s ≡ b → (vs : List Standing) × (units (s ∷ zs) ≡ units (s ∷ []) ++ vs)
unfolding units
one_more s zs true e = (units (s ∷ zs), rw e refl)
one_more s zs false e = (units zs, unit_not_waiting s zs e ∙ put_more s [] (units zs) ∙ ap (λ (us : List Standing). us ++ units zs) (sym (rw e refl)))

two_more : (s t : Stretch) (ss zs : List Stretch) (b : Bool) → (waits s && is_hex 4 t.text) ≡ b → (vs : List Standing) × (units (ss ++ zs) ≡ units ss ++ vs) → (vs : List Standing) × (units (t ∷ ss ++ zs) ≡ units (t ∷ ss) ++ vs)
    → (vs : List Standing) × (units (s ∷ t ∷ ss ++ zs) ≡ units (s ∷ t ∷ ss) ++ vs)
two_more s t ss zs true e after next =
    let joined : Standing = record { place = s.place; text = s.text ++ 32 ∷ t.text } in
    (after.0, units_two s t (ss ++ zs) true e ∙ ap (λ (us : List Standing). joined ∷ us) after.1 ∙ ap (λ (us : List Standing). us ++ after.0) (sym (units_two s t ss true e)))
two_more s t ss zs false e after next =
    (next.0, units_two s t (ss ++ zs) false e ∙ ap (put s) next.1 ∙ put_more s (units (t ∷ ss)) next.0 ∙ ap (λ (us : List Standing). us ++ next.0) (sym (units_two s t ss false e)))

pub units_more : (ss zs : List Stretch) → (vs : List Standing) × (units (ss ++ zs) ≡ units ss ++ vs)
units_more [] zs = (units zs, ap (λ (us : List Standing). us ++ units zs) (sym nothing)) where
  nothing : units [] ≡ []
  nothing = no_units
units_more (s ∷ []) zs = one_more s zs (waits s) refl
units_more (s ∷ t ∷ ss) zs = two_more s t ss zs (waits s && is_hex 4 t.text) refl (units_more ss zs) (units_more (t ∷ ss) zs)

or_else_step : (o p q : Option ReadRefusal) (r : ReadRefusal) → or_else o p ≡ Some r → (p ≡ Some r → q ≡ Some r) → or_else o q ≡ Some r
or_else_step None p q r h k = k h
or_else_step (Some s) p q r h k = h

-- a fault among the first tokens is that of all
pub fault_stays : (before : List Field) (us vs : List Standing) (r : ReadRefusal) → first_fault before us ≡ Some r → first_fault before (us ++ vs) ≡ Some r
fault_stays before [] vs r h = absurd (let k : None ≡ Some r = sym (no_fault before) ∙ h in cc)
fault_stays before (u ∷ us) vs r h =
    let later = before ++ option_to_list (field_of u) in
    fault_more before u (us ++ vs) ∙ or_else_step (fault_of before u) (first_fault later us) (first_fault later (us ++ vs)) r (sym (fault_more before u us) ∙ h) (λ i. fault_stays later us vs r i)

differs_stays : (place : ℕ) (b more ws : List ℕ) (r : ReadRefusal) → differs place b ws ≡ Some r → differs place (b ++ more) ws ≡ Some r
differs_stays place [] more ws r h = absurd cc
differs_stays place (b ∷ bs) more [] r h = absurd cc
differs_stays place (b ∷ bs) more (w ∷ ws) r h = go (b == w) h (λ i. differs_stays (place + 1) bs more ws r i) where
  go : (c : Bool) → cond c (differs (place + 1) bs ws) (Some (refusal.NotCsm place)) ≡ Some r → (differs (place + 1) bs ws ≡ Some r → differs (place + 1) (bs ++ more) ws ≡ Some r) → cond c (differs (place + 1) (bs ++ more) ws) (Some (refusal.NotCsm place)) ≡ Some r
  go true i k = k i
  go false i k = i

differs_none : (place : ℕ) (b more ws : List ℕ) → differs place b ws ≡ None → length ws ≤ length b → differs place (b ++ more) ws ≡ None
differs_none place [] [] ws h l = refl
differs_none place [] (m ∷ more) [] h l = refl
differs_none place [] (m ∷ more) (w ∷ ws) h l = absurd (omega arith)
differs_none place (b ∷ bs) more [] h l = refl
differs_none place (b ∷ bs) more (w ∷ ws) h l = go (b == w) h (λ i. differs_none (place + 1) bs more ws i (omega arith)) where
  go : (c : Bool) → cond c (differs (place + 1) bs ws) (Some (refusal.NotCsm place)) ≡ None → (differs (place + 1) bs ws ≡ None → differs (place + 1) (bs ++ more) ws ≡ None) → cond c (differs (place + 1) (bs ++ more) ws) (Some (refusal.NotCsm place)) ≡ None
  go true i k = k i
  go false i k = absurd cc

front_stays : (b more : List ℕ) (r : ReadRefusal) → b ≢ [] → front_fault b ≡ Some r → front_fault (b ++ more) ≡ Some r
front_stays [] more r n h = absurd (n refl)
front_stays (b ∷ bs) more r n h = differs_stays 0 (b ∷ bs) more (codes "CSM(") r h

front_none : (b more : List ℕ) → front_fault b ≡ None → 4 ≤ length b → front_fault (b ++ more) ≡ None
front_none [] more h l = absurd cc
front_none (b ∷ bs) more h l = differs_none 0 (b ∷ bs) more (codes "CSM(") h l

-- the first 1,024 bytes of a longer text
window_more : (b more : List ℕ) → (x : List ℕ) × (take 1024 (b ++ more) ≡ take 1024 b ++ x)
window_more b more =
    let w = take 1024 b in
    let r = drop 1024 b ++ more in
    let l = length-take 1024 b in
    let e : b ++ more ≡ w ++ r = ap (λ (y : List ℕ). y ++ more) (sym (take-append-drop 1024 b)) ∙ append_assoc w (drop 1024 b) more in
    (_, ap (take 1024) e ∙ taken w r 1024 (omega arith))

stretches_window : (b more : List ℕ) → 4 ≤ length b → (x : List ℕ) × (stretches_of (b ++ more) ≡ stretches 4 (drop 4 (take 1024 b) ++ x))
stretches_window b more h =
    let k = window_more b more in
    let l = length-take 1024 b in
    (k.0, ap (λ (y : List ℕ). stretches 4 (drop 4 y)) k.1 ∙ ap (stretches 4) (drop-append-le 4 (take 1024 b) k.0 (omega arith)))

place_from_end : (ss : List Stretch) → is_close ss ≡ true → (q : ℕ) × (end_place ss ≡ Some q)
place_from_end [] h = absurd (false≢true h)
place_from_end (s ∷ ss) h = go (s.end == 41) h (λ i. place_from_end ss i) where
  go : (b : Bool) → (b || is_close ss) ≡ true → (is_close ss ≡ true → (q : ℕ) × (end_place ss ≡ Some q)) → (q : ℕ) × (cond b (Some (s.place + length s.text)) (end_place ss) ≡ Some q)
  go true i k = (s.place + length s.text, refl)
  go false i k = k i

no_place : (ss : List Stretch) → is_close ss ≡ false → end_place ss ≡ None
no_place [] h = refl
no_place (s ∷ ss) h = go (s.end == 41) h (λ i. no_place ss i) where
  go : (b : Bool) → (b || is_close ss) ≡ false → (is_close ss ≡ false → end_place ss ≡ None) → cond b (Some (s.place + length s.text)) (end_place ss) ≡ None
  go true i k = absurd (true≢false i)
  go false i k = k i

-- the answer of a text by its parts
answer_is : (b : List ℕ) (tokens : Option ReadRefusal) (place : Option ℕ) → front_fault b ≡ None → first_fault [] (units_of b) ≡ tokens → end_place (stretches_of b) ≡ place → fault_of_text b ≡ or_else tokens (end_fault place (fields_from (units_of b)) (length b))
unfolding fault_of_text
answer_is b tokens place f t p = rw (f, t, p) refl

front_answer : (b : List ℕ) (r : ReadRefusal) → front_fault b ≡ Some r → fault_of_text b ≡ Some r
unfolding fault_of_text
front_answer b r h = rw h refl

NotUnended : List ℕ → Type 0
NotUnended b = (n : ℕ) → fault_of_text b ≢ Some (refusal.Unended n)

endless_short : (n : ℕ) → n ≤ 1024 → endless_fault n ≡ refusal.Unended n
endless_short n h = rw (le-ltb 1024 n h) refl

endless_long : (n : ℕ) → 1024 < n → endless_fault n ≡ refusal.TooLong 1024
endless_long n h = rw (lt-ltb 1024 n h) refl

-- a text whose tokens and end are those of a shorter one
same_answer : (b more : List ℕ) (at : ℕ) → front_fault b ≡ None → front_fault (b ++ more) ≡ None → stretches_of (b ++ more) ≡ stretches_of b → end_place (stretches_of b) ≡ Some at → fault_of_text (b ++ more) ≡ fault_of_text b
same_answer b more at f g e p =
    let fs : fields_from (units_of (b ++ more)) ≡ fields_from (units_of b) = ap (λ (ss : List Stretch). fields_from (units ss)) e in
    let t : first_fault [] (units_of (b ++ more)) ≡ first_fault [] (units_of b) = ap (λ (ss : List Stretch). first_fault [] (units ss)) e in
    answer_is (b ++ more) (first_fault [] (units_of b)) (Some at) g t (ap end_place e ∙ p)
    ∙ ap (λ (gs : List Field). or_else (first_fault [] (units_of b)) (unclosed_fault gs at)) fs ∙ sym (answer_is b (first_fault [] (units_of b)) (Some at) f refl p)

never_closed_answer : (b more : List ℕ) (o : Option ReadRefusal) → first_fault [] (units_of b) ≡ o → NotUnended b → front_fault b ≡ None → front_fault (b ++ more) ≡ None → 4 ≤ length b → end_place (stretches_of b) ≡ None → fault_of_text (b ++ more) ≡ fault_of_text b
unfolding NotUnended
never_closed_answer b more (Some r) t n f g l p =
    let x = stretches_window b more l in
    let y = stretches_more 4 (drop 4 (take 1024 b)) x.0 in
    let z = units_more (stretches_of b) y.0 in
    let u : units_of (b ++ more) ≡ units_of b ++ z.0 = ap units (x.1 ∙ y.1) ∙ z.1 in
    let s : first_fault [] (units_of (b ++ more)) ≡ Some r = ap (first_fault []) u ∙ fault_stays [] (units_of b) z.0 r t in
    answer_is (b ++ more) (Some r) (end_place (stretches_of (b ++ more))) g s refl ∙ sym (answer_is b (Some r) None f t p)
never_closed_answer b more None t n f g l p = go (cases_lt 1024 (length b)) where
  a : fault_of_text b ≡ Some (endless_fault (length b))
  a = answer_is b None None f t p

  go : (1024 < length b) ⊎ (length b ≤ 1024) → fault_of_text (b ++ more) ≡ fault_of_text b
  go (inr h) = absurd (n (length b) (a ∙ ap (λ (r : ReadRefusal). Some r) (endless_short (length b) h)))
  go (inl h) =
      let w : take 1024 (b ++ more) ≡ take 1024 b = take-append-le 1024 b more (omega arith) in
      let e = ap (λ (y : List ℕ). stretches 4 (drop 4 y)) w in
      let k = length-append b more in
      answer_is (b ++ more) None None g (ap (λ (ss : List Stretch). first_fault [] (units ss)) e ∙ t) (ap end_place e ∙ p)
      ∙ ap (λ (r : ReadRefusal). Some r) (endless_long (length (b ++ more)) (omega arith) ∙ sym (endless_long (length b) h)) ∙ sym a

short_unended : (b : List ℕ) → front_fault b ≡ None → length b < 4 → fault_of_text b ≡ Some (refusal.Unended (length b))
unfolding stretches
short_unended b f h =
    let l = length-take 1024 b in
    let z : drop 4 (take 1024 b) ≡ [] = drop_all 4 (take 1024 b) (omega arith) in
    let e : stretches_of b ≡ [] = ap (stretches 4) z in
    answer_is b None None f (ap (λ (ss : List Stretch). first_fault [] (units ss)) e ∙ ap (first_fault []) no_units ∙ no_fault []) (ap end_place e)
    ∙ ap (λ (r : ReadRefusal). Some r) (endless_short (length b) (omega arith))

-- the answer of bytes that aren't only unended stays
pub answer_stays : (b more : List ℕ) → b ≢ [] → ((n : ℕ) → fault_of_text b ≢ Some (refusal.Unended n)) → fault_of_text (b ++ more) ≡ fault_of_text b
unfolding NotUnended
answer_stays b more filled n = front (front_fault b) refl where
  long : front_fault b ≡ None → 4 ≤ length b → fault_of_text (b ++ more) ≡ fault_of_text b
  long f l = shut (is_close (stretches_of b)) refl where
    shut : (c : Bool) → is_close (stretches_of b) ≡ c → fault_of_text (b ++ more) ≡ fault_of_text b
    shut true e =
        let x = stretches_window b more l in
        let p = place_from_end (stretches_of b) e in
        same_answer b more p.0 f (front_none b more f l) (x.1 ∙ stretches_end 4 (drop 4 (take 1024 b)) x.0 e) p.1
    shut false e = never_closed_answer b more (first_fault [] (units_of b)) refl n f (front_none b more f l) l (no_place (stretches_of b) e)

  size : front_fault b ≡ None → (length b < 4) ⊎ (4 ≤ length b) → fault_of_text (b ++ more) ≡ fault_of_text b
  size f (inl h) = absurd (n (length b) (short_unended b f h))
  size f (inr h) = long f h

  front : (o : Option ReadRefusal) → front_fault b ≡ o → fault_of_text (b ++ more) ≡ fault_of_text b
  front (Some r) e = front_answer (b ++ more) r (front_stays b more r filled e) ∙ sym (front_answer b r e)
  front None e = size e (cases_lt (length b) 4)

-- what is read from bytes is read from more
pub read_stays : (b more : List ℕ) (p : Parsed) → IsRead b p → IsRead (b ++ more) p
read_stays b more p r =
    let l = length-append b more in
    let w = r.within in
    let e = take-append-le p.len b more r.within in
    record { within = omega arith; spelled = subst (λ (x : List ℕ). Spells x p.message p.shut p.auth_len) (sym e) r.spelled }

pub fault_of_more : FaultStays
fault_of_more b more r filled n h = answer_stays b more filled (λ k e. n k (let s : Some r ≡ Some (refusal.Unended k) = sym h ∙ e in cc)) ∙ h

-- bytes that end nothing are in no stretch
stretches_plain : (p : ℕ) (b more : List ℕ) → ArePlain more → stretches p (b ++ more) ≡ stretches p b
unfolding stretches
stretches_plain p [] more h = stretch_none p more h
stretches_plain p (b ∷ bs) more h =
    ap (λ (ss : List Stretch). cond (b == 41) (stretch p [] b ∷ []) (cond (is_separator b) (stretch p [] b ∷ ss) (longer p b ss))) (stretches_plain (p + 1) bs more h)

pub unended_more : UnendedStays
unended_more b more l h s e =
    let parts = unended_parts b (length b) e in
    let n = length-append b more in
    let same : stretches_of (b ++ more) ≡ stretches_of b =
    ap (λ (y : List ℕ). stretches 4 (drop 4 y)) (take_all 1024 (b ++ more) s) ∙ ap (stretches 4) (drop-append-le 4 b more l)
    ∙ stretches_plain 4 (drop 4 b) more h ∙ ap (λ (y : List ℕ). stretches 4 (drop 4 y)) (sym (take_all 1024 b (omega (arith, n, s)))) in
    answer_is (b ++ more) None None (front_none b more parts.front l) (ap (λ (ss : List Stretch). first_fault [] (units ss)) same ∙ parts.tokens) (ap end_place same ∙ parts.never_closed)
    ∙ ap (λ (r : ReadRefusal). Some r) (endless_short (length (b ++ more)) s)
