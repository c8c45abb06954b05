-- The unit in front of bytes.
use Rattle.std.proofs.Common.{◌≡◌, ◌≢◌, ℕ, suc, ◌+◌, ◌<◌, Bool, true, false, cond, List, [], ◌∷◌, ◌++◌, length, get_or, take, drop, Some, None, refl, sym, ◌∙◌, ap, add-one, arith, inl, inr}
use Rattle.std.specs.Prelude.{◌&&◌, ◌||◌, ◌==◌, nat_lt, is_ok, bytes_eq, if◌then◌else◌}
use Rattle.std.specs.List.{list_all, list_any, position, position_or_len}
use Rattle.std.proofs.Math.Seq.{drop-cons, take-add}
use Rattle.std.proofs.lemmas.Bool.{cases_Bool, and_parts, and_from, and_left, and_right, or_cases, not-false, false_from_ne_true, eqb-true, ltb-true, lt-ltb}
use Rattle.std.proofs.lemmas.Bool.Decides.{nat_tests}
use Rattle.std.proofs.lemmas.Slice.Eq.{bytes_eq-Decides}
use Rattle.std.proofs.lemmas.List.{length-take, length-drop, take-append-drop, drop-drop, get_or-drop}
use Rattle.csm_grammar.specs.Tags.{tag_name}
use Rattle.csm_grammar.specs.declared.tag.Tag.TheVariants.{Mac, Edc}
use Rattle.csm_grammar.specs.Values.{is_hex}
use Rattle.csm_read.specs.Units.{Stretch, Standing, stretches, end_place, is_half, waits, put, units, tag_text, contents_text}
use Rattle.csm_read.specs.Judging.{is_plain, IsEnd}
use Rattle.csm_read.specs.Scanning.{IsRun, IsUnit, RunsOut}
use Rattle.csm_read.proofs.Stretching.{stretch, standing, stretch_separator, stretch_end, stretch_token, stretch_none, unit_empty, unit_not_waiting}
use Rattle.csm_grammar.proofs.Hexing.{decodes, decodes_from}
use Rattle.hex.specs.Hex.{decode_sized}

same_truth : (a b : Bool) → (a ≡ true → b ≡ true) → (b ≡ true → a ≡ true) → a ≡ b
same_truth true b f g = sym (f refl)
same_truth false true f g = g refl
same_truth false false f g = refl

pub four_digits : (s : List ℕ) → is_ok (decode_sized s 2) ≡ is_hex 4 s
four_digits s = same_truth _ _ (decodes s 2) (decodes_from s 2)

abbrev pub is_slash : ℕ → Bool
is_slash b = b == 47

pub any_found : (xs : List ℕ) → list_any is_slash xs ≡ nat_lt (position_or_len is_slash xs) (length xs)
any_found [] = refl
any_found (x ∷ xs) = elim (cases_Bool (is_slash x)) [
  | inl h ↦ rw h (sym (lt-ltb 0 (suc (length xs)) (omega arith)))
  | inr h ↦ (let e = any_found xs in grind (arith, nat_tests))
]

pub no_slash : (xs : List ℕ) → None ≡ position is_slash xs → list_any is_slash xs ≡ false
no_slash xs h = any_found xs ∙ go (nat_lt (position_or_len is_slash xs) (length xs)) h where
  go : (b : Bool) → None ≡ (if b then Some (position_or_len is_slash xs) else None) → b ≡ false
  go true e = absurd cc
  go false e = refl

pub record CutAt (xs : List ℕ) (at : ℕ) : Type 0 where
  pub has : list_any is_slash xs ≡ true
  pub place : position_or_len is_slash xs ≡ at
  pub within : at < length xs

pub cut_at : (xs : List ℕ) (at : ℕ) → Some at ≡ position is_slash xs → CutAt xs at
cut_at xs at h = go (nat_lt (position_or_len is_slash xs) (length xs)) refl h where
  go : (b : Bool) → nat_lt (position_or_len is_slash xs) (length xs) ≡ b → Some at ≡ (if b then Some (position_or_len is_slash xs) else None) → CutAt xs at
  go true e k =
      let same : position_or_len is_slash xs ≡ at = cc in
      record { has = any_found xs ∙ e; place = same; within = rw same at (ltb-true _ _ e) }
  go false e k = absurd cc

pub is_tag_text : (xs : List ℕ) (at : ℕ) (name : List ℕ) → CutAt xs at → name ≡ take at xs → name ≡ tag_text xs
is_tag_text xs at name c h = h ∙ ap (λ (k : ℕ). take k xs) (sym c.place)

pub is_contents_text : (xs : List ℕ) (at : ℕ) (behind contents : List ℕ) → CutAt xs at → behind ≡ drop at xs → contents ≡ drop 1 behind → contents ≡ contents_text xs
is_contents_text xs at behind contents c h e = e ∙ ap (drop 1) h ∙ drop-drop 1 at xs ∙ ap (λ (k : ℕ). drop k xs) (let k : at + 1 ≡ position_or_len is_slash xs + 1 = omega (arith, c.place) in k)

-- half a code has eight bytes
half_long : (t : List ℕ) → is_half t ≡ true → length t ≡ 8
half_long t h =
    let p = and_parts (bytes_eq (tag_text t) (tag_name Mac) || bytes_eq (tag_text t) (tag_name Edc)) (is_hex 4 (contents_text t)) h in
    let four = eqb-true (length (contents_text t)) 4 (and_parts (length (contents_text t) == 4) _ p.1).0 in
    let three : length (tag_text t) ≡ 3 = elim (or_cases _ _ p.0) [
      | inl e ↦ ap length ((bytes_eq-Decides (tag_text t) (tag_name Mac)).0 e)
      | inr e ↦ ap length ((bytes_eq-Decides (tag_text t) (tag_name Edc)).0 e)
    ] in
    omega (arith, four, three, length-take (position_or_len is_slash t) t, length-drop (position_or_len is_slash t + 1) t)

pub not_half_long : (n : ℕ) (b : List ℕ) (e : Bool) → n < length b → n ≢ 8 → (is_half (take n b) && e) ≡ false
not_half_long n b e h f = and_left _ e (false_from_ne_true (is_half (take n b)) (λ t. f (let k = half_long (take n b) t in omega (arith, k, length-take n b))))

cons_at : (s : List ℕ) (i : ℕ) → i < length s → drop i s ≡ get_or s i 0 ∷ drop (i + 1) s
cons_at s i h = rw (add-one, drop-cons s i 0) refl

end_is : (e : ℕ) → is_plain e ≡ false → IsEnd e
end_is e h = elim (or_cases (e == 41) _ (not-false _ h)) [
  | inl k ↦ inl (eqb-true e 41 k)
  | inr k ↦ inr k
]

-- the bytes are a run, what ends it, and the rest
record Cut (b : List ℕ) (n : ℕ) : Type 0 where
  pub text : b ≡ take n b ++ get_or b n 0 ∷ drop (n + 1) b
  pub size : length (take n b) ≡ n
  pub behind : drop n b ≡ get_or b n 0 ∷ drop (n + 1) b
  pub end : IsEnd (get_or b n 0)

cut : (b : List ℕ) (n : ℕ) → IsRun b n → Cut b n
cut b n r =
    let within = r.within in
    let behind = cons_at b n within in
    record {
      text = sym (take-append-drop n b) ∙ ap (λ (x : List ℕ). take n b ++ x) behind;
      size = omega (arith, length-take n b);
      behind = behind;
      end = end_is (get_or b n 0) r.ended;
    }

-- the first stretch, and those behind it
record Fronted (p : ℕ) (b : List ℕ) (n : ℕ) : Type 0 where
  pub more : List Stretch
  pub here : stretches p b ≡ stretch p (take n b) (get_or b n 0) ∷ more
  pub there : stretches (p + n) (drop n b) ≡ stretch (p + n) [] (get_or b n 0) ∷ more

fronted : (p : ℕ) (b : List ℕ) (n : ℕ) → IsRun b n → Fronted p b n
fronted p b n r =
    let c = cut b n r in
    let x = stretch_end (p + n) (get_or b n 0) (drop (n + 1) b) c.end in
    record {
      more = x.0;
      here = ap (stretches p) c.text ∙ stretch_token p (p + n) (get_or b n 0) (take n b) (drop (n + 1) b) x.0 r.plain (ap (λ (k : ℕ). p + k) (sym c.size)) x.1;
      there = ap (stretches (p + n)) c.behind ∙ x.1;
    }

end_front : (p q e : ℕ) (t : List ℕ) (ss : List Stretch) → q ≡ p + length t → end_place (stretch p t e ∷ ss) ≡ end_place (stretch q [] e ∷ ss)
end_front p q e t ss h = ap (λ (k : ℕ). cond (e == 41) (Some k) (end_place ss)) (let j : p + length t ≡ q + 0 = omega arith in j)

fronted_end : (p : ℕ) (b : List ℕ) (n : ℕ) → IsRun b n → end_place (stretches p b) ≡ end_place (stretches (p + n) (drop n b))
fronted_end p b n r =
    let f = fronted p b n r in
    ap end_place f.here ∙ end_front p (p + n) (get_or b n 0) (take n b) f.more (ap (λ (k : ℕ). p + k) (sym (cut b n r).size)) ∙ ap end_place (sym f.there)

fronted_units : (p : ℕ) (b : List ℕ) (n : ℕ) (f : Fronted p b n) → units (stretches (p + n) (drop n b)) ≡ units f.more
fronted_units p b n f = ap units f.there ∙ unit_empty (p + n) (get_or b n 0) f.more

-- a run that doesn't wait is a unit
pub unit_alone : (b : List ℕ) (n : ℕ) → IsRun b n → (is_half (take n b) && (get_or b n 0 == 32)) ≡ false → IsUnit b n
unit_alone b n r w = record {
  within = r.within;
  ended = r.ended;
  first = λ p. let f = fronted p b n r in ap units f.here ∙ unit_not_waiting (stretch p (take n b) (get_or b n 0)) f.more w ∙ ap (put (stretch p (take n b) (get_or b n 0))) (sym (fronted_units p b n f));
  shut = λ p. fronted_end p b n r;
}

no_units : units [] ≡ []
unfolding units
no_units = refl

waiting : (s : Stretch) → waits s ≡ true → units (s ∷ []) ≡ []
unfolding units
waiting s h = rw h refl

not_other : (s t : Stretch) (ss : List Stretch) → is_hex 4 t.text ≡ false → units (s ∷ t ∷ ss) ≡ put s (units (t ∷ ss))
unfolding units
not_other s t ss h = rw (and_right (waits s) (is_hex 4 t.text) h) refl

other_half : (s t : Stretch) (ss : List Stretch) → waits s ≡ true → is_hex 4 t.text ≡ true → units (s ∷ t ∷ ss) ≡ standing s.place (s.text ++ 32 ∷ t.text) ∷ units ss
unfolding units
other_half s t ss h k = rw (h, k) refl

tail_is : (a b : Stretch) (xs ys : List Stretch) → a ∷ xs ≡ b ∷ ys → xs ≡ ys
tail_is a b xs ys h = cc

pub runs_out : (b : List ℕ) → list_all is_plain b ≡ true → RunsOut b
runs_out b h = record {
  none = λ p. ap units (stretch_none p b h) ∙ no_units;
  open_ = λ p. ap end_place (stretch_none p b h);
}

-- two runs with a blank between them
record Two (p : ℕ) (b : List ℕ) (n m : ℕ) : Type 0 where
  pub more : List Stretch
  pub here : stretches p b ≡ stretch p (take n b) 32 ∷ stretch (p + n + 1) (take m (drop (n + 1) b)) (get_or (drop (n + 1) b) m 0) ∷ more
  pub there : stretches (p + n + 1 + m) (drop m (drop (n + 1) b)) ≡ stretch (p + n + 1 + m) [] (get_or (drop (n + 1) b) m 0) ∷ more

blank_first : (p : ℕ) (b : List ℕ) (n : ℕ) → IsRun b n → get_or b n 0 ≡ 32 → stretches p b ≡ stretch p (take n b) 32 ∷ stretches (p + n + 1) (drop (n + 1) b)
blank_first p b n r e =
    let c = cut b n r in
    let text : b ≡ take n b ++ 32 ∷ drop (n + 1) b = c.text ∙ ap (λ (x : ℕ). take n b ++ x ∷ drop (n + 1) b) e in
    ap (stretches p) text ∙ stretch_token p (p + n) 32 (take n b) (drop (n + 1) b) (stretches (p + n + 1) (drop (n + 1) b)) r.plain (ap (λ (k : ℕ). p + k) (sym c.size)) (stretch_separator (p + n) 32 (drop (n + 1) b) refl)

two : (p : ℕ) (b : List ℕ) (n m : ℕ) → IsRun b n → get_or b n 0 ≡ 32 → IsRun (drop (n + 1) b) m → Two p b n m
two p b n m r e s =
    let f = fronted (p + n + 1) (drop (n + 1) b) m s in
    record {
      more = f.more;
      here = blank_first p b n r e ∙ ap (λ (ss : List Stretch). stretch p (take n b) 32 ∷ ss) f.here;
      there = f.there;
    }

-- half a code, a blank, and bytes that nothing ends
pub half_runs_out : (b : List ℕ) (n : ℕ) → IsRun b n → (is_half (take n b) && (get_or b n 0 == 32)) ≡ true → list_all is_plain (drop (n + 1) b) ≡ true → RunsOut b
half_runs_out b n r w h =
    let p = and_parts (is_half (take n b)) (get_or b n 0 == 32) w in
    let e = eqb-true (get_or b n 0) 32 p.1 in
    let front : (q : ℕ) → stretches q b ≡ stretch q (take n b) 32 ∷ [] = λ q. blank_first q b n r e ∙ ap (λ (ss : List Stretch). stretch q (take n b) 32 ∷ ss) (stretch_none (q + n + 1) (drop (n + 1) b) h) in
    record {
      none = λ q. ap units (front q) ∙ waiting (stretch q (take n b) 32) (and_from _ _ p.0 refl);
      open_ = λ q. ap end_place (front q);
    }

-- the second run isn't the other half
pub half_alone : (b : List ℕ) (n m : ℕ) → IsRun b n → (is_half (take n b) && (get_or b n 0 == 32)) ≡ true → IsRun (drop (n + 1) b) m → is_hex 4 (take m (drop (n + 1) b)) ≡ false → IsUnit b n
half_alone b n m r w s d =
    let p = and_parts (is_half (take n b)) (get_or b n 0 == 32) w in
    let e = eqb-true (get_or b n 0) 32 p.1 in
    record {
      within = r.within;
      ended = r.ended;
      first = λ q.
          let t = two q b n m r e s in
          let f = fronted q b n r in
          let rest = stretch (q + n + 1) (take m (drop (n + 1) b)) (get_or (drop (n + 1) b) m 0) ∷ t.more in
          let same : f.more ≡ rest = tail_is _ _ f.more rest (sym f.here ∙ t.here) in
          ap units t.here ∙ not_other (stretch q (take n b) 32) (stretch (q + n + 1) (take m (drop (n + 1) b)) (get_or (drop (n + 1) b) m 0)) t.more d
          ∙ ap (λ (x : ℕ). put (stretch q (take n b) x) (units rest)) (sym e) ∙ ap (λ (us : List Standing). put (stretch q (take n b) (get_or b n 0)) us) (ap units (sym same) ∙ sym (fronted_units q b n f));
      shut = λ q. fronted_end q b n r;
    }

joined_text : (b : List ℕ) (n m : ℕ) → n < length b → get_or b n 0 ≡ 32 → take (n + 1 + m) b ≡ take n b ++ 32 ∷ take m (drop (n + 1) b)
joined_text b n m h e =
    let behind : drop n b ≡ 32 ∷ drop (n + 1) b = cons_at b n h ∙ ap (λ (x : ℕ). x ∷ drop (n + 1) b) e in
    let place : n + 1 + m ≡ n + suc m = omega arith in
    ap (λ (x : ℕ). take x b) place ∙ take-add n (suc m) b ∙ ap (λ (x : List ℕ). take n b ++ take (suc m) x) behind

put_joined : (p e : ℕ) (first second : List ℕ) (us : List Standing) → put (stretch p (first ++ 32 ∷ second) e) us ≡ standing p (first ++ 32 ∷ second) ∷ us
put_joined p e [] second us = refl
put_joined p e (x ∷ xs) second us = refl

-- the two halves are one unit
pub half_joined : (b : List ℕ) (n m : ℕ) → IsRun b n → (is_half (take n b) && (get_or b n 0 == 32)) ≡ true → IsRun (drop (n + 1) b) m → is_hex 4 (take m (drop (n + 1) b)) ≡ true → IsUnit b (n + 1 + m)
half_joined b n m r w s d =
    let p = and_parts (is_half (take n b)) (get_or b n 0 == 32) w in
    let e = eqb-true (get_or b n 0) 32 p.1 in
    let behind : drop m (drop (n + 1) b) ≡ drop (n + 1 + m) b = drop-drop m (n + 1) b in
    let end : get_or (drop (n + 1) b) m 0 ≡ get_or b (n + 1 + m) 0 = get_or-drop (n + 1) b m 0 in
    let text = joined_text b n m r.within e in
    let inside = s.within in
    let place : (q : ℕ) → q + n + 1 + m ≡ q + (n + 1 + m) = λ q. omega arith in
    let there : (q : ℕ) (t : Two q b n m) → stretches (q + (n + 1 + m)) (drop (n + 1 + m) b) ≡ stretch (q + n + 1 + m) [] (get_or (drop (n + 1) b) m 0) ∷ t.more = λ q t. ap (λ (k : ℕ). stretches k (drop (n + 1 + m) b)) (sym (place q)) ∙ ap (stretches (q + n + 1 + m)) (sym behind) ∙ t.there in
    record {
      within = omega (arith, inside, length-drop (n + 1) b);
      ended = sym (ap is_plain end) ∙ s.ended;
      first = λ q.
          let t = two q b n m r e s in
          ap units t.here ∙ other_half (stretch q (take n b) 32) (stretch (q + n + 1) (take m (drop (n + 1) b)) (get_or (drop (n + 1) b) m 0)) t.more (and_from _ _ p.0 refl) d
          ∙ ap (λ (us : List Standing). standing q (take n b ++ 32 ∷ take m (drop (n + 1) b)) ∷ us) (sym (ap units (there q t) ∙ unit_empty (q + n + 1 + m) _ t.more))
          ∙ sym (put_joined q (get_or b (n + 1 + m) 0) (take n b) (take m (drop (n + 1) b)) _)
          ∙ ap (λ (x : List ℕ). put (stretch q x (get_or b (n + 1 + m) 0)) (units (stretches (q + (n + 1 + m)) (drop (n + 1 + m) b)))) (sym text);
      shut = λ q.
          let t = two q b n m r e s in
          let size : q + n + 1 + m ≡ q + n + 1 + length (take m (drop (n + 1) b)) = omega (arith, length-take m (drop (n + 1) b)) in
          ap end_place t.here ∙ end_front (q + n + 1) (q + n + 1 + m) (get_or (drop (n + 1) b) m 0) (take m (drop (n + 1) b)) t.more size ∙ ap end_place (sym (there q t));
    }
