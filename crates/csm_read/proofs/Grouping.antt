-- A text that holds `)` is spelled of its tokens.
use Rattle.std.proofs.Common.{◌≡◌, ℕ, ◌+◌, Bool, true, false, cond, List, [], ◌∷◌, ◌++◌, length, Some, refl, sym, ◌∙◌, ap, subst, append_assoc, inl, inr}
use Rattle.std.specs.Prelude.{◌&&◌, ◌||◌, ◌==◌, not}
use Rattle.std.specs.List.{list_all, list_any, flat_map}
use Rattle.std.proofs.lemmas.Bool.{eqb-true, and_parts, and_from, and_right, not-true}
use Rattle.csm_grammar.specs.Values.{is_hex}
use Rattle.csm_grammar.specs.Spelling.{is_separator, AreSeparators}
use Rattle.csm_read.specs.Units.{Stretch, Standing, longer, stretches, end_place, is_half, waits, put, units}
use Rattle.csm_read.specs.Judging.{is_plain, ArePlain}
use Rattle.csm_read.proofs.Stretching.{stretch, standing}
use Rattle.csm_read.proofs.Tokens.{IsToken, Spread, spread_text, AreSpread}

-- stretches up to `)`
abbrev pub AreClosing : List Stretch → Type 0
AreClosing [] = ⊥
AreClosing (s ∷ []) = ArePlain s.text × (s.end ≡ 41)
AreClosing (s ∷ t ∷ ss) = ArePlain s.text × (is_separator s.end ≡ true) × AreClosing (t ∷ ss)

abbrev pub is_close : List Stretch → Bool
is_close ss = list_any (λ s. s.end == 41) ss

abbrev pub ended_text : List Stretch → List ℕ
ended_text ss = flat_map (λ s. s.text ++ s.end ∷ []) ss

pub end_from_place : (ss : List Stretch) (q : ℕ) → end_place ss ≡ Some q → is_close ss ≡ true
end_from_place [] q h = absurd cc
end_from_place (s ∷ ss) q h = go (s.end == 41) (λ i. end_from_place ss q i) h where
  go : (b : Bool) → (end_place ss ≡ Some q → is_close ss ≡ true) → cond b (Some (s.place + length s.text)) (end_place ss) ≡ Some q → (b || is_close ss) ≡ true
  go true more i = refl
  go false more i = more i

-- a text whose stretches are those, and what stands behind `)`
pub record Ended (ss : List Stretch) (b : List ℕ) : Type 0 where
  pub shut : AreClosing ss
  pub rest : List ℕ
  pub text : b ≡ ended_text ss ++ rest

separator_more : (p b : ℕ) (bs : List ℕ) (ss : List Stretch) → is_separator b ≡ true → Ended ss bs → Ended (stretch p [] b ∷ ss) (b ∷ bs)
separator_more p b bs [] h e = absurd e.shut
separator_more p b bs (s ∷ ss) h e = record { shut = (refl, h, e.shut); rest = e.rest; text = ap (λ (x : List ℕ). b ∷ x) e.text }

plain_more : (p b : ℕ) (bs : List ℕ) (ss : List Stretch) → is_plain b ≡ true → Ended ss bs → Ended (longer p b ss) (b ∷ bs)
plain_more p b bs [] h e = absurd e.shut
plain_more p b bs (s ∷ []) h e = record { shut = (and_from _ _ h e.shut.0, e.shut.1); rest = e.rest; text = ap (λ (x : List ℕ). b ∷ x) e.text }
plain_more p b bs (s ∷ t ∷ ss) h e = record { shut = (and_from _ _ h e.shut.0, e.shut.1, e.shut.2); rest = e.rest; text = ap (λ (x : List ℕ). b ∷ x) e.text }

longer_end : (p b : ℕ) (ss : List Stretch) → is_close (longer p b ss) ≡ is_close ss
longer_end p b [] = refl
longer_end p b (s ∷ ss) = refl

ended_step : (p b : ℕ) (bs : List ℕ) (ss : List Stretch) (shut separator : Bool) → (b == 41) ≡ shut → is_separator b ≡ separator → (is_close ss ≡ true → Ended ss bs)
    → is_close (cond shut (stretch p [] b ∷ []) (cond separator (stretch p [] b ∷ ss) (longer p b ss))) ≡ true
    → Ended (cond shut (stretch p [] b ∷ []) (cond separator (stretch p [] b ∷ ss) (longer p b ss))) (b ∷ bs)
ended_step p b bs ss true separator e f more h = record { shut = (refl, eqb-true b 41 e); rest = bs; text = refl }
ended_step p b bs ss false true e f more h = separator_more p b bs ss f (more (rw e at h))
ended_step p b bs ss false false e f more h = plain_more p b bs ss (rw (e, f) refl) (more (sym (longer_end p b ss) ∙ h))

pub ended : (p : ℕ) (b : List ℕ) → is_close (stretches p b) ≡ true → Ended (stretches p b) b
unfolding stretches
ended p [] h = absurd cc
ended p (b ∷ bs) h = ended_step p b bs (stretches (p + 1) bs) (b == 41) (is_separator b) refl refl (λ i. ended (p + 1) bs i) h

-- none of them is half a code
abbrev pub NoHalf : List Standing → Type 0
NoHalf us = list_all (λ u. not (is_half u.text)) us ≡ true

pub record Grouped (xs : List ℕ) : Type 0 where
  pub front : List ℕ
  pub spreads : List Spread
  pub separators : AreSeparators front
  pub spread : AreSpread spreads
  pub text : xs ≡ front ++ (flat_map spread_text spreads ++ 41 ∷ [])

abbrev spread_of : List ℕ → List ℕ → Spread
spread_of t gap = record { token = t; gap = gap }

-- a token and a separator in front of others
group_token : (t : List ℕ) (e : ℕ) (xs : List ℕ) → IsToken t → is_separator e ≡ true → Grouped xs → Grouped (t ++ e ∷ xs)
group_token t e xs i s g = record {
  front = [];
  spreads = spread_of t (e ∷ g.front) ∷ g.spreads;
  separators = refl;
  spread = go g.spreads g.spread;
  text = ap (λ (x : List ℕ). t ++ e ∷ x) g.text ∙ sym (append_assoc (t ++ e ∷ g.front) (flat_map spread_text g.spreads) (41 ∷ []) ∙ append_assoc t (e ∷ g.front) (flat_map spread_text g.spreads ++ 41 ∷ []));
} where
  go : (ss : List Spread) → AreSpread ss → AreSpread (spread_of t (e ∷ g.front) ∷ ss)
  go [] h = (i, and_from _ _ s g.separators)
  go (u ∷ us) h = (i, and_from _ _ s g.separators, (λ k. cc), h)

group_last : (t : List ℕ) → IsToken t → Grouped (t ++ 41 ∷ [])
group_last t i = record {
  front = [];
  spreads = spread_of t [] ∷ [];
  separators = refl;
  spread = (i, refl);
  text = sym (append_assoc (t ++ []) [] (41 ∷ []) ∙ append_assoc t [] (41 ∷ []));
}

group_separator : (e : ℕ) (xs : List ℕ) → is_separator e ≡ true → Grouped xs → Grouped (e ∷ xs)
group_separator e xs s g = record { front = e ∷ g.front; spreads = g.spreads; separators = and_from _ _ s g.separators; spread = g.spread; text = ap (λ (x : List ℕ). e ∷ x) g.text }

group_end : Grouped (41 ∷ [])
group_end = record { front = []; spreads = []; separators = refl; spread = tt; text = refl }

-- one stretch that is judged alone
group_put : (p : ℕ) (t : List ℕ) (e : ℕ) (us : List Standing) (xs : List ℕ) → ArePlain t → is_separator e ≡ true → NoHalf (put (stretch p t e) us) → (NoHalf us → Grouped xs) → Grouped (t ++ e ∷ xs)
group_put p [] e us xs h s n more = group_separator e xs s (more n)
group_put p (b ∷ bs) e us xs h s n more =
    let k = and_parts (not (is_half (b ∷ bs))) (list_all (λ u. not (is_half u.text)) us) n in
    group_token (b ∷ bs) e xs (inl (record { filled = (λ i. cc); plain = h; other = not-true _ k.0 })) s (more k.1)

group_put_last : (p : ℕ) (t : List ℕ) (e : ℕ) → ArePlain t → NoHalf (put (stretch p t e) []) → Grouped (t ++ 41 ∷ [])
group_put_last p [] e h n = group_end
group_put_last p (b ∷ bs) e h n =
    let k = and_parts (not (is_half (b ∷ bs))) true n in
    group_last (b ∷ bs) (inl (record { filled = (λ i. cc); plain = h; other = not-true _ k.0 }))

halves_token : (s : Stretch) (second : List ℕ) → ArePlain s.text → (waits s && is_hex 4 second) ≡ true → IsToken (s.text ++ 32 ∷ second)
halves_token s second p h =
    let k = and_parts (waits s) (is_hex 4 second) h in
    inr (record { first = s.text; second = second; half = (and_parts _ _ k.0).0; plain = p; digits = k.1; text = refl })

blank_end : (s : Stretch) (b : Bool) → (waits s && b) ≡ true → s.end ≡ 32
blank_end s b h = eqb-true s.end 32 (and_parts _ _ (and_parts (waits s) b h).0).1

stretch_front : (s : Stretch) (ss : List Stretch) → ended_text (s ∷ ss) ≡ s.text ++ s.end ∷ ended_text ss
stretch_front s ss = append_assoc s.text (s.end ∷ []) (ended_text ss)

-- two halves, and what follows
group_halves : (s t : Stretch) (ss : List Stretch) → AreClosing (s ∷ t ∷ ss) → (waits s && is_hex 4 t.text) ≡ true → (AreClosing ss → Grouped (ended_text ss)) → Grouped (ended_text (s ∷ t ∷ ss))
group_halves s t [] h w more =
    let k : ended_text (s ∷ t ∷ []) ≡ (s.text ++ 32 ∷ t.text) ++ 41 ∷ [] =
    stretch_front s (t ∷ []) ∙ ap (λ (x : List ℕ). s.text ++ s.end ∷ x) (stretch_front t []) ∙ ap (λ (x : ℕ). s.text ++ x ∷ (t.text ++ t.end ∷ [])) (blank_end s _ w)
    ∙ ap (λ (x : ℕ). s.text ++ 32 ∷ (t.text ++ x ∷ [])) h.2.1 ∙ sym (append_assoc s.text (32 ∷ t.text) (41 ∷ [])) in
    subst Grouped (sym k) (group_last _ (halves_token s t.text h.0 w))
group_halves s t (u ∷ us) h w more =
    let k : ended_text (s ∷ t ∷ u ∷ us) ≡ (s.text ++ 32 ∷ t.text) ++ t.end ∷ ended_text (u ∷ us) =
    stretch_front s (t ∷ u ∷ us) ∙ ap (λ (x : List ℕ). s.text ++ s.end ∷ x) (stretch_front t (u ∷ us)) ∙ ap (λ (x : ℕ). s.text ++ x ∷ (t.text ++ t.end ∷ ended_text (u ∷ us))) (blank_end s _ w)
    ∙ sym (append_assoc s.text (32 ∷ t.text) (t.end ∷ ended_text (u ∷ us))) in
    subst Grouped (sym k) (group_token _ t.end (ended_text (u ∷ us)) (halves_token s t.text h.0 w) h.2.1 (more h.2.2))

pub units_two : (s t : Stretch) (ss : List Stretch) (b : Bool) → (waits s && is_hex 4 t.text) ≡ b → units (s ∷ t ∷ ss) ≡ cond b (standing s.place (s.text ++ 32 ∷ t.text) ∷ units ss) (put s (units (t ∷ ss)))
unfolding units
units_two s t ss b h = rw h refl

group_two : (s t : Stretch) (ss : List Stretch) (b : Bool) → (waits s && is_hex 4 t.text) ≡ b → AreClosing (s ∷ t ∷ ss) → NoHalf (units (s ∷ t ∷ ss))
    → (AreClosing ss → NoHalf (units ss) → Grouped (ended_text ss)) → (AreClosing (t ∷ ss) → NoHalf (units (t ∷ ss)) → Grouped (ended_text (t ∷ ss))) → Grouped (ended_text (s ∷ t ∷ ss))
group_two s t ss true e h n after next =
    let k = rw (units_two s t ss true e) at n in
    group_halves s t ss h e (λ i. after i (and_parts _ _ k).1)
group_two s t ss false e h n after next =
    let k : NoHalf (put s (units (t ∷ ss))) = rw (units_two s t ss false e) at n in
    subst Grouped (sym (stretch_front s (t ∷ ss))) (group_put s.place s.text s.end (units (t ∷ ss)) (ended_text (t ∷ ss)) h.0 h.1 k (λ i. next h.2 i))

units_one : (s : Stretch) → s.end ≡ 41 → units (s ∷ []) ≡ put s []
unfolding units
units_one s h = rw (let w : waits s ≡ false = and_right _ _ (ap (λ (x : ℕ). x == 32) h) in w) refl

pub grouped : (ss : List Stretch) → AreClosing ss → NoHalf (units ss) → Grouped (ended_text ss)
grouped [] h n = absurd h
grouped (s ∷ []) h n =
    let k : NoHalf (put s []) = rw (units_one s h.1) at n in
    subst Grouped (sym (stretch_front s [] ∙ ap (λ (x : ℕ). s.text ++ x ∷ []) h.1)) (group_put_last s.place s.text s.end h.0 k)
grouped (s ∷ t ∷ ss) h n = group_two s t ss (waits s && is_hex 4 t.text) refl h n (λ i m. grouped ss i m) (λ i m. grouped (t ∷ ss) i m)
