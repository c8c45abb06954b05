-- The stretches of a text, from left to right.
use Rattle.std.proofs.Common.{◌≡◌, ℕ, ◌+◌, Bool, true, false, List, [], ◌∷◌, ◌++◌, length, refl, sym, ◌∙◌, ap, subst, inl, inr, arith}
use Rattle.std.specs.Prelude.{◌==◌}
use Rattle.std.specs.List.{list_all}
use Rattle.std.proofs.lemmas.Bool.{eqb-true, and_parts, and_from, or_parts, or_from, not-true, not_from_false, false_from_ne_true, false≢true}
use Rattle.csm_grammar.specs.Spelling.{is_separator, AreSeparators}
use Rattle.csm_read.specs.Judging.{is_plain, ArePlain, IsEnd}
use Rattle.csm_read.specs.Units.{Stretch, Standing, longer, stretches, end_place, waits, put, units}

abbrev pub stretch : ℕ → List ℕ → ℕ → Stretch
stretch p t e = record { place = p; text = t; end = e }

abbrev pub standing : ℕ → List ℕ → Standing
standing p t = record { place = p; text = t }

pub separator_end : (b : ℕ) → is_separator b ≡ true → (b == 41) ≡ false
separator_end b h = false_from_ne_true (b == 41) (λ e. false≢true (subst (λ (x : ℕ). is_separator x ≡ true) (eqb-true b 41 e) h))

-- a byte that passes a test which no separator and no `)` passes
pub plain_from : (p : ℕ → Bool) → p 41 ≡ false → p 32 ≡ false → p 13 ≡ false → p 10 ≡ false → (b : ℕ) → p b ≡ true → is_plain b ≡ true
plain_from p a c d e b h =
    let other : (n : ℕ) → p n ≡ false → (b == n) ≡ false = λ n k. false_from_ne_true (b == n) (λ i. false≢true (sym k ∙ subst (λ (x : ℕ). p x ≡ true) (eqb-true b n i) h)) in
    not_from_false _ (or_from _ _ (other 41 a) (or_from _ _ (other 32 c) (or_from _ _ (other 13 d) (other 10 e))))

pub all_plain_from : (p : ℕ → Bool) → p 41 ≡ false → p 32 ≡ false → p 13 ≡ false → p 10 ≡ false → (t : List ℕ) → list_all p t ≡ true → ArePlain t
all_plain_from p a c d e [] h = refl
all_plain_from p a c d e (b ∷ bs) h =
    let k = and_parts (p b) (list_all p bs) h in
    and_from _ _ (plain_from p a c d e b k.0) (all_plain_from p a c d e bs k.1)

pub stretch_plain : (p b : ℕ) (bs : List ℕ) → is_plain b ≡ true → stretches p (b ∷ bs) ≡ longer p b (stretches (p + 1) bs)
unfolding stretches
stretch_plain p b bs h = let k = or_parts (b == 41) (is_separator b) (not-true _ h) in rw (k.0, k.1) refl

pub stretch_separator : (p b : ℕ) (bs : List ℕ) → is_separator b ≡ true → stretches p (b ∷ bs) ≡ stretch p [] b ∷ stretches (p + 1) bs
unfolding stretches
stretch_separator p b bs h = rw (separator_end b h, h) refl

pub stretch_closed : (p : ℕ) (bs : List ℕ) → stretches p (41 ∷ bs) ≡ stretch p [] 41 ∷ []
unfolding stretches
stretch_closed p bs = refl

pub stretch_end : (p e : ℕ) (bs : List ℕ) → IsEnd e → (ss : List Stretch) × (stretches p (e ∷ bs) ≡ stretch p [] e ∷ ss)
stretch_end p e bs (inl h) = ([], subst (λ (x : ℕ). stretches p (x ∷ bs) ≡ stretch p [] x ∷ []) (sym h) (stretch_closed p bs))
stretch_end p e bs (inr h) = (stretches (p + 1) bs, stretch_separator p e bs h)

-- bytes that are ended
pub stretch_token : (p q e : ℕ) (t rest : List ℕ) (ss : List Stretch) → ArePlain t → q ≡ p + length t → stretches q (e ∷ rest) ≡ stretch q [] e ∷ ss → stretches p (t ++ e ∷ rest) ≡ stretch p t e ∷ ss
stretch_token p q e [] rest ss h k i = let j : q ≡ p = omega arith in subst (λ (x : ℕ). stretches x (e ∷ rest) ≡ stretch x [] e ∷ ss) j i
stretch_token p q e (b ∷ bs) rest ss h k i =
    let g = and_parts (is_plain b) (list_all is_plain bs) h in
    let j : q ≡ p + 1 + length bs = omega arith in
    stretch_plain p b (bs ++ e ∷ rest) g.0 ∙ ap (longer p b) (stretch_token (p + 1) q e bs rest ss g.1 j i)

-- bytes that nothing ends
pub stretch_none : (p : ℕ) (t : List ℕ) → ArePlain t → stretches p t ≡ []
unfolding stretches
stretch_none p [] h = refl
stretch_none p (b ∷ bs) h =
    let g = and_parts (is_plain b) (list_all is_plain bs) h in
    stretch_plain p b bs g.0 ∙ ap (longer p b) (stretch_none (p + 1) bs g.1)

pub unit_empty : (p e : ℕ) (ss : List Stretch) → units (stretch p [] e ∷ ss) ≡ units ss
unfolding units
unit_empty p e [] = refl
unit_empty p e (s ∷ ss) = refl

pub unit_not_waiting : (s : Stretch) (ss : List Stretch) → waits s ≡ false → units (s ∷ ss) ≡ put s (units ss)
unfolding units
unit_not_waiting s [] h = rw h refl
unit_not_waiting s (t ∷ ss) h = rw h refl

-- separators in front
pub gap_units : (p : ℕ) (gap rest : List ℕ) → AreSeparators gap → units (stretches p (gap ++ rest)) ≡ units (stretches (p + length gap) rest)
gap_units p [] rest h = let k : p ≡ p + 0 = omega arith in ap (λ (x : ℕ). units (stretches x rest)) k
gap_units p (b ∷ bs) rest h =
    let g = and_parts (is_separator b) (list_all is_separator bs) h in
    let k : p + 1 + length bs ≡ p + length (b ∷ bs) = omega arith in
    ap units (stretch_separator p b (bs ++ rest) g.0) ∙ unit_empty p b (stretches (p + 1) (bs ++ rest))
    ∙ gap_units (p + 1) bs rest g.1 ∙ ap (λ (x : ℕ). units (stretches x rest)) k

pub gap_end : (p : ℕ) (gap rest : List ℕ) → AreSeparators gap → end_place (stretches p (gap ++ rest)) ≡ end_place (stretches (p + length gap) rest)
gap_end p [] rest h = let k : p ≡ p + 0 = omega arith in ap (λ (x : ℕ). end_place (stretches x rest)) k
gap_end p (b ∷ bs) rest h =
    let g = and_parts (is_separator b) (list_all is_separator bs) h in
    let k : p + 1 + length bs ≡ p + length (b ∷ bs) = omega arith in
    ap end_place (stretch_separator p b (bs ++ rest) g.0) ∙ rw (separator_end b g.0) refl
    ∙ gap_end (p + 1) bs rest g.1 ∙ ap (λ (x : ℕ). end_place (stretches x rest)) k
