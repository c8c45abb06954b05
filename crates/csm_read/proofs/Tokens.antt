-- The tokens of a text are those that it is spelled of.
use Rattle.std.proofs.Common.{◌≡◌, ◌≢◌, ℕ, ◌+◌, true, false, cond, List, [], ◌∷◌, ◌++◌, length, Some, refl, sym, ◌∙◌, ap, append_assoc, inl, inr, arith, length-append}
use Rattle.std.specs.Prelude.{◌⊎◌, ◌==◌, nat_lt}
use Rattle.std.specs.List.{flat_map}
use Rattle.std.specs.Char.{digit_value}
use Rattle.std.proofs.lemmas.Bool.{and_parts, and_left}
use Rattle.csm_grammar.specs.Values.{is_hex}
use Rattle.csm_grammar.specs.Spelling.{AreSeparators}
use Rattle.csm_read.specs.Units.{Stretch, Standing, stretches, end_place, is_half, waits, put, units}
use Rattle.csm_read.specs.Judging.{ArePlain, IsEnd}
use Rattle.csm_read.proofs.Stretching.{stretch, standing, all_plain_from, stretch_separator, stretch_closed, stretch_end, stretch_token, unit_empty, unit_not_waiting, gap_units, gap_end}

-- a token that is judged alone
pub record IsWhole (t : List ℕ) : Type 0 where
  pub filled : t ≢ []
  pub plain : ArePlain t
  pub other : is_half t ≡ false

-- the two halves of a code
pub record AreHalves (t : List ℕ) : Type 0 where
  pub first : List ℕ
  pub second : List ℕ
  pub half : is_half first ≡ true
  pub plain : ArePlain first
  pub digits : is_hex 4 second ≡ true
  pub text : t ≡ first ++ 32 ∷ second

abbrev pub IsToken : List ℕ → Type 0
IsToken t = IsWhole t ⊎ AreHalves t

pub hex_plain : (n : ℕ) (d : List ℕ) → is_hex n d ≡ true → ArePlain d
hex_plain n d h = all_plain_from (λ b. nat_lt (digit_value b) 16) refl refl refl refl d (and_parts (length d == n) _ h).1

pub put_filled : (p e : ℕ) (t : List ℕ) (us : List Standing) → t ≢ [] → put (stretch p t e) us ≡ standing p t ∷ us
put_filled p e [] us f = absurd (f refl)
put_filled p e (b ∷ bs) us f = refl

pub joined : (p q e : ℕ) (first second : List ℕ) (ss : List Stretch) → is_half first ≡ true → is_hex 4 second ≡ true → units (stretch p first 32 ∷ stretch q second e ∷ ss) ≡ standing p (first ++ 32 ∷ second) ∷ units ss
unfolding units
joined p q e first second ss h d = rw (h, d) refl

whole_units : (p q e : ℕ) (t rest : List ℕ) → IsWhole t → IsEnd e → q ≡ p + length t → (units (stretches p (t ++ e ∷ rest)) ≡ standing p t ∷ units (stretches q (e ∷ rest))) × (end_place (stretches p (t ++ e ∷ rest)) ≡ end_place (stretches q (e ∷ rest)))
whole_units p q e t rest w i k =
    let x = stretch_end q e rest i in
    let s = stretch_token p q e t rest x.0 w.plain k x.1 in
    let n : waits (stretch p t e) ≡ false = and_left _ _ w.other in (
      ap units s ∙ unit_not_waiting (stretch p t e) x.0 n ∙ put_filled p e t (units x.0) w.filled ∙ ap (λ (us : List Standing). standing p t ∷ us) (sym (ap units x.1 ∙ unit_empty q e x.0)),
      ap end_place s ∙ ap (λ (n : ℕ). cond (e == 41) (Some n) (end_place x.0)) (let j : p + length t ≡ q + 0 = omega arith in j) ∙ ap end_place (sym x.1),
    )

halves_units : (p q e : ℕ) (first second rest : List ℕ) → is_half first ≡ true → ArePlain first → is_hex 4 second ≡ true → IsEnd e → q ≡ p + length (first ++ 32 ∷ second)
    → (units (stretches p (first ++ 32 ∷ (second ++ e ∷ rest))) ≡ standing p (first ++ 32 ∷ second) ∷ units (stretches q (e ∷ rest))) × (end_place (stretches p (first ++ 32 ∷ (second ++ e ∷ rest))) ≡ end_place (stretches q (e ∷ rest)))
halves_units p q e first second rest h f d i k =
    let x = stretch_end q e rest i in
    let lengths : length (first ++ 32 ∷ second) ≡ length first + length (32 ∷ second) = length-append first (32 ∷ second) in
    let j : q ≡ p + length first + 1 + length second = omega arith in
    let s = stretch_token (p + length first + 1) q e second rest x.0 (hex_plain 4 second d) j x.1 in
    let r = stretch_separator (p + length first) 32 (second ++ e ∷ rest) refl in
    let t = stretch_token p (p + length first) 32 first (second ++ e ∷ rest) (stretches (p + length first + 1) (second ++ e ∷ rest)) f refl r ∙ ap (λ (ss : List Stretch). stretch p first 32 ∷ ss) s in (
      ap units t ∙ joined p (p + length first + 1) e first second x.0 h d ∙ ap (λ (us : List Standing). standing p (first ++ 32 ∷ second) ∷ us) (sym (ap units x.1 ∙ unit_empty q e x.0)),
      ap end_place t ∙ ap (λ (n : ℕ). cond (e == 41) (Some n) (end_place x.0)) (let l : p + length first + 1 + length second ≡ q + 0 = omega arith in l) ∙ ap end_place (sym x.1),
    )

-- a token and what ends it
pub token_units : (p q e : ℕ) (t rest : List ℕ) → IsToken t → IsEnd e → q ≡ p + length t → (units (stretches p (t ++ e ∷ rest)) ≡ standing p t ∷ units (stretches q (e ∷ rest))) × (end_place (stretches p (t ++ e ∷ rest)) ≡ end_place (stretches q (e ∷ rest)))
token_units p q e t rest (inl w) i k = whole_units p q e t rest w i k
token_units p q e t rest (inr h) i k =
    let a : t ++ e ∷ rest ≡ h.first ++ 32 ∷ (h.second ++ e ∷ rest) = ap (λ (x : List ℕ). x ++ e ∷ rest) h.text ∙ append_assoc h.first (32 ∷ h.second) (e ∷ rest) in
    let g = halves_units p q e h.first h.second rest h.half h.plain h.digits i (k ∙ ap (λ (x : List ℕ). p + length x) h.text) in (
      ap (λ (x : List ℕ). units (stretches p x)) a ∙ g.0 ∙ ap (λ (x : List ℕ). standing p x ∷ units (stretches q (e ∷ rest))) (sym h.text),
      ap (λ (x : List ℕ). end_place (stretches p x)) a ∙ g.1,
    )

-- a token, and the separators behind it
pub record Spread : Type 0 where
  pub token : List ℕ
  pub gap : List ℕ

abbrev pub spread_text : Spread → List ℕ
spread_text s = s.token ++ s.gap

abbrev pub AreSpread : List Spread → Type 0
AreSpread [] = Unit {0}
AreSpread (s ∷ []) = IsToken s.token × AreSeparators s.gap
AreSpread (s ∷ t ∷ ts) = IsToken s.token × AreSeparators s.gap × (s.gap ≢ []) × AreSpread (t ∷ ts)

abbrev pub standings : ℕ → List Spread → List Standing
standings p [] = []
standings p (s ∷ ss) = standing p s.token ∷ standings (p + length (spread_text s)) ss

-- what stands behind a token, up to `)` and the rest
pub record Behind (s : Spread) (ss : List Spread) (rest : List ℕ) : Type 0 where
  pub token : IsToken s.token
  pub separators : AreSeparators s.gap
  pub spread : AreSpread ss
  pub end : ℕ
  pub others : List ℕ
  pub ends : IsEnd end
  pub text : s.gap ++ (flat_map spread_text ss ++ 41 ∷ rest) ≡ end ∷ others

first_gap : (gap : List ℕ) (xs : List ℕ) → AreSeparators gap → gap ≢ [] → (e : ℕ) × (es : List ℕ) × (IsEnd e) × (gap ++ xs ≡ e ∷ es)
first_gap [] xs h f = absurd (f refl)
first_gap (b ∷ bs) xs h f = (b, bs ++ xs, inr (and_parts _ _ h).0, refl)

last_gap : (gap : List ℕ) (rest : List ℕ) → AreSeparators gap → (e : ℕ) × (es : List ℕ) × (IsEnd e) × (gap ++ 41 ∷ rest ≡ e ∷ es)
last_gap [] rest h = (41, rest, inl refl, refl)
last_gap (b ∷ bs) rest h = (b, bs ++ 41 ∷ rest, inr (and_parts _ _ h).0, refl)

pub behind : (s : Spread) (ss : List Spread) (rest : List ℕ) → AreSpread (s ∷ ss) → Behind s ss rest
behind s [] rest h =
    let e = last_gap s.gap rest h.1 in
    record { token = h.0; separators = h.1; spread = tt; end = e.0; others = e.1; ends = e.2; text = e.3 }
behind s (t ∷ ts) rest h =
    let e = first_gap s.gap (flat_map spread_text (t ∷ ts) ++ 41 ∷ rest) h.1 h.2 in
    record { token = h.0; separators = h.1; spread = h.3; end = e.0; others = e.1; ends = e.2; text = e.3 }

spread_front : (s : Spread) (ss : List Spread) (rest : List ℕ) → flat_map spread_text (s ∷ ss) ++ 41 ∷ rest ≡ s.token ++ (s.gap ++ (flat_map spread_text ss ++ 41 ∷ rest))
spread_front s ss rest = append_assoc (s.token ++ s.gap) (flat_map spread_text ss) (41 ∷ rest) ∙ append_assoc s.token s.gap (flat_map spread_text ss ++ 41 ∷ rest)

pub no_units : units [] ≡ []
unfolding units
no_units = refl

pub spread_units : (p : ℕ) (ss : List Spread) (rest : List ℕ) → AreSpread ss
    → (units (stretches p (flat_map spread_text ss ++ 41 ∷ rest)) ≡ standings p ss) × (end_place (stretches p (flat_map spread_text ss ++ 41 ∷ rest)) ≡ Some (p + length (flat_map spread_text ss)))
spread_units p [] rest h =
    let s = stretch_closed p rest in
    (ap units s ∙ unit_empty p 41 [] ∙ no_units, ap end_place s)
spread_units p (s ∷ ss) rest h =
    let b = behind s ss rest h in
    let q = p + length s.token in
    let xs = flat_map spread_text ss ++ 41 ∷ rest in
    let more = spread_units (q + length s.gap) ss rest b.spread in
    let k = token_units p q b.end s.token b.others b.token b.ends refl in
    let t : flat_map spread_text (s ∷ ss) ++ 41 ∷ rest ≡ s.token ++ b.end ∷ b.others = spread_front s ss rest ∙ ap (λ (x : List ℕ). s.token ++ x) b.text in
    let g = gap_units q s.gap xs b.separators in
    let gs = gap_end q s.gap xs b.separators in
    let l = length-append s.token s.gap in
    let fl : length (flat_map spread_text (s ∷ ss)) ≡ length (spread_text s) + length (flat_map spread_text ss) = length-append (spread_text s) (flat_map spread_text ss) in
    let n : q + length s.gap ≡ p + length (spread_text s) = omega arith in (
      ap (λ (x : List ℕ). units (stretches p x)) t ∙ k.0 ∙ ap (λ (us : List Standing). standing p s.token ∷ us) (ap (λ (x : List ℕ). units (stretches q x)) (sym b.text) ∙ g ∙ more.0 ∙ ap (λ (m : ℕ). standings m ss) n),
      ap (λ (x : List ℕ). end_place (stretches p x)) t ∙ k.1 ∙ ap (λ (x : List ℕ). end_place (stretches q x)) (sym b.text) ∙ gs ∙ more.1 ∙ ap (λ (m : ℕ). Some m) (let j : q + length s.gap + length (flat_map spread_text ss) ≡ p + length (flat_map spread_text (s ∷ ss)) = omega arith in j),
    )
