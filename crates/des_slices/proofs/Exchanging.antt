-- Vectors of the bits of numbers, by levels of exchanges.
use Rattle.std.proofs.Common.{◌≡◌, ◌≢◌, ℕ, zero, suc, ◌+◌, ◌-◌, ◌*◌, ◌/◌, ◌%◌, ◌^◌, ◌<◌, ◌≤◌, Bool, true, false, ◌&&◌, eqb, ltb, List, [], ◌∷◌, length, set, get_or, inl, inr, w64, refl, sym, ap, subst, ◌∙◌, arith}
use Rattle.std.specs.Prelude.{bit_and, bit_xor, min}
use Rattle.std.specs.Int.{bit_at}
use Rattle.std.specs.Simd.Lanes.{zip2}
use Rattle.std.proofs.lemmas.Bool.{agree_below, agree_below_at, and_parts, cases_lt, eqb-true, ltb-true}
use Rattle.std.proofs.lemmas.List.{ext_get_or, get_or-set_other, get_or-set_same, length-map, length-set}
use Rattle.std.proofs.lemmas.Nat.{pow_pos, shr-shr, shr_split}
use Rattle.std.proofs.lemmas.Nat.Bits.{bit_at-lt, bit_at-zero, bit_at_and, bit_at_cat_high, bit_at_cat_low, bit_at_not, bit_at_xor}
use Rattle.x_des.specs.Bits.{bits_of}
use Rattle.x_des.proofs.BitsLemmas.{get_or-bits, length-bits}
use Rattle.des_slices.specs.Exchanges.{Exchanged, IsMask, IsLevel, word_bit, place_from, vector_from}
use Rattle.des_slices.specs.Vectors.{lane, lane_bit}
use Rattle.des_slices.proofs.Lanes.{get_or-lane}

-- ---- shifted words

bit_shr : (n d p : ℕ) → bit_at (n / 2 ^ d) p ≡ bit_at n (p + d)
bit_shr n d p = ap (λ m. m % 2) (shr-shr n d p) ∙ ap (bit_at n) (let e : d + p ≡ p + d = omega arith in e)

bit_whole : (n p : ℕ) → p < 64 → bit_at (n % 2 ^ 64) p ≡ bit_at n p
bit_whole n p h = sym (bit_at_cat_low (n / 2 ^ 64) 64 (n % 2 ^ 64) p h) ∙ ap (λ m. bit_at m p) (shr_split n 64)

behind : (n d : ℕ) → n * 2 ^ d ≡ n * 2 ^ d + 0
behind n d = omega arith

bit_shl_below : (n d p : ℕ) → p < 64 → p < d → bit_at (n * 2 ^ d % 2 ^ 64) p ≡ 0
bit_shl_below n d p h q = bit_whole (n * 2 ^ d) p h ∙ ap (λ m. bit_at m p) (behind n d) ∙ bit_at_cat_low n d 0 p q ∙ bit_at-zero p

bit_shl : (n d p : ℕ) → p < 64 → d ≤ p → bit_at (n * 2 ^ d % 2 ^ 64) p ≡ bit_at n (p - d)
bit_shl n d p h q = bit_whole (n * 2 ^ d) p h ∙ ap (λ m. bit_at m p) (behind n d) ∙ bit_at_cat_high n d 0 p (pow_pos d) q

-- ---- two words

chosen_bits : ℕ → ℕ → ℕ → ℕ → ℕ
chosen_bits a b d m = bit_and (bit_xor (b / 2 ^ d) a) m

bit_chosen : (a b d m p : ℕ) → bit_at (chosen_bits a b d m) p ≡ min ((bit_at b (p + d) + bit_at a p) % 2) (bit_at m p)
unfolding chosen_bits
bit_chosen a b d m p =
    bit_at_and (bit_xor (b / 2 ^ d) a) m p
    ∙ ap (λ n. min n (bit_at m p)) (bit_at_xor (b / 2 ^ d) a p ∙ ap (λ n. (n + bit_at a p) % 2) (bit_shr b d p))

first : ℕ → ℕ → ℕ → ℕ → ℕ
first a b d m = bit_xor a (chosen_bits a b d m)

second : ℕ → ℕ → ℕ → ℕ → ℕ
second a b d m = bit_xor b (chosen_bits a b d m * 2 ^ d % 2 ^ 64)

first_kept : (a b d m p : ℕ) → bit_at m p ≡ 0 → bit_at (first a b d m) p ≡ bit_at a p
unfolding first
first_kept a b d m p z =
    let x = bit_at-lt a p in
    bit_at_xor a (chosen_bits a b d m) p
    ∙ ap (λ n. (bit_at a p + n) % 2) (bit_chosen a b d m p ∙ ap (min ((bit_at b (p + d) + bit_at a p) % 2)) z)
    ∙ omega arith

cancelled : (x y : ℕ) → x < 2 → y < 2 → (x + min ((y + x) % 2) 1) % 2 ≡ y
cancelled x y p q = omega arith

first_given : (a b d m p : ℕ) → bit_at m p ≡ 1 → bit_at (first a b d m) p ≡ bit_at b (p + d)
unfolding first
first_given a b d m p z =
    bit_at_xor a (chosen_bits a b d m) p
    ∙ ap (λ n. (bit_at a p + n) % 2) (bit_chosen a b d m p ∙ ap (min ((bit_at b (p + d) + bit_at a p) % 2)) z)
    ∙ cancelled (bit_at a p) (bit_at b (p + d)) (bit_at-lt a p) (bit_at-lt b (p + d))

-- a place and the one below it by the distance: the mask has one of them
mask_at : (d m p : ℕ) → IsMask d m → m < 2 ^ 64 → p < 64 → d ≤ p → bit_at m (p - d) ≡ 1 - bit_at m p
mask_at d m p e small h q = sym (bit_shl m d p h q) ∙ ap (λ n. bit_at n p) e ∙ bit_at_not w64 m p small h

mask_below : (d m p : ℕ) → IsMask d m → m < 2 ^ 64 → p < 64 → p < d → 0 ≡ 1 - bit_at m p
mask_below d m p e small h q = sym (bit_shl_below m d p h q) ∙ ap (λ n. bit_at n p) e ∙ bit_at_not w64 m p small h

second_kept : (a b d m p : ℕ) → IsMask d m → m < 2 ^ 64 → p < 64 → bit_at m p ≡ 1 → bit_at (second a b d m) p ≡ bit_at b p
unfolding second
second_kept a b d m p e small h z =
    let t = chosen_bits a b d m in
    let none : bit_at (t * 2 ^ d % 2 ^ 64) p ≡ 0 = elim (cases_lt p d) [
      | inl q ↦ bit_shl_below t d p h q
      | inr q ↦
          let other : bit_at m (p - d) ≡ 0 = mask_at d m p e small h q ∙ ap (λ n. 1 - n) z in
          bit_shl t d p h q ∙ bit_chosen a b d m (p - d) ∙ ap (min ((bit_at b (p - d + d) + bit_at a (p - d)) % 2)) other ∙ omega arith
    ] in
    let y = bit_at-lt b p in
    bit_at_xor b (t * 2 ^ d % 2 ^ 64) p ∙ ap (λ n. (bit_at b p + n) % 2) none ∙ omega arith

swapped : (x y : ℕ) → x < 2 → y < 2 → (y + min ((y + x) % 2) 1) % 2 ≡ x
swapped x y p q = omega arith

second_given : (a b d m p : ℕ) → IsMask d m → m < 2 ^ 64 → p < 64 → bit_at m p ≡ 0 → bit_at (second a b d m) p ≡ bit_at a (p - d)
unfolding second
second_given a b d m p e small h z =
    let t = chosen_bits a b d m in
    elim (cases_lt p d) [
      | inl q ↦ let no = mask_below d m p e small h q ∙ ap (λ n. 1 - n) z in absurd (omega arith)
      | inr q ↦
          let other : bit_at m (p - d) ≡ 1 = mask_at d m p e small h q ∙ ap (λ n. 1 - n) z in
          let same : p - d + d ≡ p = omega arith in
          bit_at_xor b (t * 2 ^ d % 2 ^ 64) p
          ∙ ap (λ n. (bit_at b p + n) % 2)
          (bit_shl t d p h q ∙ bit_chosen a b d m (p - d) ∙ ap (min ((bit_at b (p - d + d) + bit_at a (p - d)) % 2)) other
          ∙ ap (λ n. min ((bit_at b n + bit_at a (p - d)) % 2) 1) same)
          ∙ swapped (bit_at a (p - d)) (bit_at b p) (bit_at-lt a (p - d)) (bit_at-lt b p)
    ]

-- ---- two vectors

at_mask : (a c b v d m e w p z : ℕ) → IsMask d m → m < 2 ^ 64 → e < 2 → w < 2 → p < 64 → bit_at m p ≡ z → z < 2
    → word_bit ((first a b d m ∷ first c v d m ∷ []) ∷ (second a b d m ∷ second c v d m ∷ []) ∷ []) e w p ≡ word_bit ((a ∷ c ∷ []) ∷ (b ∷ v ∷ []) ∷ []) z w (p + d * z - d * e)
at_mask a c b v d m zero zero p zero f s h k i g j = first_kept a b d m p g ∙ ap (bit_at a) (omega arith)
at_mask a c b v d m zero (suc zero) p zero f s h k i g j = first_kept c v d m p g ∙ ap (bit_at c) (omega arith)
at_mask a c b v d m zero zero p (suc zero) f s h k i g j = first_given a b d m p g ∙ ap (bit_at b) (omega arith)
at_mask a c b v d m zero (suc zero) p (suc zero) f s h k i g j = first_given c v d m p g ∙ ap (bit_at v) (omega arith)
at_mask a c b v d m (suc zero) zero p zero f s h k i g j = second_given a b d m p f s i g ∙ ap (bit_at a) (omega arith)
at_mask a c b v d m (suc zero) (suc zero) p zero f s h k i g j = second_given c v d m p f s i g ∙ ap (bit_at c) (omega arith)
at_mask a c b v d m (suc zero) zero p (suc zero) f s h k i g j = second_kept a b d m p f s i g ∙ ap (bit_at b) (omega arith)
at_mask a c b v d m (suc zero) (suc zero) p (suc zero) f s h k i g j = second_kept c v d m p f s i g ∙ ap (bit_at v) (omega arith)
at_mask a c b v d m (suc (suc e)) w p z f s h k i g j = absurd (omega arith)
at_mask a c b v d m zero (suc (suc w)) p z f s h k i g j = absurd (omega arith)
at_mask a c b v d m (suc zero) (suc (suc w)) p z f s h k i g j = absurd (omega arith)
at_mask a c b v d m zero zero p (suc (suc z)) f s h k i g j = absurd (omega arith)
at_mask a c b v d m zero (suc zero) p (suc (suc z)) f s h k i g j = absurd (omega arith)
at_mask a c b v d m (suc zero) zero p (suc (suc z)) f s h k i g j = absurd (omega arith)
at_mask a c b v d m (suc zero) (suc zero) p (suc (suc z)) f s h k i g j = absurd (omega arith)

two_words : (v : List ℕ) → length v ≡ 2 → v ≡ get_or v 0 0 ∷ get_or v 1 0 ∷ []
two_words [] e = absurd (omega arith)
two_words (x ∷ []) e = absurd (omega arith)
two_words (x ∷ y ∷ []) e = refl
two_words (x ∷ y ∷ z ∷ v) e = absurd (omega arith)

-- what the code makes of two vectors
abbrev pub exchange : List ℕ → List ℕ → ℕ → ℕ → List (List ℕ)
exchange a b d m =
    let t = zip2 bit_and (zip2 bit_xor (zip2 (λ x y. x / 2 ^ y) b (d ∷ d ∷ [])) a) (m ∷ m ∷ []) in
    zip2 bit_xor a t ∷ zip2 bit_xor b (zip2 (λ x y. x * 2 ^ y % 2 ^ 64) t (d ∷ d ∷ [])) ∷ []

pub exchanged_is : (a b : List ℕ) (d m : ℕ) → length a ≡ 2 → length b ≡ 2 → IsMask d m → m < 2 ^ 64 → Exchanged d m (a ∷ b ∷ []) (exchange a b d m)
unfolding first second chosen_bits place_from
exchanged_is a b d m e f mask small =
    subst (λ x. Exchanged d m (x ∷ b ∷ []) (exchange x b d m)) (sym (two_words a e))
    (subst (λ y. Exchanged d m ((get_or a 0 0 ∷ get_or a 1 0 ∷ []) ∷ y ∷ []) (exchange (get_or a 0 0 ∷ get_or a 1 0 ∷ []) y d m)) (sym (two_words b f))
    (λ e w p h k i. at_mask (get_or a 0 0) (get_or a 1 0) (get_or b 0 0) (get_or b 1 0) d m e w p (bit_at m p) mask small h k i refl (bit_at-lt m p)))

-- ---- 64 vectors

last_two : (vs : List (List ℕ)) (k e : ℕ) (x y : List ℕ) → k < 32 → length vs ≡ 64 → e < 2 → get_or (set (set vs (2 * k) x) (2 * k + 1) y) (2 * k + e) [] ≡ get_or (x ∷ y ∷ []) e []
last_two vs k zero x y h size p =
    let at : 2 * k + 0 ≡ 2 * k = omega arith in
    let other : 2 * k ≢ 2 * k + 1 = omega arith in
    ap (λ n. get_or (set (set vs (2 * k) x) (2 * k + 1) y) n []) at ∙ get_or-set_other (set vs (2 * k) x) (2 * k + 1) (2 * k) y [] other ∙ get_or-set_same vs (2 * k) x [] (omega arith)
last_two vs k (suc zero) x y h size p =
    let long = length-set vs (2 * k) x in
    get_or-set_same (set vs (2 * k) x) (2 * k + 1) y [] (omega (arith, long))
last_two vs k (suc (suc e)) x y h size p = absurd (omega arith)

one_of_two : (vs : List (List ℕ)) (k z : ℕ) → z < 2 → get_or (get_or vs k [] ∷ get_or vs (32 + k) [] ∷ []) z [] ≡ get_or vs (k + 32 * z) []
one_of_two vs k zero h = ap (λ n. get_or vs n []) (omega arith)
one_of_two vs k (suc zero) h = ap (λ n. get_or vs n []) (omega arith)
one_of_two vs k (suc (suc z)) h = absurd (omega arith)

pub level_more : (d m k : ℕ) (old new pair : List (List ℕ)) → k < 32 → length new ≡ 64
    → Exchanged d m (get_or old k [] ∷ get_or old (32 + k) [] ∷ []) pair
    → ((i w p : ℕ) → i < 2 * k → w < 2 → p < 64 → word_bit new i w p ≡ word_bit old (vector_from m i p) w (place_from d m (i % 2) p))
    → (i w p : ℕ) → i < 2 * (k + 1) → w < 2 → p < 64
    → word_bit (set (set new (2 * k) (get_or pair 0 [])) (2 * k + 1) (get_or pair 1 [])) i w p ≡ word_bit old (vector_from m i p) w (place_from d m (i % 2) p)
unfolding vector_from
level_more d m k old new pair h size exchanged so_far i w p within v q =
    let x = get_or pair 0 [] in
    let y = get_or pair 1 [] in
    let vs = set (set new (2 * k) x) (2 * k + 1) y in
    elim (cases_lt i (2 * k)) [
      | inl b ↦
          let first : i ≢ 2 * k = omega arith in
          let second : i ≢ 2 * k + 1 = omega arith in
          ap (λ u. bit_at (get_or u w 0) p) (get_or-set_other (set new (2 * k) x) (2 * k + 1) i y [] second ∙ get_or-set_other new (2 * k) i x [] first)
          ∙ so_far i w p b v q
      | inr b ↦
          let e = i % 2 in
          let one : e < 2 = omega arith in
          let at : i ≡ 2 * k + e = omega arith in
          let half : k ≡ i / 2 = omega arith in
          let z = bit_at m p in
          ap (λ u. bit_at (get_or u w 0) p) (ap (λ n. get_or vs n []) at ∙ last_two new k e x y h size one ∙ pair_at pair e one)
          ∙ exchanged e w p one v q
          ∙ ap (λ u. bit_at (get_or u w 0) (place_from d m e p)) (one_of_two old k z (bit_at-lt m p) ∙ ap (λ n. get_or old (n + 32 * z) []) half)
    ]
  where
    pair_at : (vs : List (List ℕ)) (e : ℕ) → e < 2 → get_or (get_or vs 0 [] ∷ get_or vs 1 [] ∷ []) e [] ≡ get_or vs e []
    pair_at vs zero h = refl
    pair_at vs (suc zero) h = refl
    pair_at vs (suc (suc e)) h = absurd (omega arith)

pub length-set-set : (vs : List (List ℕ)) (k : ℕ) (x y : List ℕ) → length vs ≡ 64 → length (set (set vs (2 * k) x) (2 * k + 1) y) ≡ 64
length-set-set vs k x y e = length-set (set vs (2 * k) x) (2 * k + 1) y ∙ length-set vs (2 * k) x ∙ e

-- ---- numbers side by side

pub paired_more : (numbers : List ℕ) (words : List (List ℕ)) (i : ℕ) → i < 64 → length words ≡ 64
    → ((k w : ℕ) → k < i → w < 2 → get_or (get_or words k []) w 0 ≡ get_or numbers (64 * w + (63 - k)) 0)
    → (k w : ℕ) → k < i + 1 → w < 2 → get_or (get_or (set words i (get_or numbers (63 - i) 0 ∷ get_or numbers (127 - i) 0 ∷ [])) k []) w 0 ≡ get_or numbers (64 * w + (63 - k)) 0
paired_more numbers words i h size so_far k w within p =
    let pair = get_or numbers (63 - i) 0 ∷ get_or numbers (127 - i) 0 ∷ [] in
    elim (cases_lt k i) [
      | inl b ↦
          let other : k ≢ i = omega arith in
          ap (λ v. get_or v w 0) (get_or-set_other words i k pair [] other) ∙ so_far k w b p
      | inr b ↦
          let same : k ≡ i = omega arith in
          ap (λ n. get_or (get_or (set words i pair) n []) w 0) same ∙ ap (λ v. get_or v w 0) (get_or-set_same words i pair [] (omega arith))
          ∙ of_two w p ∙ ap (λ n. get_or numbers (64 * w + (63 - n)) 0) (sym same)
    ]
  where
    of_two : (w : ℕ) → w < 2 → get_or (get_or numbers (63 - i) 0 ∷ get_or numbers (127 - i) 0 ∷ []) w 0 ≡ get_or numbers (64 * w + (63 - i)) 0
    of_two zero p = ap (λ n. get_or numbers n 0) (omega arith)
    of_two (suc zero) p = ap (λ n. get_or numbers n 0) (omega arith)
    of_two (suc (suc w)) p = absurd (omega arith)

-- ---- six levels

through : ℕ → ℕ → (ℕ → ℕ → Bool) → ℕ → ℕ → Bool
through d m go_on i p = go_on (vector_from m i p) (place_from d m (i % 2) p)

lands : ℕ → ℕ → Bool
lands i p =
    through 1 0x5555555555555555 (through 2 0x3333333333333333 (through 4 0x0f0f0f0f0f0f0f0f (through 8 0x00ff00ff00ff00ff (through 16 0x0000ffff0000ffff (through 32 0x00000000ffffffff (λ j q. eqb j (63 - p) && eqb q (63 - i)))))))
    i p

all_land : agree_below (λ i. agree_below (lands i) (λ n. true) 64) (λ n. true) 64 ≡ true
unfolding lands through vector_from place_from
all_land = refl

lands_at : (i p : ℕ) → i < 64 → p < 64 → lands i p ≡ true
lands_at i p h q = agree_below_at (lands i) (λ n. true) 64 p (agree_below_at (λ j. agree_below (lands j) (λ n. true) 64) (λ n. true) 64 i all_land h) q

vector_from-lt : (m i p : ℕ) → i < 64 → vector_from m i p < 64
unfolding vector_from
vector_from-lt m i p h = let b = bit_at-lt m p in omega arith

place_from-lt : (d m e p : ℕ) → agree_below (λ q. ltb (q + d * bit_at m q) 64) (λ n. true) 64 ≡ true → p < 64 → place_from d m e p < 64
unfolding place_from
place_from-lt d m e p room h = let b = ltb-true _ _ (agree_below_at (λ q. ltb (q + d * bit_at m q) 64) (λ n. true) 64 p room h) in omega arith

pub six_levels : (v0 v1 v2 v3 v4 v5 v6 : List (List ℕ)) → IsLevel 32 0x00000000ffffffff v0 v1 → IsLevel 16 0x0000ffff0000ffff v1 v2 → IsLevel 8 0x00ff00ff00ff00ff v2 v3
    → IsLevel 4 0x0f0f0f0f0f0f0f0f v3 v4 → IsLevel 2 0x3333333333333333 v4 v5 → IsLevel 1 0x5555555555555555 v5 v6
    → (i w p : ℕ) → i < 64 → w < 2 → p < 64 → word_bit v6 i w p ≡ word_bit v0 (63 - p) w (63 - i)
unfolding lands through
six_levels v0 v1 v2 v3 v4 v5 v6 t1 t2 t3 t4 t5 t6 i w p h v q =
    let i5 = vector_from 0x5555555555555555 i p in
    let p5 = place_from 1 0x5555555555555555 (i % 2) p in
    let h5 = vector_from-lt 0x5555555555555555 i p h in
    let q5 = place_from-lt 1 0x5555555555555555 (i % 2) p refl q in
    let i4 = vector_from 0x3333333333333333 i5 p5 in
    let p4 = place_from 2 0x3333333333333333 (i5 % 2) p5 in
    let h4 = vector_from-lt 0x3333333333333333 i5 p5 h5 in
    let q4 = place_from-lt 2 0x3333333333333333 (i5 % 2) p5 refl q5 in
    let i3 = vector_from 0x0f0f0f0f0f0f0f0f i4 p4 in
    let p3 = place_from 4 0x0f0f0f0f0f0f0f0f (i4 % 2) p4 in
    let h3 = vector_from-lt 0x0f0f0f0f0f0f0f0f i4 p4 h4 in
    let q3 = place_from-lt 4 0x0f0f0f0f0f0f0f0f (i4 % 2) p4 refl q4 in
    let i2 = vector_from 0x00ff00ff00ff00ff i3 p3 in
    let p2 = place_from 8 0x00ff00ff00ff00ff (i3 % 2) p3 in
    let h2 = vector_from-lt 0x00ff00ff00ff00ff i3 p3 h3 in
    let q2 = place_from-lt 8 0x00ff00ff00ff00ff (i3 % 2) p3 refl q3 in
    let i1 = vector_from 0x0000ffff0000ffff i2 p2 in
    let p1 = place_from 16 0x0000ffff0000ffff (i2 % 2) p2 in
    let h1 = vector_from-lt 0x0000ffff0000ffff i2 p2 h2 in
    let q1 = place_from-lt 16 0x0000ffff0000ffff (i2 % 2) p2 refl q2 in
    let i0 = vector_from 0x00000000ffffffff i1 p1 in
    let p0 = place_from 32 0x00000000ffffffff (i1 % 2) p1 in
    let landed = and_parts (eqb i0 (63 - p)) (eqb p0 (63 - i)) (lands_at i p h q) in
    t6 i w p h v q ∙ t5 i5 w p5 h5 v q5 ∙ t4 i4 w p4 h4 v q4 ∙ t3 i3 w p3 h3 v q3 ∙ t2 i2 w p2 h2 v q2 ∙ t1 i1 w p1 h1 v q1
    ∙ ap (λ n. word_bit v0 n w p0) (eqb-true i0 (63 - p) landed.0) ∙ ap (word_bit v0 (63 - p) w) (eqb-true p0 (63 - i) landed.1)

wide : (l : ℕ) (vs : List (List ℕ)) → length vs ≡ 64 → length (lane l vs) ≡ 64
unfolding lane
wide l vs e = length-map vs (lane_bit l) ∙ e

-- the bits of a number, in its lane
pub lane_is : (numbers : List ℕ) (words vectors : List (List ℕ)) → length vectors ≡ 64
    → ((i w : ℕ) → i < 64 → w < 2 → get_or (get_or words i []) w 0 ≡ get_or numbers (64 * w + (63 - i)) 0)
    → ((i w p : ℕ) → i < 64 → w < 2 → p < 64 → word_bit vectors i w p ≡ word_bit words (63 - p) w (63 - i))
    → (l : ℕ) → l < 128 → lane l vectors ≡ bits_of 64 (get_or numbers l 0)
lane_is numbers words vectors size paired crossed l h =
    let n = get_or numbers l 0 in
    let w = l / 64 in
    let p = l % 64 in
    let long = wide l vectors size in
    ext_get_or false (lane l vectors) (bits_of 64 n) (long ∙ sym (length-bits 64 n)) (λ i q.
    let within : i < 64 = omega arith in
    let at : 64 * w + (63 - (63 - p)) ≡ l = omega arith in
    sym (get_or-lane l vectors i)
    ∙ ap (λ b. eqb b 1) (crossed i w p within (omega arith) (omega arith) ∙ ap (λ m. bit_at m (63 - i)) (paired (63 - p) w (omega arith) (omega arith) ∙ ap (λ k. get_or numbers k 0) at))
    ∙ sym (get_or-bits 64 n i false within))
