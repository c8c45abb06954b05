-- The cipher function by combined tables is that over lists of bits.
use Rattle.std.proofs.Common.{◌≡◌, ℕ, zero, suc, ◌+◌, ◌-◌, ◌*◌, ◌<◌, ◌≤◌, Bool, false, List, [], ◌∷◌, ◌++◌, length, take, drop, replicate, get_or, refl, sym, ap, ◌∙◌, arith, append_assoc}
use Rattle.std.specs.Prelude.{bit_and, bit_xor}
use Rattle.std.proofs.lemmas.List.{append-nil, length-append, length-replicate, length-take-le, take_all, take_at, drop_at, drop-drop, at_drop_more, length-drop}
use Rattle.std.specs.Int.Bits.{xor_zero_l}
use Rattle.std.proofs.Math.Seq.{take-add}
use Rattle.x_des.specs.Bits.{bits_of, chosen, pick, exclusive_or}
use Rattle.x_des.specs.Block.{IsDoubled, doubled, half, sixes}
use Rattle.x_des.specs.RoundKey.{gathered}
use Rattle.x_des.specs.Des.{substituted, substitution}
use Rattle.x_des.specs.Combined.{placed, box_and_permutation_of}
use Rattle.x_des.specs.Tables.{expansion, permutation, s_boxes}
use Rattle.x_des.proofs.BitsLemmas.{length-pick, bits-bit_xor, bits-number_at}
use Rattle.x_des.proofs.Words.{bits-sixes}
use Rattle.x_des.proofs.ExclusiveOr.{pick-exclusive_or, exclusive_or-append, exclusive_or-zeros, zeros-exclusive_or}

pub length-substituted : (box : List ℕ) (six : List Bool) → length (substituted box six) ≡ 4
unfolding substituted bits_of
length-substituted box six = refl

pub length-substitution : (boxes : List (List ℕ)) (bs : List Bool) → length (substitution boxes bs) ≡ 4 * length boxes
unfolding substitution
length-substitution [] bs = refl
length-substitution (box ∷ boxes) bs =
    length-append (substituted box (take 6 bs)) (substitution boxes (drop 6 bs))
    ∙ omega (arith, length-substituted box (take 6 bs), length-substitution boxes (drop 6 bs))

-- what the boxes from i on give
drop-substitution : (i : ℕ) (boxes : List (List ℕ)) (bs : List Bool) → i ≤ length boxes → drop (4 * i) (substitution boxes bs) ≡ substitution (drop i boxes) (drop (6 * i) bs)
unfolding substitution
drop-substitution zero boxes bs h = refl
drop-substitution (suc i) [] bs h = absurd (omega arith)
drop-substitution (suc i) (box ∷ boxes) bs h =
    ap (λ n. drop n (substituted box (take 6 bs) ++ substitution boxes (drop 6 bs))) (let e : 4 * suc i ≡ 4 + 4 * i = omega arith in e)
    ∙ sym (drop-drop (4 * i) 4 (substituted box (take 6 bs) ++ substitution boxes (drop 6 bs)))
    ∙ ap (drop (4 * i)) (drop_at (substituted box (take 6 bs)) (substitution boxes (drop 6 bs)) 4 (length-substituted box (take 6 bs)))
    ∙ drop-substitution i boxes (drop 6 bs) (omega arith)
    ∙ ap (substitution (drop i boxes)) (drop-drop (6 * i) 6 bs ∙ ap (λ n. drop n bs) (let e : 6 + 6 * i ≡ 6 * suc i = omega arith in e))

-- the four bits of box i
four-substitution : (i : ℕ) (boxes : List (List ℕ)) (bs : List Bool) → i < length boxes
    → take 4 (drop (4 * i) (substitution boxes bs)) ≡ substituted (get_or boxes i []) (take 6 (drop (6 * i) bs))
unfolding substitution
four-substitution i boxes bs h =
    ap (take 4) (drop-substitution i boxes bs (omega arith))
    ∙ ap (take 4) (at_drop_more (λ xs. substitution xs (drop (6 * i) bs)) boxes i [] h)
    ∙ take_at (substituted (get_or boxes i []) (take 6 (drop (6 * i) bs))) _ 4 (length-substituted (get_or boxes i []) (take 6 (drop (6 * i) bs)))

-- a list filled with zeros to 32 bits
abbrev pub padded : List Bool → List Bool
padded bs = bs ++ replicate (32 - length bs) false

-- one box more, in its place among zeros
pub placed_more : (i : ℕ) (full : List Bool) → i < 8 → length full ≡ 32
    → exclusive_or (padded (take (4 * i) full)) (placed i (take 4 (drop (4 * i) full))) ≡ padded (take (4 * (i + 1)) full)
placed_more i full h size =
    let front = take (4 * i) full in
    let four = take 4 (drop (4 * i) full) in
    let zs = replicate (28 - 4 * i) false in
    let las : length front ≡ 4 * i = length-take-le (4 * i) full (omega arith) in
    let lfour : length four ≡ 4 = length-take-le 4 (drop (4 * i) full) (omega (arith, length-drop (4 * i) full)) in
    let rest : length (four ++ zs) ≡ 32 - length front = length-append four zs ∙ omega (arith, lfour, las, length-replicate (28 - 4 * i) false) in
    let next : take (4 * (i + 1)) full ≡ front ++ four = ap (λ n. take n full) (let e : 4 * (i + 1) ≡ 4 * i + 4 = omega arith in e) ∙ take-add (4 * i) 4 full in
    let lnext : length (front ++ four) ≡ 4 * i + 4 = length-append front four ∙ omega (arith, las, lfour) in
    ap (exclusive_or (padded front)) (append_assoc (replicate (4 * i) false) four zs)
    ∙ exclusive_or-append front (replicate (32 - length front) false) (replicate (4 * i) false) (four ++ zs) (las ∙ sym (length-replicate (4 * i) false))
    ∙ ap (λ bs. bs ++ exclusive_or (replicate (32 - length front) false) (four ++ zs)) (exclusive_or-zeros front (4 * i))
    ∙ ap (λ bs. front ++ bs) (zeros-exclusive_or (32 - length front) (four ++ zs) rest)
    ∙ sym (append_assoc front four zs)
    ∙ ap (λ n. (front ++ four) ++ replicate n false) (let e : 28 - 4 * i ≡ 32 - length (front ++ four) = omega (arith, lnext) in e)
    ∙ sym (ap padded next)

-- one box more
pub combined_step : (i v six : ℕ) (x : List Bool) → i < 8 → bits_of 6 six ≡ take 6 (drop (6 * i) x)
    → bits_of 32 v ≡ pick permutation (padded (take (4 * i) (substitution s_boxes x)))
    → bits_of 32 (bit_xor v (box_and_permutation_of i six)) ≡ pick permutation (padded (take (4 * (i + 1)) (substitution s_boxes x)))
unfolding box_and_permutation_of
combined_step i v six x h e so_far =
    let full = substitution s_boxes x in
    let size : length full ≡ 32 = length-substitution s_boxes x in
    let four = take 4 (drop (4 * i) full) in
    let box : substituted (get_or s_boxes i []) (bits_of 6 six) ≡ four
    = ap (substituted (get_or s_boxes i [])) e ∙ sym (four-substitution i s_boxes x h) in
    let entry : bits_of 32 (box_and_permutation_of i six) ≡ pick permutation (placed i four)
    = bits-number_at 32 (pick permutation (placed i (substituted (get_or s_boxes i []) (bits_of 6 six)))) (length-pick permutation _) ∙ ap (λ bs. pick permutation (placed i bs)) box in
    let taken : length (take (4 * i) full) ≡ 4 * i = length-take-le (4 * i) full (omega (arith, size)) in
    let lfour : length four ≡ 4 = length-take-le 4 (drop (4 * i) full) (omega (arith, size, length-drop (4 * i) full)) in
    let left : length (padded (take (4 * i) full)) ≡ 32
    = length-append (take (4 * i) full) (replicate (32 - length (take (4 * i) full)) false) ∙ omega (arith, taken, length-replicate (32 - length (take (4 * i) full)) false) in
    let right : length (placed i four) ≡ 32
    = length-append (replicate (4 * i) false ++ four) (replicate (28 - 4 * i) false)
    ∙ omega (arith, lfour, length-append (replicate (4 * i) false) four, length-replicate (4 * i) false, length-replicate (28 - 4 * i) false) in
    let las : length (padded (take (4 * i) full)) ≡ length (placed i four) = left ∙ sym right in
    bits-bit_xor 32 v (box_and_permutation_of i six)
    ∙ ap (λ bs. exclusive_or bs (bits_of 32 (box_and_permutation_of i six))) so_far
    ∙ ap (exclusive_or (pick permutation (padded (take (4 * i) full)))) entry
    ∙ sym (pick-exclusive_or permutation (padded (take (4 * i) full)) (placed i four) las)
    ∙ ap (pick permutation) (placed_more i full h size)

combined_none : bits_of 32 0 ≡ pick permutation (padded [])
unfolding bits_of pick
combined_none = refl

combined_all : (x : List Bool) → pick permutation (padded (take 32 (substitution s_boxes x))) ≡ pick permutation (substitution s_boxes x)
combined_all x =
    let full = substitution s_boxes x in
    let size : length full ≡ 32 = length-substitution s_boxes x in
    ap (λ bs. pick permutation (padded bs)) (take_all 32 full (omega arith))
    ∙ ap (λ n. pick permutation (full ++ replicate (32 - n) false)) size
    ∙ ap (pick permutation) (append-nil full)

-- the eight boxes
pub combined_is : (a b c d e f g h : ℕ) (x : List Bool)
    → bits_of 6 a ≡ take 6 (drop 0 x) → bits_of 6 b ≡ take 6 (drop 6 x) → bits_of 6 c ≡ take 6 (drop 12 x) → bits_of 6 d ≡ take 6 (drop 18 x)
    → bits_of 6 e ≡ take 6 (drop 24 x) → bits_of 6 f ≡ take 6 (drop 30 x) → bits_of 6 g ≡ take 6 (drop 36 x) → bits_of 6 h ≡ take 6 (drop 42 x)
    → bits_of 32 (bit_xor (bit_xor (bit_xor (bit_xor (bit_xor (bit_xor (bit_xor (box_and_permutation_of 0 a) (box_and_permutation_of 1 b)) (box_and_permutation_of 2 c)) (box_and_permutation_of 3 d)) (box_and_permutation_of 4 e)) (box_and_permutation_of 5 f)) (box_and_permutation_of 6 g)) (box_and_permutation_of 7 h))
    ≡ pick permutation (substitution s_boxes x)
combined_is a b c d e f g h x p0 p1 p2 p3 p4 p5 p6 p7 =
    let v0 : bits_of 32 (box_and_permutation_of 0 a) ≡ pick permutation (padded (take (4 * 1) (substitution s_boxes x)))
    = ap (bits_of 32) (sym (xor_zero_l (box_and_permutation_of 0 a))) ∙ combined_step 0 0 a x (omega arith) p0 combined_none in
    let v1 = combined_step 1 (box_and_permutation_of 0 a) b x (omega arith) p1 v0 in
    let v2 = combined_step 2 _ c x (omega arith) p2 v1 in
    let v3 = combined_step 3 _ d x (omega arith) p3 v2 in
    let v4 = combined_step 4 _ e x (omega arith) p4 v3 in
    let v5 = combined_step 5 _ f x (omega arith) p5 v4 in
    let v6 = combined_step 6 _ g x (omega arith) p6 v5 in
    combined_step 7 _ h x (omega arith) p7 v6 ∙ combined_all x

-- ---- E by doubled halves

-- what the boxes are given
abbrev pub given : ℕ → ℕ → List Bool
given wide key = exclusive_or (pick expansion (half wide)) (gathered (bits_of 64 key))

-- the doubled half and the round key, of which the last six bits of each byte count
abbrev both : ℕ → ℕ → List Bool
both wide key = exclusive_or (doubled (half wide)) (sixes 8 (bits_of 64 key))

-- each byte of a word begins with two zeros, and ends with the six bits of a box
pub record Groups (n wide key : ℕ) : Type 0 where
  pub z1 : take 2 (drop 0 (bits_of 64 n)) ≡ false ∷ false ∷ []
  pub z2 : take 2 (drop 32 (bits_of 64 n)) ≡ false ∷ false ∷ []
  pub z3 : take 2 (drop 8 (bits_of 64 n)) ≡ false ∷ false ∷ []
  pub z4 : take 2 (drop 40 (bits_of 64 n)) ≡ false ∷ false ∷ []
  pub z5 : take 2 (drop 16 (bits_of 64 n)) ≡ false ∷ false ∷ []
  pub z6 : take 2 (drop 48 (bits_of 64 n)) ≡ false ∷ false ∷ []
  pub z7 : take 2 (drop 24 (bits_of 64 n)) ≡ false ∷ false ∷ []
  pub z8 : take 2 (drop 56 (bits_of 64 n)) ≡ false ∷ false ∷ []
  pub s1 : take 6 (drop 2 (bits_of 64 n)) ≡ take 6 (drop 0 (given wide key))
  pub s2 : take 6 (drop 34 (bits_of 64 n)) ≡ take 6 (drop 6 (given wide key))
  pub s3 : take 6 (drop 10 (bits_of 64 n)) ≡ take 6 (drop 12 (given wide key))
  pub s4 : take 6 (drop 42 (bits_of 64 n)) ≡ take 6 (drop 18 (given wide key))
  pub s5 : take 6 (drop 18 (bits_of 64 n)) ≡ take 6 (drop 24 (given wide key))
  pub s6 : take 6 (drop 50 (bits_of 64 n)) ≡ take 6 (drop 30 (given wide key))
  pub s7 : take 6 (drop 26 (bits_of 64 n)) ≡ take 6 (drop 36 (given wide key))
  pub s8 : take 6 (drop 58 (bits_of 64 n)) ≡ take 6 (drop 42 (given wide key))

pub groups : (n wide key : ℕ) → bits_of 64 n ≡ both wide key → Groups n wide key
unfolding bits_of chosen pick exclusive_or sixes
groups n wide key e = record {
  z1 = ap (λ bs. take 2 (drop 0 bs)) e;
  z2 = ap (λ bs. take 2 (drop 32 bs)) e;
  z3 = ap (λ bs. take 2 (drop 8 bs)) e;
  z4 = ap (λ bs. take 2 (drop 40 bs)) e;
  z5 = ap (λ bs. take 2 (drop 16 bs)) e;
  z6 = ap (λ bs. take 2 (drop 48 bs)) e;
  z7 = ap (λ bs. take 2 (drop 24 bs)) e;
  z8 = ap (λ bs. take 2 (drop 56 bs)) e;
  s1 = ap (λ bs. take 6 (drop 2 bs)) e;
  s2 = ap (λ bs. take 6 (drop 34 bs)) e;
  s3 = ap (λ bs. take 6 (drop 10 bs)) e;
  s4 = ap (λ bs. take 6 (drop 42 bs)) e;
  s5 = ap (λ bs. take 6 (drop 18 bs)) e;
  s6 = ap (λ bs. take 6 (drop 50 bs)) e;
  s7 = ap (λ bs. take 6 (drop 26 bs)) e;
  s8 = ap (λ bs. take 6 (drop 58 bs)) e;
}

pub groups_of : (wide key : ℕ) → IsDoubled wide → Groups (bit_xor wide (bit_and key 4557430888798830399)) wide key
groups_of wide key e =
    let last_six = bit_and key 4557430888798830399 in
    groups (bit_xor wide last_six) wide key
    (bits-bit_xor 64 wide last_six ∙ ap (λ bs. exclusive_or bs (bits_of 64 last_six)) e ∙ ap (exclusive_or (doubled (half wide))) (bits-sixes key))

-- exclusive or of doubled words
pub doubled-exclusive_or : (a b : ℕ) → exclusive_or (doubled (bits_of 32 a)) (doubled (bits_of 32 b)) ≡ doubled (exclusive_or (bits_of 32 a) (bits_of 32 b))
unfolding bits_of exclusive_or sixes
doubled-exclusive_or a b = refl

pub doubled_sum : (x y a b : ℕ) → bits_of 64 x ≡ doubled (bits_of 32 a) → bits_of 64 y ≡ doubled (bits_of 32 b) → bits_of 64 (bit_xor x y) ≡ doubled (bits_of 32 (bit_xor a b))
doubled_sum x y a b p q =
    bits-bit_xor 64 x y ∙ ap (λ bs. exclusive_or bs (bits_of 64 y)) p ∙ ap (exclusive_or (doubled (bits_of 32 a))) q
    ∙ doubled-exclusive_or a b ∙ ap doubled (sym (bits-bit_xor 32 a b))
