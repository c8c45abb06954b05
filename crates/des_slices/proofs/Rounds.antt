-- What is put onto a half, four vectors at a time.
use Rattle.std.proofs.Common.{◌≡◌, ℕ, zero, suc, ◌+◌, ◌-◌, ◌*◌, ◌/◌, ◌%◌, ◌<◌, Bool, true, false, eqb, List, [], ◌∷◌, ◌++◌, take, drop, set, length, get_or, refl, sym, ap, subst, ◌∙◌, add-one, arith}
use Rattle.std.specs.Prelude.{bit_xor, nat_lt}
use Rattle.std.specs.List.{list_all, range_with_len}
use Rattle.std.specs.Simd.Lanes.{pick_l, zip2}
use Rattle.std.proofs.lemmas.Bool.{agree_below, agree_below_at, and_parts, eqb-true, ltb-true}
use Rattle.std.proofs.lemmas.List.{get_or-drop, get_or-map, get_or-take, length-drop, length-take, map-set}
use Rattle.std.proofs.lemmas.Simd.{pick_l_whole}
use Rattle.std.proofs.Math.Facts.{Fits-xor}
use Rattle.x_des.specs.Bits.{differ, exclusive_or, pick}
use Rattle.x_des.specs.Des.{cipher, substituted, substitution}
use Rattle.x_des.specs.Tables.{expansion, ip, permutation, s1, s2, s3, s4, s5, s6, s7, s8, s_boxes}
use Rattle.x_des.proofs.BitsLemmas.{length-exclusive_or, length-pick}
use Rattle.x_des.proofs.ExclusiveOr.{get_or-exclusive_or}
use Rattle.des_slices.specs.declared.vector.Vector.{Vector}
use Rattle.des_slices.specs.Vectors.{AreVectors, IsVector, lane, lane_bit, put_at, words_of}
use Rattle.des_slices.proofs.Blocks.{bit_in, length-lane}
use Rattle.des_slices.proofs.Filling.{vectors-set}
use Rattle.des_slices.proofs.Gates.{length-substituted, vector_zip}
use Rattle.des_slices.proofs.Lanes.{lane_bit-xor, vector_at}

abbrev none : Vector
none = record { words = [] }

abbrev pub put_vector : Vector → Vector → Vector
put_vector v w = record { words = zip2 bit_xor v.words w.words }

vector_put : (v w : Vector) → IsVector v.words → IsVector w.words → IsVector (put_vector v w).words
vector_put v w p q = vector_zip bit_xor (λ a b x y. Fits-xor x y) v.words w.words p q

-- ---- the six bits at a box's turn

unfoldable pub six : ℕ → List Bool → List Bool → List Bool
six turn half key = take 6 (drop (6 * turn) (exclusive_or (pick expansion half) key))

places_expanded : agree_below (λ m. eqb (get_or expansion m 0 - 1) ((4 * (m / 6) + m % 6 + 31) % 32)) (λ m. true) 48 ≡ true
places_expanded = refl

place_expanded : (turn i : ℕ) → turn < 8 → i < 6 → get_or expansion (6 * turn + i) 0 - 1 ≡ (4 * turn + i + 31) % 32
place_expanded turn i p q =
    let m = 6 * turn + i in
    let quotient : m / 6 ≡ turn = omega arith in
    let rest : m % 6 ≡ i = omega arith in
    eqb-true _ _ (agree_below_at (λ m. eqb (get_or expansion m 0 - 1) ((4 * (m / 6) + m % 6 + 31) % 32)) (λ m. true) 48 m places_expanded (omega arith))
    ∙ ap (λ t. (4 * t + m % 6 + 31) % 32) quotient ∙ ap (λ j. (4 * turn + j + 31) % 32) rest

pub length-six : (turn : ℕ) (half key : List Bool) → turn < 8 → length (six turn half key) ≡ 6
unfolding six
length-six turn half key p =
    let bits = exclusive_or (pick expansion half) key in
    let size : length bits ≡ 48 = length-exclusive_or (pick expansion half) key ∙ length-pick expansion half in
    omega (arith, size, length-take 6 (drop (6 * turn) bits), length-drop (6 * turn) bits)

abbrev six_vector : ℕ → ℕ → List Vector → List Vector → Vector
six_vector turn i half key = put_vector (get_or half ((4 * turn + i + 31) % 32) none) (get_or key (6 * turn + i) none)

pub vector_six : (turn i : ℕ) (half key : List Vector) → turn < 8 → i < 6 → length half ≡ 32 → length key ≡ 48 → AreVectors half → AreVectors key → IsVector (six_vector turn i half key).words
vector_six turn i half key p q e f vs ws =
    vector_put _ _ (vector_at half ((4 * turn + i + 31) % 32) none (omega arith) vs) (vector_at key (6 * turn + i) none (omega arith) ws)

pub six_at : (l turn i : ℕ) (half key : List Vector) → l < 128 → turn < 8 → i < 6 → length half ≡ 32 → length key ≡ 48 → AreVectors half → AreVectors key
    → lane_bit l (six_vector turn i half key).words
    ≡ get_or (six turn (lane l (words_of half)) (lane l (words_of key))) i false
unfolding six pick
six_at l turn i half key h p q e f vs ws =
    let place = (4 * turn + i + 31) % 32 in
    let m = 6 * turn + i in
    let a = lane l (words_of half) in
    let b = lane l (words_of key) in
    let in_half : place < length half = omega arith in
    let in_key : m < length key = omega arith in
    lane_bit-xor l (get_or half place none).words (get_or key m none).words h (vector_at half place none in_half vs) (vector_at key m none in_key ws)
    ∙ ap (λ x. differ x (lane_bit l (get_or key m none).words)) (bit_in l half place none in_half ∙ ap (λ n. get_or a n false) (sym (place_expanded turn i p q))
    ∙ sym (get_or-map (λ n. get_or a (n - 1) false) expansion m 0 false (omega arith)))
    ∙ ap (differ (get_or (pick expansion a) m false)) (bit_in l key m none in_key)
    ∙ sym (get_or-exclusive_or (pick expansion a) b m (length-pick expansion a ∙ sym (length-lane l 48 key f)))
    ∙ sym (get_or-take 6 (drop (6 * turn) (exclusive_or (pick expansion a) b)) i false q ∙ get_or-drop (6 * turn) (exclusive_or (pick expansion a) b) i false)

-- ---- bits that are put at places

pub put_more : (ps : List ℕ) (cs bs : List Bool) (i : ℕ) → i < length ps → i < length cs
    → put_at (take (suc i) ps) (take (suc i) cs) bs
    ≡ set (put_at (take i ps) (take i cs) bs) (get_or ps i 0) (differ (get_or (put_at (take i ps) (take i cs) bs) (get_or ps i 0) false) (get_or cs i false))
unfolding put_at
put_more [] cs bs i p q = absurd (omega arith)
put_more (p ∷ ps) [] bs i h q = absurd (omega arith)
put_more (p ∷ ps) (c ∷ cs) bs zero h q = refl
put_more (p ∷ ps) (c ∷ cs) bs (suc i) h q = put_more ps cs (set bs p (differ (get_or bs p false) c)) i (omega arith) (omega arith)

pub lane-set : (l : ℕ) (vs : List Vector) (p : ℕ) (v : Vector) → lane l (words_of (set vs p v)) ≡ set (lane l (words_of vs)) p (lane_bit l v.words)
unfolding lane
lane-set l vs p v = ap (lane l) (map-set (λ (w : Vector). w.words) vs p v) ∙ map-set (lane_bit l) (words_of vs) p v.words

pub place_small : (ps : List ℕ) (i : ℕ) → list_all (λ p. nat_lt p 32) ps ≡ true → i < length ps → get_or ps i 0 < 32
place_small [] i e h = absurd (omega arith)
place_small (p ∷ ps) zero e h = ltb-true p 32 (and_parts (nat_lt p 32) (list_all (λ q. nat_lt q 32) ps) e).0
place_small (p ∷ ps) (suc i) e h = place_small ps i (and_parts (nat_lt p 32) (list_all (λ q. nat_lt q 32) ps) e).1 (omega arith)

pub vectors_put : (half vs : List Vector) (place i : ℕ) → place < length half → i < length vs → AreVectors half → AreVectors vs → AreVectors (set half place (put_vector (get_or half place none) (get_or vs i none)))
vectors_put half vs place i p q hs ws =
    let v = get_or half place none in
    let w = get_or vs i none in
    vectors-set half place (put_vector v w) (vector_put v w (vector_at half place none p hs) (vector_at vs i none q ws)) hs

-- one vector more
pub put_next : (l : ℕ) (ps : List ℕ) (vs half : List Vector) (bs : List Bool) (i : ℕ) → l < 128 → i < length ps → i < length vs → get_or ps i 0 < length half → AreVectors half → AreVectors vs
    → lane l (words_of half) ≡ put_at (take i ps) (take i (lane l (words_of vs))) bs
    → lane l (words_of (set half (get_or ps i 0) (put_vector (get_or half (get_or ps i 0) none) (get_or vs i none)))) ≡ put_at (take (i + 1) ps) (take (i + 1) (lane l (words_of vs))) bs
put_next l ps vs half bs i h p q r hs ws so_far =
    let place = get_or ps i 0 in
    let v = get_or half place none in
    let w = get_or vs i none in
    let cs = lane l (words_of vs) in
    let now = lane l (words_of half) in
    let more = λ (xs : List Bool). set xs place (differ (get_or xs place false) (get_or cs i false)) in
    let size : length cs ≡ length vs = length-lane l (length vs) vs refl in
    lane-set l half place (put_vector v w)
    ∙ ap (set now place) (lane_bit-xor l v.words w.words h (vector_at half place none r hs) (vector_at vs i none q ws)
    ∙ ap (λ b. differ b (lane_bit l w.words)) (bit_in l half place none r) ∙ ap (differ (get_or now place false)) (bit_in l vs i none q))
    ∙ ap more so_far ∙ sym (put_more ps cs bs i p (omega (arith, size)))
    ∙ ap (λ n. put_at (take n ps) (take n cs) bs) (sym (add-one i))

-- n bits, one by one
unfoldable spelled : ℕ → List Bool → List Bool
spelled n bs = pick_l false bs (range_with_len 0 n)

spelled_is : (n : ℕ) (bs : List Bool) → length bs ≡ n → spelled n bs ≡ bs
unfolding spelled
spelled_is n bs e = pick_l_whole false bs n e

-- ---- a round

-- the bits of the eight boxes, put at the places where P has them
unfoldable pub all_put : List Bool → List Bool → List Bool → List Bool → List Bool → List Bool → List Bool → List Bool → List Bool → List Bool
all_put half a b c d e f g h =
    put_at (4 ∷ 26 ∷ 14 ∷ 20 ∷ []) h (put_at (31 ∷ 11 ∷ 21 ∷ 6 ∷ []) g (put_at (3 ∷ 28 ∷ 10 ∷ 18 ∷ []) f (put_at (7 ∷ 13 ∷ 24 ∷ 2 ∷ []) e
    (put_at (25 ∷ 19 ∷ 9 ∷ 0 ∷ []) d (put_at (23 ∷ 15 ∷ 29 ∷ 5 ∷ []) c (put_at (12 ∷ 27 ∷ 1 ∷ 17 ∷ []) b (put_at (8 ∷ 16 ∷ 22 ∷ 30 ∷ []) a half)))))))

unfoldable joined : List Bool → List Bool → List Bool → List Bool → List Bool → List Bool → List Bool → List Bool → List Bool
joined a b c d e f g h = a ++ (b ++ (c ++ (d ++ (e ++ (f ++ (g ++ (h ++ [])))))))

spelled_put : (half a b c d e f g h : List Bool) → all_put (spelled 32 half) (spelled 4 a) (spelled 4 b) (spelled 4 c) (spelled 4 d) (spelled 4 e) (spelled 4 f) (spelled 4 g) (spelled 4 h)
    ≡ exclusive_or (spelled 32 half) (pick permutation (joined (spelled 4 a) (spelled 4 b) (spelled 4 c) (spelled 4 d) (spelled 4 e) (spelled 4 f) (spelled 4 g) (spelled 4 h)))
unfolding all_put joined put_at spelled exclusive_or pick
spelled_put half a b c d e f g h = refl

all_put_is : (half a b c d e f g h : List Bool) → length half ≡ 32 → length a ≡ 4 → length b ≡ 4 → length c ≡ 4 → length d ≡ 4 → length e ≡ 4 → length f ≡ 4 → length g ≡ 4 → length h ≡ 4
    → all_put half a b c d e f g h ≡ exclusive_or half (pick permutation (joined a b c d e f g h))
all_put_is half a b c d e f g h n i j k o p q r s =
    cc (spelled_put half a b c d e f g h, spelled_is 32 half n, spelled_is 4 a i, spelled_is 4 b j, spelled_is 4 c k, spelled_is 4 d o, spelled_is 4 e p, spelled_is 4 f q, spelled_is 4 g r, spelled_is 4 h s)

-- eight boxes, one after the other, each for the six bits at its turn
spelled_sixes : (bits : List Bool) → substitution s_boxes (spelled 48 bits)
    ≡ joined (substituted s1 (take 6 (drop 0 (spelled 48 bits)))) (substituted s2 (take 6 (drop 6 (spelled 48 bits)))) (substituted s3 (take 6 (drop 12 (spelled 48 bits)))) (substituted s4 (take 6 (drop 18 (spelled 48 bits)))) (substituted s5 (take 6 (drop 24 (spelled 48 bits)))) (substituted s6 (take 6 (drop 30 (spelled 48 bits)))) (substituted s7 (take 6 (drop 36 (spelled 48 bits)))) (substituted s8 (take 6 (drop 42 (spelled 48 bits))))
unfolding substitution joined spelled
spelled_sixes bits = refl

sixes : (right key : List Bool) → joined (substituted s1 (six 0 right key)) (substituted s2 (six 1 right key)) (substituted s3 (six 2 right key)) (substituted s4 (six 3 right key)) (substituted s5 (six 4 right key)) (substituted s6 (six 5 right key)) (substituted s7 (six 6 right key)) (substituted s8 (six 7 right key))
    ≡ substitution s_boxes (exclusive_or (pick expansion right) key)
unfolding six
sixes right key =
    let bits = exclusive_or (pick expansion right) key in
    let size : length bits ≡ 48 = length-exclusive_or (pick expansion right) key ∙ length-pick expansion right in
    subst (λ (bits : List Bool). joined (substituted s1 (take 6 (drop 0 bits))) (substituted s2 (take 6 (drop 6 bits))) (substituted s3 (take 6 (drop 12 bits))) (substituted s4 (take 6 (drop 18 bits))) (substituted s5 (take 6 (drop 24 bits))) (substituted s6 (take 6 (drop 30 bits))) (substituted s7 (take 6 (drop 36 bits))) (substituted s8 (take 6 (drop 42 bits))) ≡ substitution s_boxes bits) (spelled_is 48 bits size) (sym (spelled_sixes bits))

round_put : (half right key : List Bool) → length half ≡ 32 → all_put half (substituted s1 (six 0 right key)) (substituted s2 (six 1 right key)) (substituted s3 (six 2 right key)) (substituted s4 (six 3 right key)) (substituted s5 (six 4 right key)) (substituted s6 (six 5 right key)) (substituted s7 (six 6 right key)) (substituted s8 (six 7 right key)) ≡ exclusive_or half (cipher right key)
unfolding cipher
round_put half right key e =
    all_put_is half _ _ _ _ _ _ _ _ e (length-substituted s1 _) (length-substituted s2 _) (length-substituted s3 _) (length-substituted s4 _) (length-substituted s5 _) (length-substituted s6 _) (length-substituted s7 _) (length-substituted s8 _)
    ∙ ap (λ bs. exclusive_or half (pick permutation bs)) (sixes right key)

-- eight halves, each with a box's bits put onto the one before
pub round_is : (half right key h1 h2 h3 h4 h5 h6 h7 h8 x1 x2 x3 x4 x5 x6 x7 x8 : List Bool) → length half ≡ 32
    → h1 ≡ put_at (8 ∷ 16 ∷ 22 ∷ 30 ∷ []) x1 half → x1 ≡ substituted s1 (six 0 right key)
    → h2 ≡ put_at (12 ∷ 27 ∷ 1 ∷ 17 ∷ []) x2 h1 → x2 ≡ substituted s2 (six 1 right key)
    → h3 ≡ put_at (23 ∷ 15 ∷ 29 ∷ 5 ∷ []) x3 h2 → x3 ≡ substituted s3 (six 2 right key)
    → h4 ≡ put_at (25 ∷ 19 ∷ 9 ∷ 0 ∷ []) x4 h3 → x4 ≡ substituted s4 (six 3 right key)
    → h5 ≡ put_at (7 ∷ 13 ∷ 24 ∷ 2 ∷ []) x5 h4 → x5 ≡ substituted s5 (six 4 right key)
    → h6 ≡ put_at (3 ∷ 28 ∷ 10 ∷ 18 ∷ []) x6 h5 → x6 ≡ substituted s6 (six 5 right key)
    → h7 ≡ put_at (31 ∷ 11 ∷ 21 ∷ 6 ∷ []) x7 h6 → x7 ≡ substituted s7 (six 6 right key)
    → h8 ≡ put_at (4 ∷ 26 ∷ 14 ∷ 20 ∷ []) x8 h7 → x8 ≡ substituted s8 (six 7 right key)
    → h8 ≡ exclusive_or half (cipher right key)
unfolding all_put
round_is half right key h1 h2 h3 h4 h5 h6 h7 h8 x1 x2 x3 x4 x5 x6 x7 x8 e p1 q1 p2 q2 p3 q3 p4 q4 p5 q5 p6 q6 p7 q7 p8 q8 = cc (round_put half right key e)

-- ---- IP

-- the four bits that go onto a half at turn i, and those of the turns before i
unfoldable pub column : ℕ → ℕ → List Bool → List Bool
column side i bits =
    let first = 57 - side - 8 * i in get_or bits first false ∷ get_or bits (first + 2) false ∷ get_or bits (first + 4) false ∷ get_or bits (first + 6) false ∷ []

unfoldable pub columns : ℕ → ℕ → List Bool → List Bool → List Bool
columns side zero bits half = half
columns side (suc i) bits half = put_at (i ∷ (8 + i) ∷ (16 + i) ∷ (24 + i) ∷ []) (column side i bits) (columns side i bits half)

spelled_columns : (half bits : List Bool) →
    (columns 0 8 (spelled 64 bits) (spelled 32 half) ≡ exclusive_or (spelled 32 half) (take 32 (drop (32 * 0) (pick ip (spelled 64 bits)))))
    × (columns 1 8 (spelled 64 bits) (spelled 32 half) ≡ exclusive_or (spelled 32 half) (take 32 (drop (32 * 1) (pick ip (spelled 64 bits)))))
unfolding columns column put_at spelled exclusive_or pick
spelled_columns half bits = (refl, refl)

pub columns_are : (side : ℕ) (half bits : List Bool) → side < 2 → length half ≡ 32 → length bits ≡ 64
    → columns side 8 bits half ≡ exclusive_or half (take 32 (drop (32 * side) (pick ip bits)))
columns_are zero half bits p e f = cc ((spelled_columns half bits).0, spelled_is 32 half e, spelled_is 64 bits f)
columns_are (suc zero) half bits p e f = cc ((spelled_columns half bits).1, spelled_is 32 half e, spelled_is 64 bits f)
columns_are (suc (suc side)) half bits p e f = absurd (omega arith)

pub column_is : (l side i : ℕ) (bits : List Vector) → side < 2 → i < 8 → length bits ≡ 64
    → let first = 57 - side - 8 * i in lane l (words_of (get_or bits first none ∷ get_or bits (first + 2) none ∷ get_or bits (first + 4) none ∷ get_or bits (first + 6) none ∷ [])) ≡ column side i (lane l (words_of bits))
unfolding lane column
column_is l side i bits p q e =
    let first = 57 - side - 8 * i in
    cc (bit_in l bits first none (omega arith), bit_in l bits (first + 2) none (omega arith), bit_in l bits (first + 4) none (omega arith), bit_in l bits (first + 6) none (omega arith))
