-- Blocks in lanes.
use Rattle.std.proofs.Common.{◌≡◌, ℕ, zero, suc, ◌+◌, ◌-◌, ◌*◌, ◌/◌, ◌%◌, ◌^◌, ◌<◌, Bool, true, false, ◌&&◌, cond, not, eqb, List, [], ◌∷◌, ◌++◌, map, take, drop, replicate, length, get_or, refl, sym, ap, subst, ◌∙◌, arith, add-one}
use Rattle.std.specs.Prelude.{bit_or, bit_xor, fold}
use Rattle.std.specs.Int.{bit_at}
use Rattle.std.specs.List.{range_with_len}
use Rattle.std.specs.Simd.Lanes.{zip2}
use Rattle.std.proofs.lemmas.Simd.{get_or-replicate, zip2-map, map-map, pick_l_whole}
use Rattle.std.proofs.Math.ListN.{get_or-append}
use Rattle.std.proofs.lemmas.Bool.{eqb-true, agree_below_at}
use Rattle.std.proofs.lemmas.List.{get_or-append-add, length-map, length-append, length-take, take_at, drop_at, take-append-drop, drop_more, get_or-map}
use Rattle.std.proofs.lemmas.List.FromFn.{get_or-map-range_with_len}
use Rattle.std.proofs.lemmas.Nat.{xor_lt, shl_whole, or_shifted, pow-add}
use Rattle.std.proofs.lemmas.Nat.Bits.{bit_at-zero}
use Rattle.x_des.specs.Bits.{bits_of, number, pick, exclusive_or}
use Rattle.x_des.specs.Des.{Halves, cipher, crypted, encrypted, enciphered, exchanged, halved, joined, keys_from, round, round_keys}
use Rattle.x_des.specs.Tables.{ip, ip_inverse}
use Rattle.x_des.proofs.BitsLemmas.{length-pick, number-lt, bits-number_at, bits-bit_xor, word_is, bits_push, pick_more, take-bits, same_from_lists}
use Rattle.x_des.proofs.ExclusiveOr.{pick-exclusive_or, exclusive_or-append}
use Rattle.x_des.proofs.Inverse.{final-initial, initial-final}
use Rattle.x_des.proofs.Permuting.{halves}
use Rattle.des_slices.specs.declared.vector.Vector.{Vector}
use Rattle.des_slices.specs.declared.key.RoundKey.{RoundKey}
use Rattle.des_slices.specs.Keys.{keys_in}
use Rattle.des_slices.specs.Slices.{in_lanes}
use Rattle.des_slices.specs.Vectors.{lane, lane_bit, words_of}
use Rattle.des_slices.proofs.Lanes.{get_or-lane}

-- ---- a number for each lane

ranged : (f g : ℕ → ℕ) (a n : ℕ) → ((i : ℕ) → i < a + n → f i ≡ g i) → map f (range_with_len a n) ≡ map g (range_with_len a n)
ranged f g a zero h = refl
ranged f g a (suc n) h =
    ap (λ x. x ∷ map f (range_with_len (a + 1) n)) (h a (omega arith))
    ∙ ap (λ xs. g a ∷ xs) (ranged f g (a + 1) n (λ i p. h i (omega arith)))

pub same_in_lanes : (f g : ℕ → ℕ) → ((l : ℕ) → l < 128 → f l ≡ g l) → in_lanes f ≡ in_lanes g
unfolding in_lanes
same_in_lanes f g h = ranged f g 0 128 (λ i p. h i (omega arith))

pub map-in_lanes : (h f : ℕ → ℕ) → map h (in_lanes f) ≡ in_lanes (λ l. h (f l))
unfolding in_lanes
map-in_lanes h f = map-map h f (range_with_len 0 128)

pub zip2_first : (f : Bool → ℕ → ℕ) (bs : List Bool) (g : ℕ → ℕ) → length bs ≡ 128 → in_lanes (λ l. f (get_or bs l false) (g l)) ≡ zip2 f bs (in_lanes g)
unfolding in_lanes
zip2_first f bs g e =
    let places = range_with_len 0 128 in
    sym (zip2-map f (λ l. get_or bs l false) g places) ∙ ap (λ xs. zip2 f xs (map g places)) (pick_l_whole false bs 128 e)

pub zip2_second : (f : ℕ → ℕ → ℕ) (g : ℕ → ℕ) (xs : List ℕ) → length xs ≡ 128 → in_lanes (λ l. f (g l) (get_or xs l 0)) ≡ zip2 f (in_lanes g) xs
unfolding in_lanes
zip2_second f g xs e =
    let places = range_with_len 0 128 in
    sym (zip2-map f g (λ l. get_or xs l 0) places) ∙ ap (zip2 f (map g places)) (pick_l_whole 0 xs 128 e)

pub at_lane : (f : ℕ → ℕ) (l : ℕ) → l < 128 → get_or (in_lanes f) l 0 ≡ f l
unfolding in_lanes
at_lane f l h = get_or-map-range_with_len f 0 128 l l 0 h (omega arith)

-- ---- a block behind IP

abbrev pub restored : List Bool → List Bool → ℕ
restored l r = number (pick ip_inverse (l ++ r))

bits-restored : (l r : List Bool) → bits_of 64 (restored l r) ≡ pick ip_inverse (l ++ r)
bits-restored l r = bits-number_at 64 (pick ip_inverse (l ++ r)) (length-pick ip_inverse (l ++ r))

restored-lt : (l r : List Bool) → restored l r < 2 ^ 64
restored-lt l r = subst (λ n. restored l r < 2 ^ n) (length-pick ip_inverse (l ++ r)) (number-lt (pick ip_inverse (l ++ r)))

restored_crypted : (ks : List (List Bool)) (l r : List Bool) → length l ≡ 32 → length r ≡ 32
    → crypted ks (bits_of 64 (restored l r)) ≡ pick ip_inverse (joined (exchanged (fold round (halves l r) ks)))
unfolding crypted
restored_crypted ks l r p q =
    let size : length (l ++ r) ≡ 64 = length-append l r ∙ omega (arith, p, q) in
    ap (λ bs. pick ip_inverse (joined (exchanged (fold round (halved bs) ks)))) (ap (pick ip) (bits-restored l r) ∙ initial-final (l ++ r) size)
    ∙ ap (λ bs. pick ip_inverse (joined (exchanged (fold round (halves bs (drop 32 (l ++ r))) ks)))) (take_at l r 32 p)
    ∙ ap (λ bs. pick ip_inverse (joined (exchanged (fold round (halves l bs) ks)))) (drop_at l r 32 p)

pub restored_enciphered : (key : ℕ) (ks : List (List Bool)) (l r a b : List Bool) → length l ≡ 32 → length r ≡ 32 → ks ≡ round_keys (bits_of 64 key)
    → halves a b ≡ fold round (halves l r) ks → restored b a ≡ enciphered key (restored l r)
unfolding enciphered encrypted
restored_enciphered key ks l r a b p q keys e =
    ap (λ (h : Halves). number (pick ip_inverse (joined (exchanged h)))) (e ∙ ap (fold round (halves l r)) keys)
    ∙ sym (ap number (restored_crypted (round_keys (bits_of 64 key)) l r p q))

pub restored-xor : (l r bs : List Bool) → length l ≡ 32 → length r ≡ 32 → length bs ≡ 64
    → restored (exclusive_or l (take 32 (pick ip bs))) (exclusive_or r (drop 32 (pick ip bs))) ≡ bit_xor (restored l r) (number bs)
restored-xor l r bs p q e =
    let x = l ++ r in
    let y = pick ip bs in
    let wide : length y ≡ 64 = length-pick ip bs in
    let left : length l ≡ length (take 32 y) = p ∙ sym (length-take 32 y ∙ (omega arith)) in
    let small : number bs < 2 ^ 64 = subst (λ n. number bs < 2 ^ n) e (number-lt bs) in
    let bits : bits_of 64 (bit_xor (restored l r) (number bs)) ≡ pick ip_inverse (exclusive_or l (take 32 y) ++ exclusive_or r (drop 32 y))
    = bits-bit_xor 64 (restored l r) (number bs)
    ∙ ap (λ zs. exclusive_or zs (bits_of 64 (number bs))) (bits-restored l r)
    ∙ ap (exclusive_or (pick ip_inverse x)) (bits-number_at 64 bs e ∙ sym (final-initial bs e))
    ∙ sym (pick-exclusive_or ip_inverse x y (length-append l r ∙ omega (arith, p, q, wide)))
    ∙ ap (pick ip_inverse) (ap (exclusive_or x) (sym (take-append-drop 32 y)) ∙ exclusive_or-append l r (take 32 y) (drop 32 y) left) in
    sym (word_is 64 (bit_xor (restored l r) (number bs)) (pick ip_inverse (exclusive_or l (take 32 y) ++ exclusive_or r (drop 32 y)))
    (xor_lt 64 (restored l r) (number bs) (restored-lt l r) small) bits)

all_false : (bs : List Bool) → map (λ b. b && false) bs ≡ replicate (length bs) false
all_false [] = refl
all_false (true ∷ bs) = ap (λ xs. false ∷ xs) (all_false bs)
all_false (false ∷ bs) = ap (λ xs. false ∷ xs) (all_false bs)

all_kept : (bs : List Bool) → map (λ b. b && true) bs ≡ bs
all_kept [] = refl
all_kept (true ∷ bs) = ap (λ xs. true ∷ xs) (all_kept bs)
all_kept (false ∷ bs) = ap (λ xs. false ∷ xs) (all_kept bs)

nothing : restored (replicate 32 false) (replicate 32 false) ≡ 0
unfolding number pick
nothing = refl

pub restored-cleared : (c : Bool) (l r : List Bool) → length l ≡ 32 → length r ≡ 32 → restored (map (λ b. b && not c) l) (map (λ b. b && not c) r) ≡ cond c 0 (restored l r)
restored-cleared true l r p q =
    ap (λ bs. restored bs (map (λ b. b && false) r)) (all_false l ∙ ap (λ n. replicate n false) p)
    ∙ ap (restored (replicate 32 false)) (all_false r ∙ ap (λ n. replicate n false) q) ∙ nothing
restored-cleared false l r p q = ap (λ bs. restored bs (map (λ b. b && true) r)) (all_kept l) ∙ ap (restored l) (all_kept r)

-- ---- lanes of halves

pub length-lane : (l n : ℕ) (vs : List Vector) → length vs ≡ n → length (lane l (words_of vs)) ≡ n
unfolding lane
length-lane l n vs e = length-map (words_of vs) (lane_bit l) ∙ length-map vs (λ (v : Vector). v.words) ∙ e

zero_bit : (l : ℕ) → l < 128 → lane_bit l (0 ∷ 0 ∷ []) ≡ false
zero_bit l h = ap (λ n. eqb (bit_at n (l % 64)) 1) (get_or-replicate 2 (l / 64) 0 0 (omega arith)) ∙ ap (λ n. eqb n 1) (bit_at-zero (l % 64))

abbrev zero_vector : Vector
zero_vector = record { words = 0 ∷ 0 ∷ [] }

zero_block : (l : ℕ) → l < 128 → restored (lane l (words_of (replicate 32 zero_vector))) (lane l (words_of (replicate 32 zero_vector))) ≡ 0
unfolding lane number pick
zero_block l h = ap (λ b. number (pick ip_inverse (replicate 32 b ++ replicate 32 b))) (zero_bit l h)

zeros : in_lanes (λ l. 0) ≡ replicate 128 0
unfolding in_lanes
zeros = refl

pub zero_blocks : in_lanes (λ l. restored (lane l (words_of (replicate 32 zero_vector))) (lane l (words_of (replicate 32 zero_vector)))) ≡ replicate 128 0
zero_blocks = same_in_lanes (λ l. restored (lane l (words_of (replicate 32 zero_vector))) (lane l (words_of (replicate 32 zero_vector)))) (λ l. 0) zero_block ∙ zeros

-- ---- rounds

pub length-round_keys : (bs : List Bool) → length (round_keys bs) ≡ 16
unfolding round_keys keys_from
length-round_keys bs = refl

-- the round key of a lane
pub key_at : (l : ℕ) (rounds : List RoundKey) (j : ℕ) (d : RoundKey) → j < length rounds → lane l (words_of (get_or rounds j d).bits) ≡ get_or (keys_in l rounds) j []
key_at l rounds j d h = sym (get_or-map (λ (r : RoundKey). lane l (words_of r.bits)) rounds j d [] h)

pub two_rounds : (ks : List (List Bool)) (i : ℕ) (l r a b : List Bool) (h : Halves) → 2 * i + 1 < length ks
    → a ≡ exclusive_or l (cipher r (get_or ks (2 * i) [])) → b ≡ exclusive_or r (cipher a (get_or ks (2 * i + 1) []))
    → fold round (halves l r) (drop (2 * i) ks) ≡ h → fold round (halves a b) (drop (2 * (i + 1)) ks) ≡ h
two_rounds ks i l r a b h within first second so_far =
    let j = 2 * i in
    let k = get_or ks j [] in
    let m = get_or ks (j + 1) [] in
    let rest = drop (j + 1 + 1) ks in
    let next : 2 * (i + 1) ≡ j + 1 + 1 = omega arith in
    let split : drop j ks ≡ k ∷ m ∷ rest = drop_more ks j [] (omega arith) ∙ ap (λ xs. k ∷ xs) (drop_more ks (j + 1) [] within) in
    ap (λ n. fold round (halves a b) (drop n ks)) next
    ∙ ap (λ (bs : List Bool). fold round (halves a bs) rest) second
    ∙ ap (λ (bs : List Bool). fold round (halves bs (exclusive_or r (cipher bs m))) rest) first
    ∙ sym (ap (fold round (halves l r)) split)
    ∙ so_far

-- ---- the left half of a block

-- one step: the bits gathered so far, and the next one behind them
gathered_more : (t : List ℕ) (bs : List Bool) (v i x : ℕ) → i < length t → i < 32 → v < 2 ^ i → x < 2 → eqb x 1 ≡ get_or bs (get_or t i 0 - 1) false
    → bits_of i v ≡ pick (take i t) bs
    → (bits_of (i + 1) (bit_or (v * 2 % 2 ^ 32) x) ≡ pick (take (i + 1) t) bs) × (bit_or (v * 2 % 2 ^ 32) x < 2 ^ (i + 1))
gathered_more t bs v i x within small below bit picked so_far =
    let shifted : v * 2 % 2 ^ 32 ≡ v * 2 = shl_whole v i 1 32 below (omega arith) in
    let joined : bit_or (v * 2 % 2 ^ 32) x ≡ v * 2 + x = rw shifted (or_shifted v 1 x bit) in
    let power : 2 ^ (i + 1) ≡ 2 ^ i * 2 = pow-add 2 i 1 in
    rw joined (
      rw (add-one i) (bits_push i v x bit) ∙ ap (λ ys. ys ++ eqb x 1 ∷ []) so_far
          ∙ ap (λ b. pick (take i t) bs ++ b ∷ []) picked ∙ sym (pick_more t bs i within),
      rw power (omega arith),
    )

-- two steps
pub gathered_two : (t : List ℕ) (bs : List Bool) (v i x y : ℕ) → 2 * i + 1 < length t → 2 * i + 1 < 32 → v < 2 ^ (2 * i) → x < 2 → y < 2
    → eqb x 1 ≡ get_or bs (get_or t (2 * i) 0 - 1) false → eqb y 1 ≡ get_or bs (get_or t (2 * i + 1) 0 - 1) false
    → bits_of (2 * i) v ≡ pick (take (2 * i) t) bs
    → (bits_of (2 * (i + 1)) (bit_or (bit_or (v * 2 % 2 ^ 32) x * 2 % 2 ^ 32) y) ≡ pick (take (2 * (i + 1)) t) bs) × (bit_or (bit_or (v * 2 % 2 ^ 32) x * 2 % 2 ^ 32) y < 2 ^ (2 * (i + 1)))
gathered_two t bs v i x y within small below p q first second so_far =
    let w = bit_or (v * 2 % 2 ^ 32) x in
    let z = bit_or (w * 2 % 2 ^ 32) y in
    let next : 2 * i + 1 + 1 ≡ 2 * (i + 1) = omega arith in
    let one = gathered_more t bs v (2 * i) x (omega arith) (omega arith) below p first so_far in
    let two = gathered_more t bs w (2 * i + 1) y within small one.1 q second one.0 in
    subst (λ m. (bits_of m z ≡ pick (take m t) bs) × (z < 2 ^ m)) next two

-- the place in a half of the bits 2 i and 2 i + 1 of a block
pub right_place : (i : ℕ) → i < 16 → get_or (take 32 ip_inverse) (2 * i) 0 - 1 ≡ 32 + (8 * (i % 4) + 7 - i / 4)
right_place i h = eqb-true _ _ (agree_below_at (λ n. eqb (get_or (take 32 ip_inverse) (2 * n) 0 - 1) (32 + (8 * (n % 4) + 7 - n / 4))) (λ n. true) 16 i refl h)

pub left_place : (i : ℕ) → i < 16 → get_or (take 32 ip_inverse) (2 * i + 1) 0 - 1 ≡ 8 * (i % 4) + 7 - i / 4
left_place i h = eqb-true _ _ (agree_below_at (λ n. eqb (get_or (take 32 ip_inverse) (2 * n + 1) 0 - 1) (8 * (n % 4) + 7 - n / 4)) (λ n. true) 16 i refl h)

pub bit_in : (l : ℕ) (vs : List Vector) (p : ℕ) (d : Vector) → p < length vs → lane_bit l (get_or vs p d).words ≡ get_or (lane l (words_of vs)) p false
bit_in l vs p d h = ap (lane_bit l) (sym (get_or-map (λ (v : Vector). v.words) vs p d [] h)) ∙ get_or-lane l (words_of vs) p

pub bit_in_left : (l : ℕ) (vs ws : List Vector) (p : ℕ) (d : Vector) → length vs ≡ 32 → p < 32 → lane_bit l (get_or vs p d).words ≡ get_or (lane l (words_of vs) ++ lane l (words_of ws)) p false
bit_in_left l vs ws p d e h =
    let size = length-lane l 32 vs e in
    bit_in l vs p d (omega arith) ∙ sym (get_or-append (lane l (words_of vs)) (lane l (words_of ws)) false p (omega (arith, size)))

pub bit_in_right : (l : ℕ) (vs ws : List Vector) (p : ℕ) (d : Vector) → length vs ≡ 32 → p < length ws → lane_bit l (get_or ws p d).words ≡ get_or (lane l (words_of vs) ++ lane l (words_of ws)) (32 + p) false
bit_in_right l vs ws p d e h =
    let size = length-lane l 32 vs e in
    bit_in l ws p d h ∙ sym (get_or-append-add (lane l (words_of vs)) (lane l (words_of ws)) p false)
    ∙ ap (λ n. get_or (lane l (words_of vs) ++ lane l (words_of ws)) (n + p) false) size

front : (l r : List Bool) → pick (take 32 ip_inverse) (l ++ r) ≡ take 32 (pick ip_inverse (l ++ r))
unfolding pick
front l r = refl

-- the left half, from the bits at its places
pub left_half_is : (n : ℕ) (l r : List Bool) → n < 2 ^ 32 → bits_of 32 n ≡ pick (take 32 ip_inverse) (l ++ r) → n ≡ restored l r / 2 ^ 32
left_half_is n l r small e =
    let big = restored-lt l r in
    same_from_lists 32 n (restored l r / 2 ^ 32) small (omega arith)
    (e ∙ front l r ∙ ap (take 32) (sym (bits-restored l r)) ∙ take-bits 32 32 64 (restored l r) refl)
