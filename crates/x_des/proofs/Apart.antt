-- The entries of two boxes have no bit in common, so that their or is their exclusive or.
use Rattle.std.proofs.Common.{◌≡◌, ℕ, zero, suc, ◌<◌, max, Bool, true, false, cond, eqb, List, [], ◌∷◌, length, drop, get_or, replicate, refl, sym, ap, ◌∙◌, arith, subst}
use Rattle.std.specs.Prelude.{bit_or, bit_xor}
use Rattle.std.specs.Int.{bit_at}
use Rattle.std.specs.Int.Bits.{xor_assoc}
use Rattle.std.proofs.lemmas.Nat.{xor_comm}
use Rattle.std.proofs.lemmas.Nat.Bits.{bit_at_or, bit_at-lt}
use Rattle.x_des.specs.Bits.{bit, bits_of, chosen, differ, exclusive_or, pick}
use Rattle.x_des.specs.Block.{doubled, sixes}
use Rattle.x_des.specs.Combined.{placed, box_and_permutation_of}
use Rattle.x_des.specs.Des.{substituted}
use Rattle.x_des.specs.Tables.{permutation, s_boxes}
use Rattle.x_des.proofs.BitsLemmas.{bits-bit_xor, bits-number_at, length-pick}
use Rattle.x_des.proofs.CombinedRound.{doubled-exclusive_or}

one_or : (m : Bool) (a b : ℕ) → a < 2 → b < 2 → cond m false (eqb a 1) ≡ eqb a 1 → cond m (eqb b 1) false ≡ eqb b 1 → eqb (max a b) 1 ≡ differ (eqb a 1) (eqb b 1)
one_or m zero zero r s p q = refl
one_or m zero (suc zero) r s p q = refl
one_or m (suc zero) zero r s p q = refl
one_or true (suc zero) (suc zero) r s p q = cc
one_or false (suc zero) (suc zero) r s p q = cc
one_or m (suc (suc a)) b r s p q = absurd (omega arith)
one_or m zero (suc (suc b)) r s p q = absurd (omega arith)
one_or m (suc zero) (suc (suc b)) r s p q = absurd (omega arith)

-- the first word has zeros where the mask has ones, and the second where it has zeros
bits-bit_or : (w : ℕ) (mask : List Bool) (x y : ℕ)
    → chosen mask (replicate w false) (bits_of w x) ≡ bits_of w x → chosen mask (bits_of w y) (replicate w false) ≡ bits_of w y
    → bits_of w (bit_or x y) ≡ exclusive_or (bits_of w x) (bits_of w y)
unfolding bits_of chosen exclusive_or
bits-bit_or zero mask x y p q = refl
bits-bit_or (suc w) [] x y p q = absurd (let e = ap length p in omega (arith, e))
bits-bit_or (suc w) (m ∷ mask) x y p q =
    let first : eqb (bit_at (bit_or x y) w) 1 ≡ differ (bit x w) (bit y w)
    = ap (λ n. eqb n 1) (bit_at_or x y w)
    ∙ one_or m (bit_at x w) (bit_at y w) (bit_at-lt x w) (bit_at-lt y w) (ap (λ bs. get_or bs 0 false) p) (ap (λ bs. get_or bs 0 false) q) in
    ap (λ b. b ∷ bits_of w (bit_or x y)) first
    ∙ ap (λ bs. differ (bit x w) (bit y w) ∷ bs) (bits-bit_or w mask x y (ap (drop 1) p) (ap (drop 1) q))

-- the places of a box in a doubled half
abbrev places : ℕ → List Bool
places which = doubled (pick permutation (placed which (true ∷ true ∷ true ∷ true ∷ [])))

-- the bits of an entry
abbrev of_box : ℕ → ℕ → List Bool
of_box which six = doubled (pick permutation (placed which (substituted (get_or s_boxes which []) (bits_of 6 six))))

doubled-box_and_permutation_of : (which six : ℕ) → doubled (bits_of 32 (box_and_permutation_of which six)) ≡ of_box which six
unfolding box_and_permutation_of
doubled-box_and_permutation_of which six =
    let bs = pick permutation (placed which (substituted (get_or s_boxes which []) (bits_of 6 six))) in
    ap doubled (bits-number_at 32 bs (length-pick permutation (placed which (substituted (get_or s_boxes which []) (bits_of 6 six)))))

-- the entries of two boxes that share no place
or_of : (i j a b x y : ℕ) → bits_of 64 x ≡ doubled (bits_of 32 (box_and_permutation_of i a)) → bits_of 64 y ≡ doubled (bits_of 32 (box_and_permutation_of j b))
    → chosen (places j) (replicate 64 false) (of_box i a) ≡ of_box i a → chosen (places j) (of_box j b) (replicate 64 false) ≡ of_box j b
    → bits_of 64 (bit_or x y) ≡ doubled (bits_of 32 (bit_xor (box_and_permutation_of i a) (box_and_permutation_of j b)))
or_of i j a b x y p q r s =
    bits-bit_or 64 (places j) x y
    (subst (λ bs. chosen (places j) (replicate 64 false) bs ≡ bs) (sym (p ∙ doubled-box_and_permutation_of i a)) r)
    (subst (λ bs. chosen (places j) bs (replicate 64 false) ≡ bs) (sym (q ∙ doubled-box_and_permutation_of j b)) s)
    ∙ ap (λ bs. exclusive_or bs (bits_of 64 y)) p ∙ ap (exclusive_or (doubled (bits_of 32 (box_and_permutation_of i a)))) q
    ∙ doubled-exclusive_or (box_and_permutation_of i a) (box_and_permutation_of j b) ∙ ap doubled (sym (bits-bit_xor 32 (box_and_permutation_of i a) (box_and_permutation_of j b)))

pub or_7_5 : (a b x y : ℕ) → bits_of 64 x ≡ doubled (bits_of 32 (box_and_permutation_of 7 a)) → bits_of 64 y ≡ doubled (bits_of 32 (box_and_permutation_of 5 b))
    → bits_of 64 (bit_or x y) ≡ doubled (bits_of 32 (bit_xor (box_and_permutation_of 7 a) (box_and_permutation_of 5 b)))
unfolding bits_of chosen pick sixes substituted
or_7_5 a b x y p q = or_of 7 5 a b x y p q refl refl

pub or_3_1 : (a b x y : ℕ) → bits_of 64 x ≡ doubled (bits_of 32 (box_and_permutation_of 3 a)) → bits_of 64 y ≡ doubled (bits_of 32 (box_and_permutation_of 1 b))
    → bits_of 64 (bit_or x y) ≡ doubled (bits_of 32 (bit_xor (box_and_permutation_of 3 a) (box_and_permutation_of 1 b)))
unfolding bits_of chosen pick sixes substituted
or_3_1 a b x y p q = or_of 3 1 a b x y p q refl refl

pub or_6_4 : (a b x y : ℕ) → bits_of 64 x ≡ doubled (bits_of 32 (box_and_permutation_of 6 a)) → bits_of 64 y ≡ doubled (bits_of 32 (box_and_permutation_of 4 b))
    → bits_of 64 (bit_or x y) ≡ doubled (bits_of 32 (bit_xor (box_and_permutation_of 6 a) (box_and_permutation_of 4 b)))
unfolding bits_of chosen pick sixes substituted
or_6_4 a b x y p q = or_of 6 4 a b x y p q refl refl

pub or_2_0 : (a b x y : ℕ) → bits_of 64 x ≡ doubled (bits_of 32 (box_and_permutation_of 2 a)) → bits_of 64 y ≡ doubled (bits_of 32 (box_and_permutation_of 0 b))
    → bits_of 64 (bit_or x y) ≡ doubled (bits_of 32 (bit_xor (box_and_permutation_of 2 a) (box_and_permutation_of 0 b)))
unfolding bits_of chosen pick sixes substituted
or_2_0 a b x y p q = or_of 2 0 a b x y p q refl refl

-- the middle two of four exchanged
middle : (a b c d : ℕ) → bit_xor (bit_xor a b) (bit_xor c d) ≡ bit_xor (bit_xor a c) (bit_xor b d)
middle a b c d =
    xor_assoc a b (bit_xor c d)
    ∙ ap (bit_xor a) (sym (xor_assoc b c d) ∙ ap (λ x. bit_xor x d) (xor_comm b c) ∙ xor_assoc c b d)
    ∙ sym (xor_assoc a c (bit_xor b d))

-- two pairs, and each of them turned
turned : (a b c d : ℕ) → bit_xor (bit_xor d b) (bit_xor c a) ≡ bit_xor (bit_xor (bit_xor a b) c) d
turned a b c d =
    middle d b c a ∙ ap (bit_xor (bit_xor d c)) (xor_comm b a) ∙ xor_comm (bit_xor d c) (bit_xor a b)
    ∙ ap (bit_xor (bit_xor a b)) (xor_comm d c) ∙ sym (xor_assoc (bit_xor a b) c d)

-- the order of the boxes
pub in_order : (a b c d e f g h : ℕ)
    → bit_xor (bit_xor (bit_xor (bit_xor h f) (bit_xor d b)) (bit_xor g e)) (bit_xor c a)
    ≡ bit_xor (bit_xor (bit_xor (bit_xor (bit_xor (bit_xor (bit_xor a b) c) d) e) f) g) h
in_order a b c d e f g h =
    let front = bit_xor (bit_xor (bit_xor a b) c) d in
    xor_assoc (bit_xor (bit_xor h f) (bit_xor d b)) (bit_xor g e) (bit_xor c a)
    ∙ middle (bit_xor h f) (bit_xor d b) (bit_xor g e) (bit_xor c a)
    ∙ xor_comm (bit_xor (bit_xor h f) (bit_xor g e)) (bit_xor (bit_xor d b) (bit_xor c a))
    ∙ ap (λ x. bit_xor x (bit_xor (bit_xor h f) (bit_xor g e))) (turned a b c d)
    ∙ ap (bit_xor front) (turned e f g h)
    ∙ sym (xor_assoc front (bit_xor (bit_xor e f) g) h)
    ∙ ap (λ x. bit_xor x h) (sym (xor_assoc front (bit_xor e f) g) ∙ ap (λ x. bit_xor x g) (sym (xor_assoc front e f)))
