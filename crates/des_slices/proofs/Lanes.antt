-- One bit of vectors in lanes.
use Rattle.std.proofs.Common.{◌≡◌, ℕ, zero, suc, ◌+◌, ◌/◌, ◌%◌, ◌<◌, eqb, false, List, [], ◌∷◌, length, get_or, refl, ap, ◌∙◌, arith}
use Rattle.std.specs.Prelude.{bit_xor}
use Rattle.std.specs.Int.{bit_at}
use Rattle.std.specs.Simd.Lanes.{zip2}
use Rattle.std.proofs.lemmas.Simd.{get_or-zip2}
use Rattle.std.proofs.lemmas.Nat.Bits.{bit_at_xor, bit_at-lt, bit_at-zero}
use Rattle.x_des.specs.Bits.{differ}
use Rattle.des_slices.specs.declared.vector.Vector.{Vector}
use Rattle.des_slices.specs.Vectors.{AreVectors, IsVector, lane, lane_bit}

pub get_or-lane : (l : ℕ) (vs : List (List ℕ)) (i : ℕ) → lane_bit l (get_or vs i []) ≡ get_or (lane l vs) i false
unfolding lane
get_or-lane l [] i = ap (λ n. eqb n 1) (bit_at-zero (l % 64))
get_or-lane l (v ∷ vs) zero = refl
get_or-lane l (v ∷ vs) (suc i) = get_or-lane l vs i

differ_of : (a b : ℕ) → a < 2 → b < 2 → eqb ((a + b) % 2) 1 ≡ differ (eqb a 1) (eqb b 1)
differ_of zero zero p q = refl
differ_of zero (suc zero) p q = refl
differ_of (suc zero) zero p q = refl
differ_of (suc zero) (suc zero) p q = refl
differ_of zero (suc (suc b)) p q = absurd (omega arith)
differ_of (suc zero) (suc (suc b)) p q = absurd (omega arith)
differ_of (suc (suc a)) b p q = absurd (omega arith)

pub lane_bit-xor : (l : ℕ) (v w : List ℕ) → l < 128 → IsVector v → IsVector w → lane_bit l (zip2 bit_xor v w) ≡ differ (lane_bit l v) (lane_bit l w)
lane_bit-xor l v w h p q =
    let a = get_or v (l / 64) 0 in
    let b = get_or w (l / 64) 0 in
    ap (λ n. eqb (bit_at n (l % 64)) 1) (get_or-zip2 bit_xor v w (l / 64) 0 0 0 (omega (arith, p.two)) (omega (arith, q.two)))
    ∙ ap (λ n. eqb n 1) (bit_at_xor a b (l % 64))
    ∙ differ_of (bit_at a (l % 64)) (bit_at b (l % 64)) (bit_at-lt a (l % 64)) (bit_at-lt b (l % 64))

pub vector_at : (vs : List Vector) (i : ℕ) (d : Vector) → i < length vs → AreVectors vs → IsVector (get_or vs i d).words
vector_at [] i d h p = absurd (omega arith)
vector_at (v ∷ vs) zero d h p = p.0
vector_at (v ∷ vs) (suc i) d h p = vector_at vs i d (omega arith) p.1
