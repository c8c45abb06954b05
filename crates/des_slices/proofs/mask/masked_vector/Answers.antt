use Rattle.std.proofs.Common.{◌≡◌, ◌<◌, ◌/◌, ◌%◌, ◌&&◌, ℕ, zero, suc, eqb, get_or, refl, ap, ◌∙◌, arith}
use Rattle.std.specs.Prelude.{bit_and, min}
use Rattle.std.specs.Int.{bit_at}
use Rattle.std.proofs.lemmas.Simd.{get_or-zip2}
use Rattle.std.proofs.lemmas.Nat.Bits.{bit_at-lt, bit_at_and}
use Rattle.std.proofs.Math.Facts.{Fits-and}
use Rattle.des_slices.proofs.Gates.{vector_zip}
use Rattle.des_slices.proofs.mask.masked_vector.Goals as goal

both_of : (a b : ℕ) → a < 2 → b < 2 → eqb (min a b) 1 ≡ eqb a 1 && eqb b 1
both_of zero zero p q = refl
both_of zero (suc zero) p q = refl
both_of (suc zero) zero p q = refl
both_of (suc zero) (suc zero) p q = refl
both_of zero (suc (suc b)) p q = absurd (omega arith)
both_of (suc zero) (suc (suc b)) p q = absurd (omega arith)
both_of (suc (suc a)) b p q = absurd (omega arith)

pub returns-clause-lanes : goal.returns-clause-lanes
returns-clause-lanes c l h =
    let v = c.args.vector.words in
    let m = c.args.mask.words in
    let a = get_or v (l / 64) 0 in
    let b = get_or m (l / 64) 0 in
    ap (λ n. eqb (bit_at n (l % 64)) 1) (get_or-zip2 bit_and v m (l / 64) 0 0 0 (omega (arith, c.requires.vector.two)) (omega (arith, c.requires.mask.two)))
    ∙ ap (λ n. eqb n 1) (bit_at_and a b (l % 64))
    ∙ both_of (bit_at a (l % 64)) (bit_at b (l % 64)) (bit_at-lt a (l % 64)) (bit_at-lt b (l % 64))

pub returns-clause-vector : goal.returns-clause-vector
returns-clause-vector c = vector_zip bit_and (λ a b x y. Fits-and b x) c.args.vector.words c.args.mask.words c.requires.vector c.requires.mask
