use Rattle.std.proofs.Common.{◌≡◌, ◌<◌, ◌/◌, ◌%◌, ℕ, eqb, ap, sym, ◌∙◌, arith}
use Rattle.std.specs.Int.{bit_at}
use Rattle.std.specs.Prelude.{replicate}
use Rattle.std.proofs.lemmas.Nat.Bits.{bit_at-zero, bit_at_ones}
use Rattle.std.proofs.lemmas.Simd.{get_or-replicate}
use Rattle.des_slices.specs.Vectors.{lane_bit}
use Rattle.des_slices.proofs.key.bit_in_lanes.Goals as goal
use Rattle.des_slices.proofs.key.bit_in_lanes.Goals.{then-bit-eq1, else-bit-eq1}

-- the bit of each lane is that of the word
one_word : (l n : ℕ) → l < 128 → lane_bit l (replicate 2 n) ≡ eqb (bit_at n (l % 64)) 1
one_word l n h = ap (λ m. eqb (bit_at m (l % 64)) 1) (get_or-replicate 2 (l / 64) n 0 (omega arith))

pub returns-clause-lanes : goal.returns-clause-lanes
returns-clause-lanes c l h =
    one_word l c.if-bit-eq1.word h
    ∙ (elim c.if-bit-eq1.branch [
      | then-bit-eq1 w ↦ ap (λ m. eqb (bit_at m (l % 64)) 1) w.word-is ∙ ap (λ n. eqb n 1) (bit_at_ones 64 (l % 64) (omega arith)) ∙ ap (λ b. eqb b 1) (sym w.if-bit-eq1.true)
      | else-bit-eq1 w ↦
          let none : c.args.bit ≡ 0 = omega arith in
          ap (λ m. eqb (bit_at m (l % 64)) 1) w.word-is ∙ ap (λ n. eqb n 1) (bit_at-zero (l % 64)) ∙ ap (λ b. eqb b 1) (sym none)
    ])
