use Rattle.std.proofs.Common.{◌≡◌, ◌≢◌, ◌+◌, ◌*◌, ◌%◌, ◌^◌, ◌<◌, ℕ, Bool, true, false, eqb, get_or, not, w64, sym, ap, subst, ◌∙◌, arith}
use Rattle.std.specs.Prelude.{bit_or, max}
use Rattle.std.specs.Int.{bit_at}
use borrow.Author.Count.{below_more}
use Rattle.std.proofs.lemmas.Nat.{or_lt, pow-add, shl_whole}
use Rattle.std.proofs.lemmas.Nat.Bits.{bit_at-lt, bit_at-zero, bit_at_above, bit_at_or, bit_at_set_other, bit_at_set_same}
use Rattle.x_des.specs.Bits.{bit}
use mir.Val.{bool_byte}
use Rattle.des_slices.proofs.mask.unset_bits.Goals as goal

-- a word with one bit more
with_bit : Bool → ℕ → ℕ → ℕ
with_bit b v i = bit_or v (bool_byte b * 2 ^ i % 2 ^ 64)

one_more : (b : Bool) (v i : ℕ) → i < 64 → v < 2 ^ i → (with_bit b v i < 2 ^ (i + 1)) × (bit (with_bit b v i) i ≡ b) × ((k : ℕ) → k < i → bit (with_bit b v i) k ≡ bit v k)
unfolding with_bit
one_more true v i h below =
    let power : 2 ^ (i + 1) ≡ 2 ^ i * 2 = pow-add 2 i 1 in
    let shifted : 1 * 2 ^ i % 2 ^ 64 ≡ 1 * 2 ^ i = shl_whole 1 1 i 64 (omega arith) (omega arith) in (
      or_lt (i + 1) v (1 * 2 ^ i % 2 ^ 64) (rw power (omega arith)) (rw (shifted, power) (omega arith)),
      ap (λ n. eqb n 1) (bit_at_set_same w64 v i h),
      λ k p. let other : k ≢ i = omega arith in ap (λ n. eqb n 1) (bit_at_set_other w64 v i h k other),
    )
one_more false v i h below =
    let power : 2 ^ (i + 1) ≡ 2 ^ i * 2 = pow-add 2 i 1 in
    let same : (k : ℕ) → bit_at (bit_or v (0 * 2 ^ i % 2 ^ 64)) k ≡ bit_at v k = λ k.
    let small = bit_at-lt v k in
    bit_at_or v (0 * 2 ^ i % 2 ^ 64) k ∙ ap (λ n. max (bit_at v k) (bit_at n k)) (let e : 0 * 2 ^ i % 2 ^ 64 ≡ 0 = omega arith in e)
    ∙ ap (max (bit_at v k)) (bit_at-zero k) ∙ omega arith in (
      or_lt (i + 1) v (0 * 2 ^ i % 2 ^ 64) (rw power (omega arith)) (rw power (omega arith)),
      ap (λ n. eqb n 1) (same i ∙ bit_at_above v i i below (omega arith)),
      λ k p. ap (λ n. eqb n 1) (same k),
    )

pub loop-i-preserved : goal.loop-i-preserved
unfolding with_bit
loop-i-preserved c =
    let l = c.loop-i in
    let b = not (get_or c.args.chosen.now l.i false) in
    let more = one_more b l.word l.i (omega arith) l.invariant.below in
    subst (λ x. record {
      bits : (k : ℕ) → k < l.i + 1 → bit (bit_or l.word (x * 2 ^ l.i % 2 ^ 64)) k ≡ not (get_or c.args.chosen.now k false);
      below : bit_or l.word (x * 2 ^ l.i % 2 ^ 64) < 2 ^ (l.i + 1);
    }) (sym c.from.ensures) (record {
      bits = below_more (λ k. bit (with_bit b l.word l.i) k ≡ not (get_or c.args.chosen.now k false)) l.i (λ k h. more.2 k h ∙ l.invariant.bits k h) more.1;
      below = more.0;
    })
