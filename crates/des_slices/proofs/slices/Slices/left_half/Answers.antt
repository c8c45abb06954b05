use Rattle.std.proofs.Common.{◌≡◌, ◌+◌, ◌-◌, ◌*◌, ◌/◌, ◌%◌, ◌<◌, ◌^◌, ◌++◌, false, get_or, refl, subst, take, ap, sym, ◌∙◌, arith}
use Rattle.x_des.specs.Bits.{bits_of, pick}
use Rattle.x_des.specs.Tables.{ip_inverse}
use Rattle.des_slices.specs.Vectors.{lane, words_of}
use Rattle.des_slices.proofs.Blocks.{at_lane, bit_in_left, bit_in_right, gathered_two, left_half_is, left_place, restored, right_place}
use Rattle.des_slices.proofs.Lanes.{vector_at}
use Rattle.des_slices.proofs.slices.Slices.left_half.Goals as goal

pub loop-i-init : goal.loop-i-init
unfolding bits_of pick
loop-i-init c = record { so_far = refl; below = omega arith }

pub bit-requires-clause-vector : goal.bit-requires-clause-vector
bit-requires-clause-vector c = vector_at c.self.inside.right (8 * (c.loop-i.i % 4) + 7 - c.loop-i.i / 4) _ (omega arith) c.self.invariant.right

pub bit-requires-in-loop-i-clause-vector : goal.bit-requires-in-loop-i-clause-vector
bit-requires-in-loop-i-clause-vector c = vector_at c.self.inside.left (8 * (c.loop-i.i % 4) + 7 - c.loop-i.i / 4) _ (omega arith) c.self.invariant.left

pub loop-i-preserved : goal.loop-i-preserved
loop-i-preserved c =
    let l = c.loop-i in
    let s = c.self.inside in
    let n = c.args.lane in
    let place = 8 * (l.i % 4) + 7 - l.i / 4 in
    let bits = lane n (words_of s.left) ++ lane n (words_of s.right) in
    let more = gathered_two (take 32 ip_inverse) bits l.half l.i c.bit.result c.bit-in-loop-i.result (omega arith) (omega arith) l.invariant.below c.bit.ensures.below c.bit-in-loop-i.ensures.below
    (c.bit.ensures.bit ∙ bit_in_right n s.left s.right place _ (omega arith) (omega arith) ∙ ap (λ i. get_or bits i false) (sym (right_place l.i (omega arith))))
    (c.bit-in-loop-i.ensures.bit ∙ bit_in_left n s.left s.right place _ (omega arith) (omega arith) ∙ ap (λ i. get_or bits i false) (sym (left_place l.i (omega arith))))
    l.invariant.so_far in
    record { so_far = more.0; below = more.1 }

pub returns : goal.returns
returns c =
    let l = c.loop-i in
    let s = c.self.inside in
    let n = c.args.lane in
    let bits = lane n (words_of s.left) ++ lane n (words_of s.right) in
    let end : 2 * l.i ≡ 32 = omega arith in
    left_half_is l.half (lane n (words_of s.left)) (lane n (words_of s.right))
    (subst (λ i. l.half < 2 ^ i) end l.invariant.below)
    (subst (λ i. bits_of i l.half ≡ pick (take i (take 32 ip_inverse)) bits) end l.invariant.so_far)
    ∙ ap (λ x. x / 2 ^ 32) (sym (at_lane (λ m. restored (lane m (words_of s.left)) (lane m (words_of s.right))) n c.requires)
    ∙ ap (λ xs. get_or xs n 0) c.self.view_is)
