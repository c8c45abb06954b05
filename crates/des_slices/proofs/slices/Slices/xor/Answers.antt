use Rattle.std.proofs.Common.{◌<◌, ◌^◌, ℕ, get_or, take, drop, ap, ◌∙◌, arith}
use Rattle.std.specs.Prelude.{bit_xor}
use Rattle.std.specs.Simd.Lanes.{zip2}
use Rattle.std.proofs.lemmas.List.{length-drop, take_all}
use Rattle.x_des.specs.Bits.{exclusive_or, number, pick}
use Rattle.x_des.specs.Tables.{ip}
use Rattle.x_des.proofs.BitsLemmas.{length-pick, number-bits}
use Rattle.des_slices.specs.Vectors.{lane, words_of}
use Rattle.des_slices.proofs.Blocks.{length-lane, restored, restored-xor, same_in_lanes, zip2_second}
use Rattle.des_slices.proofs.slices.Slices.xor.Goals as goal

pub returns : goal.returns
returns c =
    let s = c.self.inside in
    let bits = c.sliced-bits.result in
    let numbers = c.args.numbers.now in
    let left = c.xor_half.new.half in
    let right = c.xor_half-2.new.half in
    let before = λ (n : ℕ). restored (lane n (words_of s.left)) (lane n (words_of s.right)) in
    same_in_lanes (λ n. restored (lane n (words_of left)) (lane n (words_of right))) (λ n. bit_xor (before n) (get_or numbers n 0)) (λ n h.
    let y = pick ip (lane n (words_of bits)) in
    let wide = length-pick ip (lane n (words_of bits)) in
    let small : get_or numbers n 0 < 2 ^ 64 = c.fits-numbers n in
    ap (λ x. restored x (lane n (words_of right))) (c.xor_half.ensures.lanes n h)
    ∙ ap (restored (exclusive_or (lane n (words_of s.left)) (take 32 y))) (c.xor_half-2.ensures.lanes n h ∙ ap (exclusive_or (lane n (words_of s.right))) (take_all 32 (drop 32 y) (omega (arith, wide, length-drop 32 y))))
    ∙ restored-xor (lane n (words_of s.left)) (lane n (words_of s.right)) (lane n (words_of bits))
    (length-lane n 32 s.left (omega arith)) (length-lane n 32 s.right (omega arith)) (length-lane n 64 bits (omega arith))
    ∙ ap (λ bs. bit_xor (before n) (number bs)) (c.sliced-bits.ensures.lanes n h)
    ∙ ap (bit_xor (before n)) (number-bits 64 (get_or numbers n 0) small))
    ∙ zip2_second bit_xor before numbers (omega arith)
    ∙ ap (λ xs. zip2 bit_xor xs numbers) c.self.view_is
