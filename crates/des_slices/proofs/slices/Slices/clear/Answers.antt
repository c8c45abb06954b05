use Rattle.std.proofs.Common.{ℕ, ◌&&◌, cond, false, get_or, map, ap, ◌∙◌, arith}
use Rattle.std.specs.Simd.Lanes.{zip2}
use Rattle.des_slices.specs.Vectors.{lane, words_of}
use Rattle.des_slices.proofs.Blocks.{length-lane, restored, restored-cleared, same_in_lanes, zip2_first}
use Rattle.des_slices.proofs.slices.Slices.clear.Goals as goal

pub returns : goal.returns
returns c =
    let s = c.self.inside in
    let chosen = c.args.chosen.now in
    let left = c.masked-self-inside.result in
    let right = c.masked-self-inside-2.result in
    let before = λ (n : ℕ). restored (lane n (words_of s.left)) (lane n (words_of s.right)) in
    same_in_lanes (λ n. restored (lane n (words_of left)) (lane n (words_of right))) (λ n. cond (get_or chosen n false) 0 (before n)) (λ n h.
    ap (λ x. restored x (lane n (words_of right))) (c.masked-self-inside.ensures.lanes n h)
    ∙ ap (restored _) (c.masked-self-inside-2.ensures.lanes n h)
    ∙ ap (λ b. restored (map (λ x. x && b) (lane n (words_of s.left))) (map (λ x. x && b) (lane n (words_of s.right)))) (c.unchosen-kept.ensures.lanes n h)
    ∙ restored-cleared (get_or chosen n false) (lane n (words_of s.left)) (lane n (words_of s.right)) (length-lane n 32 s.left (omega arith)) (length-lane n 32 s.right (omega arith)))
    ∙ zip2_first (λ b n. cond b 0 n) chosen before (omega arith)
    ∙ ap (zip2 (λ b n. cond b 0 n) chosen) c.self.view_is
