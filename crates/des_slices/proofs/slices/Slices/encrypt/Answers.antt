use Rattle.std.proofs.Common.{◌≡◌, ◌+◌, ◌*◌, ℕ, length, map, ap, sym, ◌∙◌, arith}
use Rattle.std.specs.Prelude.{fold}
use Rattle.std.proofs.lemmas.List.{at_drop_all, length-map}
use Rattle.x_des.specs.Bits.{bits_of, exclusive_or}
use Rattle.x_des.specs.Des.{cipher, enciphered, round}
use Rattle.x_des.proofs.Permuting.{halves}
use Rattle.des_slices.specs.declared.key.RoundKey.{RoundKey}
use Rattle.des_slices.specs.Keys.{keys_in}
use Rattle.des_slices.specs.Vectors.{lane, words_of}
use Rattle.des_slices.proofs.Blocks.{key_at, length-lane, length-round_keys, map-in_lanes, restored, restored_enciphered, same_in_lanes, two_rounds}
use Rattle.des_slices.proofs.slices.Slices.encrypt.Goals as goal

pub loop-i-preserved : goal.loop-i-preserved
loop-i-preserved c =
    let l = c.loop-i in
    let rounds = c.key.inside.rounds in
    record {
      lanes = λ n h.
          let size : length (keys_in n rounds) ≡ length rounds = length-map rounds (λ (r : RoundKey). lane n (words_of r.bits)) in
          let left = lane n (words_of l.left) in
          let right = lane n (words_of l.right) in
          let next = lane n (words_of c.round.new.left) in
          two_rounds (keys_in n rounds) l.i left right next (lane n (words_of c.round-in-loop-i.new.left)) _ (omega (arith, size))
          (c.round.ensures.lanes n h ∙ ap (λ k. exclusive_or left (cipher right k)) (key_at n rounds (2 * l.i) _ (omega arith)))
          (c.round-in-loop-i.ensures.lanes n h ∙ ap (λ k. exclusive_or right (cipher next k)) (key_at n rounds (2 * l.i + 1) _ (omega arith)))
          (l.invariant.lanes n h);
      left = c.round.ensures.vectors;
      right = c.round-in-loop-i.ensures.vectors;
    }

pub returns : goal.returns
returns c =
    let l = c.loop-i in
    let s = c.self.inside in
    let k = c.key.inside in
    let before = λ (n : ℕ). restored (lane n (words_of s.left)) (lane n (words_of s.right)) in
    same_in_lanes (λ n. restored (lane n (words_of l.right)) (lane n (words_of l.left))) (λ n. enciphered k.key (before n)) (λ n h.
    let size : length (keys_in n k.rounds) ≡ 16 = ap length (c.key.invariant.lanes n h) ∙ length-round_keys (bits_of 64 k.key) in
    restored_enciphered k.key (keys_in n k.rounds) (lane n (words_of s.left)) (lane n (words_of s.right)) (lane n (words_of l.left)) (lane n (words_of l.right))
    (length-lane n 32 s.left (omega arith)) (length-lane n 32 s.right (omega arith)) (c.key.invariant.lanes n h)
    (sym (at_drop_all (fold round (halves (lane n (words_of l.left)) (lane n (words_of l.right)))) (keys_in n k.rounds) (2 * l.i) (omega (arith, size))) ∙ l.invariant.lanes n h))
    ∙ sym (map-in_lanes (enciphered k.key) before)
    ∙ ap (map (enciphered k.key)) c.self.view_is
    ∙ ap (λ key. map (enciphered key) c.args.self.now) c.key.view_is
