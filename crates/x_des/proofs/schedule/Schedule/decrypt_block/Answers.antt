use Rattle.std.proofs.Common.{arith, ap, subst, sym, ◌∙◌, ◌≡◌, ◌<◌, ◌^◌, ◌-◌, get_or, length, reverse}
use Rattle.std.proofs.lemmas.List.{get_or-reverse, length-reverse}
use Rattle.x_des.specs.Bits.{bits_of, exclusive_or}
use Rattle.x_des.specs.Block.{half}
use Rattle.x_des.specs.Des.{cipher, enciphered, deciphered}
use Rattle.x_des.specs.RoundKey.{gathered}
use Rattle.x_des.proofs.Blocks.{permuted_back, permuted_back-lt, doubled-xor, decrypted-permuted_back, half-cipher, half-xor, is_doubled_cipher}
use Rattle.x_des.proofs.Inverse.{enciphered-deciphered}
use Rattle.x_des.proofs.Steps.{round_step, rounds_end}
use Rattle.x_des.proofs.schedule.Schedule.decrypt_block.Goals as goal

pub loop-i-preserved : goal.loop-i-preserved
loop-i-preserved c =
    let l = c.loop-i in
    let keys = c.self.inside.round_keys in
    let size : length (reverse keys) ≡ 16 = length-reverse keys ∙ c.self.told in
    let at : get_or keys (15 - l.i) 0 ≡ get_or (reverse keys) l.i 0
    = ap (λ n. get_or keys n 0) (omega (arith, c.self.told)) ∙ sym (get_or-reverse keys l.i 0 (omega (arith, c.self.told))) in
    let key = gathered (bits_of 64 (get_or keys (15 - l.i) 0)) in
    record {
      ahead = round_step (λ word. gathered (bits_of 64 word)) (reverse keys) l.i (half l.left) (half l.right) _ _ (omega (arith, size))
          (half-xor l.left c.mixed.result
          ∙ ap (exclusive_or (half l.left)) (half-cipher c.mixed.result (half l.right) key c.mixed.ensures ∙ ap (λ k. cipher (half l.right) (gathered (bits_of 64 k))) at)) l.invariant.ahead;
      left_doubled = l.invariant.right_doubled;
      right_doubled = doubled-xor l.left c.mixed.result l.invariant.left_doubled (is_doubled_cipher c.mixed.result (half l.right) key c.mixed.ensures);
    }

pub returns : goal.returns
returns c =
    let l = c.loop-i in
    let s = c.self.inside in
    let b = c.block.inside in
    let size : length (reverse s.round_keys) ≡ 16 = length-reverse s.round_keys ∙ c.self.told in
    let block : permuted_back l.right l.left ≡ deciphered c.args.self.now c.args.block.now
    = decrypted-permuted_back (λ word. gathered (bits_of 64 word)) s.round_keys s.key b.left b.right l.left l.right c.self.invariant
    (rounds_end (λ word. gathered (bits_of 64 word)) (reverse s.round_keys) l.i _ _ (omega (arith, size)) l.invariant.ahead)
    ∙ ap (λ k. deciphered k (permuted_back b.left b.right)) c.self.view_is
    ∙ ap (deciphered c.args.self.now) c.block.view_is in
    let small : c.args.block.now < 2 ^ 64 = subst (λ x. x < 2 ^ 64) c.block.view_is (permuted_back-lt b.left b.right) in
    record { deciphered = block; undone = ap (enciphered c.args.self.now) block ∙ enciphered-deciphered c.args.self.now c.args.block.now small }
