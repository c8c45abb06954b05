use Rattle.std.proofs.Common.{arith, ap, subst, ◌∙◌, ◌≡◌, ◌<◌, ◌^◌, get_or}
use Rattle.x_des.specs.Bits.{bits_of, exclusive_or}
use Rattle.x_des.specs.Block.{half}
use Rattle.x_des.specs.Des.{enciphered, deciphered}
use Rattle.x_des.specs.RoundKey.{gathered}
use Rattle.x_des.proofs.Blocks.{permuted_back, permuted_back-lt, doubled-xor, encrypted-permuted_back, half-cipher, half-xor, is_doubled_cipher}
use Rattle.x_des.proofs.Inverse.{deciphered-enciphered}
use Rattle.x_des.proofs.Steps.{round_step, rounds_end}
use Rattle.x_des.proofs.schedule.Schedule.encrypt_block.Goals as goal

pub loop-round_key-preserved : goal.loop-round_key-preserved
loop-round_key-preserved c =
    let l = c.loop-round_key in
    let key = gathered (bits_of 64 (get_or c.self.inside.round_keys l.round_key-index 0)) in
    record {
      ahead = round_step (λ word. gathered (bits_of 64 word)) c.self.inside.round_keys l.round_key-index (half l.left) (half l.right) _ _ (omega arith)
          (half-xor l.left c.mixed.result ∙ ap (exclusive_or (half l.left)) (half-cipher c.mixed.result (half l.right) key c.mixed.ensures)) l.invariant.ahead;
      left_doubled = l.invariant.right_doubled;
      right_doubled = doubled-xor l.left c.mixed.result l.invariant.left_doubled (is_doubled_cipher c.mixed.result (half l.right) key c.mixed.ensures);
    }

pub returns : goal.returns
returns c =
    let l = c.loop-round_key in
    let s = c.self.inside in
    let b = c.block.inside in
    let block : permuted_back l.right l.left ≡ enciphered c.args.self.now c.args.block.now
    = encrypted-permuted_back (λ word. gathered (bits_of 64 word)) s.round_keys s.key b.left b.right l.left l.right c.self.invariant
    (rounds_end (λ word. gathered (bits_of 64 word)) s.round_keys l.round_key-index _ _ (omega (arith, c.self.told)) l.invariant.ahead)
    ∙ ap (λ k. enciphered k (permuted_back b.left b.right)) c.self.view_is
    ∙ ap (enciphered c.args.self.now) c.block.view_is in
    let small : c.args.block.now < 2 ^ 64 = subst (λ x. x < 2 ^ 64) c.block.view_is (permuted_back-lt b.left b.right) in
    record { enciphered = block; undone = ap (deciphered c.args.self.now) block ∙ deciphered-enciphered c.args.self.now c.args.block.now small }
