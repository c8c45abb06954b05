use Rattle.std.proofs.Common.{arith, ap, refl, ◌∙◌, ◌≡◌, ◌/◌, ◌<◌, ◌^◌, take, drop}
use Rattle.std.specs.Prelude.{bit_and}
use Rattle.std.proofs.lemmas.Nat.{and_mask, mod_below}
use Rattle.x_des.specs.Bits.{bits_of, chosen, rotated}
use Rattle.x_des.proofs.Steps.{high_half, low_half}
use Rattle.x_des.proofs.Words.{bits_rotated}
use Rattle.x_des.proofs.block.single.Goals as goal

pub returns : goal.returns
returns c =
    let d = c.args.doubled in
    let second = c.rotate_left-2.result in
    let small : bit_and d 4294967295 < 2 ^ 32 = rw (and_mask d 32) (mod_below d (2 ^ 32) (omega arith)) in
    let low : bits_of 32 c.rotate_left.result ≡ rotated 31 (drop 32 (bits_of 64 d))
    = ap (bits_of 32) c.rotate_left.ensures ∙ bits_rotated 32 31 (bit_and d 4294967295) (omega arith) small ∙ ap (rotated 31) (low_half 32 32 64 d refl) in
    let high : bits_of 32 second ≡ rotated 3 (take 32 (bits_of 64 d))
    = ap (bits_of 32) c.rotate_left-2.ensures ∙ bits_rotated 32 3 (d / 2 ^ 32) (omega arith) (omega arith) ∙ ap (rotated 3) (high_half 32 32 64 d refl) in
    c.choose.ensures
    ∙ ap (λ bs. chosen (bits_of 32 2678038431) bs (bits_of 32 second)) low
    ∙ ap (chosen (bits_of 32 2678038431) (rotated 31 (drop 32 (bits_of 64 d)))) high
