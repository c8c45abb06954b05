use Rattle.std.proofs.Common.{arith, ap, refl, ◌∙◌, ◌≡◌, ◌<◌, ◌*◌, ◌%◌, ◌^◌, ◌++◌}
use Rattle.std.specs.Prelude.{bit_or}
use Rattle.x_des.specs.Bits.{bits_of, rotated}
use Rattle.x_des.specs.Block.{sixes}
use Rattle.x_des.proofs.Steps.{joined_words}
use Rattle.x_des.proofs.Words.{bits-sixes, bits_rotated}
use Rattle.x_des.proofs.block.doubled.Goals as goal

pub returns : goal.returns
returns c =
    let h = c.args.half in
    let first : bits_of 32 c.from.result ≡ rotated 29 (bits_of 32 h) = ap (bits_of 32) (c.from.ensures ∙ c.rotate_left.ensures) ∙ bits_rotated 32 29 h (omega arith) (omega arith) in
    let second : bits_of 32 c.from-2.result ≡ rotated 1 (bits_of 32 h) = ap (bits_of 32) (c.from-2.ensures ∙ c.rotate_left-2.ensures) ∙ bits_rotated 32 1 h (omega arith) (omega arith) in
    let p : c.from.result < 2 ^ 32 = (let e = c.from.ensures in let f = c.rotate_left.type_inv in omega arith) in
    let q : c.from-2.result < 2 ^ 32 = (let e = c.from-2.ensures in let f = c.rotate_left-2.type_inv in omega arith) in
    bits-sixes (bit_or (c.from.result * 2 ^ 32 % 2 ^ 64) c.from-2.result)
    ∙ ap (sixes 8) (joined_words 32 32 64 c.from.result c.from-2.result refl (omega arith) p q
    ∙ ap (λ bs. bs ++ bits_of 32 c.from-2.result) first ∙ ap (λ bs. rotated 29 (bits_of 32 h) ++ bs) second)
