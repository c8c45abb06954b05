use Rattle.std.proofs.Common.{arith, ap, ◌∙◌, ◌*◌, ◌^◌, ◌%◌}
use Rattle.x_des.specs.Bits.{bits_of, chosen, shifted_left}
use Rattle.x_des.proofs.Words.{bits_shl, bits_shr}
use Rattle.x_des.proofs.block.exchanged.Goals as goal

pub returns-clause-high : goal.returns-clause-high
returns-clause-high c =
    c.choose.ensures
    ∙ ap (λ m. chosen m (bits_of 32 (c.args.low * 2 ^ c.args.by % 2 ^ 32)) (bits_of 32 c.args.high)) (bits_shl 32 c.args.by c.args.mask (omega arith))
    ∙ ap (λ bs. chosen (shifted_left c.args.by (bits_of 32 c.args.mask)) bs (bits_of 32 c.args.high)) (bits_shl 32 c.args.by c.args.low (omega arith))

pub returns-clause-low : goal.returns-clause-low
returns-clause-low c =
    c.choose-2.ensures
    ∙ ap (λ bs. chosen (bits_of 32 c.args.mask) bs (bits_of 32 c.args.low)) (bits_shr 32 c.args.by c.args.high (omega arith) (omega arith))
