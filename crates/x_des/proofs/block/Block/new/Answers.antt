use Rattle.std.proofs.Common.{arith}
use Rattle.x_des.proofs.Blocks.{half-doubled, is_doubled, new_is}
use Rattle.x_des.proofs.block.Block.new.Goals as goal

pub returns : goal.returns
returns c =
    let l = c.permuted-left.result in
    new_is c.args.word c.doubled.result c.doubled-2.result l.0 l.1 (omega arith)
    (half-doubled c.doubled.result l.0 c.doubled.ensures) (half-doubled c.doubled-2.result l.1 c.doubled-2.ensures) c.permuted-left.ensures

pub invariant_of-result : goal.invariant_of-result
invariant_of-result c =
    let l = c.permuted-left.result in
    record { left = is_doubled c.doubled.result l.0 c.doubled.ensures; right = is_doubled c.doubled-2.result l.1 c.doubled-2.ensures }
