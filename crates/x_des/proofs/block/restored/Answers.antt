use Rattle.x_des.specs.Bits.{bits_of}
use Rattle.x_des.proofs.Permuting.{halves, same_halves, restored_is}
use Rattle.x_des.proofs.block.restored.Goals as goal

pub returns : goal.returns
returns c =
    let g = c.exchanged-left in
    let h = c.exchanged-right in
    let i = c.exchanged-right-2 in
    let j = c.exchanged-left-2 in
    let k = c.exchanged in
    restored_is c.args.left c.args.right
    (halves (bits_of 32 g.result.0) (bits_of 32 g.result.1)) (halves (bits_of 32 h.result.0) (bits_of 32 h.result.1))
    (halves (bits_of 32 i.result.0) (bits_of 32 i.result.1)) (halves (bits_of 32 j.result.0) (bits_of 32 j.result.1))
    (halves (bits_of 32 k.result.0) (bits_of 32 k.result.1))
    (same_halves g.ensures.high g.ensures.low) (same_halves h.ensures.high h.ensures.low) (same_halves i.ensures.high i.ensures.low)
    (same_halves j.ensures.high j.ensures.low) (same_halves k.ensures.high k.ensures.low)
