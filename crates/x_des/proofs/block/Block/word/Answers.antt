use Rattle.std.proofs.Common.{arith, ap, ◌∙◌, ◌++◌}
use Rattle.x_des.specs.Bits.{bits_of}
use Rattle.x_des.proofs.Blocks.{word_of_halves}
use Rattle.x_des.proofs.block.Block.word.Goals as goal

pub returns : goal.returns
returns c =
    let s = c.self.inside in
    word_of_halves s.left s.right c.single.result c.single-2.result c.from.result c.from-2.result (omega arith) (omega arith) c.single.ensures c.single-2.ensures
    (ap (λ n. bits_of 32 n ++ bits_of 32 c.from-2.result) c.from.ensures ∙ ap (λ n. bits_of 32 c.restored-left.result.0 ++ bits_of 32 n) c.from-2.ensures ∙ c.restored-left.ensures)
    ∙ c.self.view_is
