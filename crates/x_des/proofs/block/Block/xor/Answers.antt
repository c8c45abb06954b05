use Rattle.std.proofs.Common.{ap, ◌∙◌}
use Rattle.std.specs.Prelude.{bit_xor}
use Rattle.x_des.proofs.Blocks.{permuted_back, permuted_back-xor, doubled-xor}
use Rattle.x_des.proofs.block.Block.xor.Goals as goal

pub returns : goal.returns
returns c =
    let s = c.self.inside in
    let o = c.other.inside in
    permuted_back-xor s.left s.right o.left o.right
    ∙ ap (λ x. bit_xor x (permuted_back o.left o.right)) c.self.view_is
    ∙ ap (λ x. bit_xor c.args.self.now x) c.other.view_is

pub invariant_of-result : goal.invariant_of-result
invariant_of-result c =
    let s = c.self in
    let o = c.other in
    record {
      left = doubled-xor s.inside.left o.inside.left s.invariant.left o.invariant.left;
      right = doubled-xor s.inside.right o.inside.right s.invariant.right o.invariant.right;
    }
