use Rattle.std.proofs.Common.{ap, ◌∙◌}
use Rattle.std.specs.Int.{w64, from_be_bytes}
use Rattle.x_mac.specs.Code.{word_of}
use Rattle.edc_slices.proofs.Blocks.{whole_block}
use Rattle.edc_slices.proofs.lanes.Lane.next_block.Goals as goal

pub returns-in-Some-clause-block : goal.returns-in-Some-clause-block
unfolding word_of
returns-in-Some-clause-block c =
    let block = c.in-Some.ensures.cases in
    c.from_be_bytes.ensures ∙ ap (from_be_bytes w64) (block.same ∙ whole_block c.args.self.now.rest.now block.enough)
