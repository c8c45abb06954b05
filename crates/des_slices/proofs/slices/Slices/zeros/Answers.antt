use Rattle.des_slices.proofs.Blocks.{zero_blocks}
use Rattle.des_slices.proofs.slices.Slices.zeros.Goals as goal

pub returns : goal.returns
returns c = zero_blocks
