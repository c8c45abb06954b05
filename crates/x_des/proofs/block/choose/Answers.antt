use Rattle.x_des.proofs.Words.{chosen_is}
use Rattle.x_des.proofs.block.choose.Goals as goal

pub returns : goal.returns
returns c = chosen_is 32 c.args.mask c.args.these c.args.others
