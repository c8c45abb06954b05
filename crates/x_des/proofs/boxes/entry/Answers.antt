use Rattle.x_des.proofs.CombinedTable.{entry_is}
use Rattle.x_des.proofs.boxes.entry.Goals as goal

pub returns : goal.returns
returns c = entry_is c.args.which c.args.bits c.requires.which c.requires.bits
