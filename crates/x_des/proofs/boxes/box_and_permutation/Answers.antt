use Rattle.x_des.proofs.CombinedTable.{box_and_permutation_is}
use Rattle.x_des.proofs.boxes.box_and_permutation.Goals as goal

pub returns : goal.returns
returns c = box_and_permutation_is c.args.which c.args.bits c.single.result c.requires.which c.requires.bits c.single.type_inv c.single.ensures
