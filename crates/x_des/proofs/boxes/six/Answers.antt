use Rattle.x_des.proofs.Words.{bits_six, six_below}
use Rattle.x_des.proofs.boxes.six.Goals as goal

pub returns-clause-below : goal.returns-clause-below
returns-clause-below c = six_below c.args.word c.args.low c.requires.low c.requires.zeros

pub returns-clause-bits : goal.returns-clause-bits
returns-clause-bits c = bits_six c.args.word c.args.low c.requires.low
