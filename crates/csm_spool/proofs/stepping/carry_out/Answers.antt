use Rattle.csm_spool.proofs.Carried.{done, broken}
use Rattle.csm_spool.proofs.stepping.carry_out.Goals as goal

pub returns-in-Done : goal.returns-in-Done
returns-in-Done g c = done g.D.Disk.told c.args.planned c.in-Done.node _ _ _ c.in-Done.ensures.turn

pub returns-in-Broken : goal.returns-in-Broken
returns-in-Broken g c = broken g.D.Disk.told c.args.planned c.in-Broken.broken (g.met.D.Disk.sound c.in-Broken.broken.disk) c.in-Broken.ensures.turn
