use Rattle.csm_spool.proofs.Entries.{taken, taken_broken}
use Rattle.csm_spool.proofs.catching.take_up.Goals as goal

pub returns-in-Ok : goal.returns-in-Ok
returns-in-Ok g c = taken g.D.Disk.told g.E.Disk.told c.args.spool c.args.planned c.requires c.in-Ok.node c.in-Ok.ensures

pub returns-in-Err : goal.returns-in-Err
returns-in-Err g c = taken_broken g.D.Disk.told g.E.Disk.told c.args.spool c.args.planned c.requires c.in-Err.broken c.in-Err.ensures
