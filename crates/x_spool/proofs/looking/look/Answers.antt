use Rattle.x_spool.proofs.Looked.{not_looked, told_by}
use Rattle.x_spool.proofs.looking.look.Goals as goal

pub returns-in-Ok : goal.returns-in-Ok
returns-in-Ok g c = told_by g.D.Disk.told c.args.disk c.in-Ok.spool c.in-Ok.ensures c.into_disk.result c.into_disk.ensures.disk c.told-outcome.result c.told-outcome.ensures

pub returns-in-Err : goal.returns-in-Err
returns-in-Err g c = not_looked g.D.Disk.told c.args.disk c.in-Err.field-0 c.outcome_of.result c.outcome_of.ensures c.in-Err.ensures
