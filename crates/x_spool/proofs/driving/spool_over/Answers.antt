use Rattle.x_spool.proofs.Front.{named, nobody}
use Rattle.x_spool.proofs.driving.spool_over.Goals as goal

pub returns-in-Ok : goal.returns-in-Ok
returns-in-Ok g c = named g.D.Disk.told c.args.party.now c.args.batch.now.0 c.args.batch.now.1 c.args.disks c.in-Ok.node c.in-Ok.ensures.opened c.drive_over.result.0 c.drive_over.result.1 c.drive_over.ensures

pub returns-in-Err : goal.returns-in-Err
returns-in-Err g c = nobody g.D.Disk.told g.met.D.Disk.sound c.args.party.now c.args.batch.now.0 c.args.batch.now.1 c.args.disks c.in-Err.field-0.disk c.in-Err.field-0.why c.in-Err.ensures.failed c.no_party.result c.no_party.ensures
