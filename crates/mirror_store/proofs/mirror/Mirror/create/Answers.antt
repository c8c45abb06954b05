use Rattle.mirror_store.proofs.Created.{created, first_looked}
use Rattle.mirror_store.proofs.mirror.Mirror.create.Goals as goal

pub returns-in-Ok-look : goal.returns-in-Ok-look
returns-in-Ok-look g c =
    created g.D.Disk.told c.args.own c.args.role c.args.generator c.args.disks c.in-Ok.first c.in-Ok-look.second c.in-Ok.ensures c.in-Ok-look.ensures c.create_both.result c.create_both.ensures

pub returns-in-Err : goal.returns-in-Err
returns-in-Err g c =
    first_looked g.D.Disk.told c.args.own c.args.role c.args.generator c.args.disks (g.met.D.Disk.sound c.args.disks.second) c.in-Err.field-0 c.in-Err.ensures
