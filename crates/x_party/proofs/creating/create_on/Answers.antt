use Rattle.x_party.proofs.Created.{create_done}
use Rattle.x_party.proofs.creating.create_on.Goals as goal

pub returns-in-Ok : goal.returns-in-Ok
returns-in-Ok g c =
    create_done g.D.Disk.told c.args.disk c.in-Ok.store c.args.own c.args.role c.args.generator c.into_disk.result c.into_disk.ensures.disk
    c.in-Ok.ensures.stands c.in-Ok.ensures.party c.in-Ok.ensures.format c.in-Ok.ensures.place c.in-Ok.ensures.blank c.in-Ok.ensures.nothing_written c.in-Ok.ensures.any_moment
    c.in-Ok.ensures.tells c.in-Ok.ensures.faults
