use Rattle.x_spool.proofs.Beside.{ended, unbegun}
use Rattle.x_spool.proofs.driving.drive_over.Goals as goal

pub returns-in-Ok : goal.returns-in-Ok
returns-in-Ok g c =
    let one = c.law_one_finding.ensures in
    let spool = c.law_one_finding-2.ensures in
    ended g.D.Disk.told g.met.D.Disk.sound spool.not_blank c.args.batch.now.0 c.args.batch.now.1 c.args.node c.args.disk c.view.ensures.stands
    one.party one.format spool.state c.in-Ok.spool c.in-Ok.ensures.begun c.in-Ok.ensures.in_step c.drive-driven.result c.ended.result c.drive-driven.ensures.drive c.drive-driven.ensures.anyhow c.ended.ensures.disks c.ended.ensures.outcome

pub returns-in-Err : goal.returns-in-Err
returns-in-Err g c =
    let spool = c.law_one_finding-2.ensures in
    unbegun g.D.Disk.told g.met.D.Disk.sound spool.not_blank c.args.batch.now.0 c.args.batch.now.1 c.args.node c.args.disk c.view.ensures.stands
    c.in-Err.field-0 c.in-Err.ensures.begun c.in-Err.ensures.in_step c.into_disk-first.result c.outcome_of_spool.result c.into_disk-first.ensures.disk c.outcome_of_spool.ensures
