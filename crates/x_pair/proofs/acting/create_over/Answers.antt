use Rattle.std.proofs.Common.{sym, subst}
use Rattle.party_state.specs.State.{begun}
use Rattle.x_pair.specs.Steps.{HasCreated}
use Rattle.x_pair.proofs.Created.{created, not_created}
use Rattle.x_pair.proofs.acting.create_over.Goals as goal

pub returns-in-Ok : goal.returns-in-Ok
returns-in-Ok g c =
    created g.D.Disk.told c.args.own c.args.role c.args.generator c.args.disks c.in-Ok.mirror c.in-Ok.ensures c.into_disks.result c.into_disks.ensures

pub returns-in-Err : goal.returns-in-Err
returns-in-Err g c =
    subst (λ o. HasCreated (begun c.args.own c.args.role c.args.generator) g.D.Disk.told c.args.disks c.in-Err.field-0.disks o) (sym c.outcome_of.ensures)
    (not_created g.D.Disk.told c.args.own c.args.role c.args.generator c.args.disks c.in-Err.field-0 c.in-Err.ensures)
