use Rattle.x_spool.proofs.Around.{all_makes, all_onward, all_shelf, all_stays, unfetched_makes, unfetched_onward, unfetched_shelf, unfetched_stays}
use Rattle.x_spool.proofs.Following.{due}
use Rattle.x_spool.proofs.spooling.spool.Goals as goal

pub returns-in-Err-clause-made : goal.returns-in-Err-clause-made
returns-in-Err-clause-made g c =
    unfetched_makes g.H.Disk.Disk.told c.args.batch.now.0 c.args.batch.now.1 c.args.party.now c.args.spool.now _ _ c.in-Err.cause c.failure.result c.failure.ensures c.in-Err.ensures

pub returns-in-Err-clause-in_step : goal.returns-in-Err-clause-in_step
returns-in-Err-clause-in_step g c =
    unfetched_stays g.H.Disk.Disk.told c.args.batch.now.0 c.args.batch.now.1 c.args.party.now c.args.spool.now _ _ c.in-Err.cause c.failure.result c.failure.ensures c.in-Err.ensures
    (g.met.H.Shelf.sound c.args.shelf.now c.args.party.now) (g.met.H.Shelf.sound c.args.shelf.now c.args.spool.now)

pub returns-in-Err-clause-onward : goal.returns-in-Err-clause-onward
returns-in-Err-clause-onward g c =
    unfetched_onward g.H.Disk.Disk.told c.args.batch.now.0 c.args.batch.now.1 c.args.party.now c.args.spool.now _ _ c.in-Err.cause c.failure.result c.failure.ensures c.in-Err.ensures

pub returns-in-Err-clause-due : goal.returns-in-Err-clause-due
returns-in-Err-clause-due g c =
    let entry = g.H.Shelf.entry in
    let old = entry c.args.shelf.now in
    let new = entry c.fetch_two.new.shelf in
    due c.args.party.now c.args.batch.now.0 (λ image book a b. c.law_one_due.ensures c.args.party.now image book c.args.batch.now.0 a b) c.args.batch.now.1
    (old c.args.party.now) (old c.args.spool.now) (new c.args.party.now) (new c.args.spool.now) c.failure.result (returns-in-Err-clause-made g c)

pub returns-in-Err-clause-shelf : goal.returns-in-Err-clause-shelf
returns-in-Err-clause-shelf g c =
    unfetched_shelf g.H.Disk.Disk.told c.args.batch.now.0 c.args.batch.now.1 c.args.party.now c.args.spool.now _ _ c.in-Err.cause c.failure.result c.failure.ensures c.in-Err.ensures

pub returns-clause-made : goal.returns-clause-made
returns-clause-made g c = all_makes g.H.Disk.Disk.told c.args.batch.now.0 c.args.batch.now.1 c.args.party.now c.args.spool.now _ _ _ c.in-Ok.disks c.spool_over-disks.result.0 c.put_back_two.result
    c.spool_over-disks.result.1 c.closed.result c.in-Ok.ensures c.spool_over-disks.ensures c.put_back_two.ensures c.closed.ensures

pub returns-clause-in_step : goal.returns-clause-in_step
returns-clause-in_step g c = all_stays g.H.Disk.Disk.told c.args.batch.now.0 c.args.batch.now.1 c.args.party.now c.args.spool.now _ _ _ c.in-Ok.disks c.spool_over-disks.result.0 c.put_back_two.result
    c.spool_over-disks.result.1 c.closed.result c.in-Ok.ensures c.spool_over-disks.ensures c.put_back_two.ensures c.closed.ensures

pub returns-clause-onward : goal.returns-clause-onward
returns-clause-onward g c = all_onward g.H.Disk.Disk.told c.args.batch.now.0 c.args.batch.now.1 c.args.party.now c.args.spool.now _ _ _ c.in-Ok.disks c.spool_over-disks.result.0 c.put_back_two.result
    c.spool_over-disks.result.1 c.closed.result c.in-Ok.ensures c.spool_over-disks.ensures c.put_back_two.ensures c.closed.ensures

pub returns-clause-due : goal.returns-clause-due
returns-clause-due g c =
    let entry = g.H.Shelf.entry in
    let old = entry c.args.shelf.now in
    let new = entry c.put_back_two.new.shelf in
    due c.args.party.now c.args.batch.now.0 (λ image book a b. c.law_one_due.ensures c.args.party.now image book c.args.batch.now.0 a b) c.args.batch.now.1
    (old c.args.party.now) (old c.args.spool.now) (new c.args.party.now) (new c.args.spool.now) c.closed.result (returns-clause-made g c)

pub returns-clause-shelf : goal.returns-clause-shelf
returns-clause-shelf g c = all_shelf g.H.Disk.Disk.told c.args.batch.now.0 c.args.batch.now.1 c.args.party.now c.args.spool.now _ _ _ c.in-Ok.disks c.spool_over-disks.result.0 c.put_back_two.result
    c.spool_over-disks.result.1 c.closed.result c.in-Ok.ensures c.spool_over-disks.ensures c.put_back_two.ensures c.closed.ensures
