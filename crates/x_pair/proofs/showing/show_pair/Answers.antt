use Rattle.x_pair.specs.Outcomes.{showing}
use Rattle.x_pair.proofs.Around.{all_makes, all_safe, all_shelf, unfetched_makes, unfetched_safe, unfetched_shelf}
use Rattle.x_pair.proofs.Dues.{show_due}
use Rattle.x_pair.proofs.showing.show_pair.Goals as goal

pub returns-in-Err : goal.returns-in-Err
returns-in-Err g c =
    let told = g.H.Disk.Disk.told in
    let first = g.met.H.Shelf.sound c.args.shelf.now c.args.name.now in
    let second = g.met.H.Shelf.sound c.args.shelf.now c.args.mirror.now in
    let entry = g.H.Shelf.entry in
    let law = c.law_one_finding.ensures in
    let recovering = c.law_recovers.ensures in
    let made = unfetched_makes told c.args.name.now c.args.mirror.now _ _ c.in-Err.cause c.failure.result c.failure.ensures c.in-Err.ensures first second (showing) in
    record {
      shown = made;
      due = show_due law.party law.not_blank law.undamaged law.one_damage recovering.one_party recovering.refused (entry c.args.shelf.now c.args.name.now) (entry c.args.shelf.now c.args.mirror.now) (entry c.fetch_two.new.shelf c.args.name.now) (entry c.fetch_two.new.shelf c.args.mirror.now) c.failure.result made;
      safe = unfetched_safe told c.args.name.now c.args.mirror.now _ _ c.in-Err.cause c.failure.result c.failure.ensures c.in-Err.ensures first second (showing);
      shelf = unfetched_shelf told c.args.name.now c.args.mirror.now _ _ c.in-Err.cause c.failure.result c.failure.ensures c.in-Err.ensures first second;
    }

pub returns : goal.returns
returns g c =
    let told = g.H.Disk.Disk.told in
    let disks = c.in-Ok.disks in
    let did = c.show_over-disks.result in
    let entry = g.H.Shelf.entry in
    let law = c.law_one_finding.ensures in
    let recovering = c.law_recovers.ensures in
    let made = all_makes told c.args.name.now c.args.mirror.now _ _ _ disks did.0 c.put_back_two.result did.1 c.closed.result c.in-Ok.ensures c.put_back_two.ensures c.closed.ensures (showing) c.show_over-disks.ensures in
    record {
      shown = made;
      due = show_due law.party law.not_blank law.undamaged law.one_damage recovering.one_party recovering.refused (entry c.args.shelf.now c.args.name.now) (entry c.args.shelf.now c.args.mirror.now) (entry c.put_back_two.new.shelf c.args.name.now) (entry c.put_back_two.new.shelf c.args.mirror.now) c.closed.result made;
      safe = all_safe told c.args.name.now c.args.mirror.now _ _ _ disks did.0 c.put_back_two.result did.1 c.closed.result c.in-Ok.ensures c.put_back_two.ensures c.closed.ensures (showing) c.show_over-disks.ensures;
      shelf = all_shelf told c.args.name.now c.args.mirror.now _ _ _ disks did.0 c.put_back_two.result did.1 c.closed.result c.in-Ok.ensures c.put_back_two.ensures c.closed.ensures c.show_over-disks.ensures.faults;
    }
