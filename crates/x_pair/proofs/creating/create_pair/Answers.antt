use Rattle.party_state.specs.State.{begun}
use Rattle.x_pair.proofs.Around.{all_creates, all_creation, all_shelf, unfetched_creates, unfetched_creation, unfetched_shelf}
use Rattle.x_pair.proofs.Created.{creation_due}
use Rattle.x_pair.proofs.creating.create_pair.Goals as goal

pub returns-in-Err : goal.returns-in-Err
returns-in-Err g c =
    let told = g.H.Disk.Disk.told in
    let entry = g.H.Shelf.entry in
    let own = c.args.own in
    let mirror = c.args.mirror.now in
    let p = begun own c.args.role c.args.generator in
    let first = g.met.H.Shelf.sound c.args.shelf.now own in
    let second = g.met.H.Shelf.sound c.args.shelf.now mirror in
    let made = unfetched_creates told own mirror _ _ c.in-Err.cause c.failure.result c.failure.ensures c.in-Err.ensures first second p in
    record {
      created = made;
      due = creation_due (entry c.args.shelf.now own) (entry c.args.shelf.now mirror) (entry c.fetch_two.new.shelf own) (entry c.fetch_two.new.shelf mirror) own c.args.role c.args.generator c.failure.result made;
      safe = unfetched_creation told own mirror _ _ c.in-Err.cause c.failure.result c.failure.ensures c.in-Err.ensures first second p;
      shelf = unfetched_shelf told own mirror _ _ c.in-Err.cause c.failure.result c.failure.ensures c.in-Err.ensures first second;
    }

pub returns : goal.returns
returns g c =
    let told = g.H.Disk.Disk.told in
    let entry = g.H.Shelf.entry in
    let own = c.args.own in
    let mirror = c.args.mirror.now in
    let p = begun own c.args.role c.args.generator in
    let disks = c.in-Ok.disks in
    let did = c.create_over-disks.result in
    let made = all_creates told own mirror _ _ _ disks did.0 c.put_back_two.result did.1 c.closed.result c.in-Ok.ensures c.put_back_two.ensures c.closed.ensures p c.create_over-disks.ensures in
    record {
      created = made;
      due = creation_due (entry c.args.shelf.now own) (entry c.args.shelf.now mirror) (entry c.put_back_two.new.shelf own) (entry c.put_back_two.new.shelf mirror) own c.args.role c.args.generator c.closed.result made;
      safe = all_creation told own mirror _ _ _ disks did.0 c.put_back_two.result did.1 c.closed.result c.in-Ok.ensures c.put_back_two.ensures c.closed.ensures p c.create_over-disks.ensures;
      shelf = all_shelf told own mirror _ _ _ disks did.0 c.put_back_two.result did.1 c.closed.result c.in-Ok.ensures c.put_back_two.ensures c.closed.ensures c.create_over-disks.ensures.faults;
    }
