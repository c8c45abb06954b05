use Rattle.x_pay.specs.Payments.{paying}
use Rattle.x_pay.proofs.Around.{all_makes, all_safe, all_shelf, unfetched_makes, unfetched_safe, unfetched_shelf}
use Rattle.x_pay.proofs.Following.{due}
use Rattle.x_pay.proofs.paying.pay.Goals as goal

pub returns-in-Err-clause-paid : goal.returns-in-Err-clause-paid
returns-in-Err-clause-paid g c =
    let sound = g.met.H.Shelf.sound c.args.shelf.now in
    unfetched_makes g.H.Disk.Disk.told (paying c.args.peer.now c.args.name.now c.args.amount) c.args.party.now c.args.ledger.now _ _ c.in-Err.cause c.failure.result c.failure.ensures c.in-Err.ensures
    (sound c.args.party.now) (sound c.args.ledger.now)

pub returns-in-Err-clause-safe : goal.returns-in-Err-clause-safe
returns-in-Err-clause-safe g c =
    let sound = g.met.H.Shelf.sound c.args.shelf.now in
    unfetched_safe g.H.Disk.Disk.told (paying c.args.peer.now c.args.name.now c.args.amount) c.args.party.now c.args.ledger.now _ _ c.in-Err.cause c.failure.result c.failure.ensures c.in-Err.ensures
    (sound c.args.party.now) (sound c.args.ledger.now)

pub returns-in-Err-clause-due : goal.returns-in-Err-clause-due
returns-in-Err-clause-due g c =
    let entry = g.H.Shelf.entry in
    due (paying c.args.peer.now c.args.name.now c.args.amount) c.args.party.now (λ image book a b. c.law_one_due.ensures.paid c.args.peer.now c.args.name.now c.args.amount c.args.party.now image book a b)
    (entry c.args.shelf.now c.args.party.now) (entry c.args.shelf.now c.args.ledger.now) (entry c.fetch_two.new.shelf c.args.ledger.now) c.failure.result (returns-in-Err-clause-paid g c)

pub returns-in-Err-clause-shelf : goal.returns-in-Err-clause-shelf
returns-in-Err-clause-shelf g c =
    let sound = g.met.H.Shelf.sound c.args.shelf.now in
    unfetched_shelf g.H.Disk.Disk.told (paying c.args.peer.now c.args.name.now c.args.amount) c.args.party.now c.args.ledger.now _ _ c.in-Err.cause c.failure.result c.failure.ensures c.in-Err.ensures
    (sound c.args.party.now) (sound c.args.ledger.now)

pub returns-clause-paid : goal.returns-clause-paid
returns-clause-paid g c = all_makes g.H.Disk.Disk.told (paying c.args.peer.now c.args.name.now c.args.amount) c.args.party.now c.args.ledger.now _ _ _ c.in-Ok.disks c.pay_over-disks.result.0 c.put_back_two.result
    c.pay_over-disks.result.1 c.closed.result c.in-Ok.ensures c.pay_over-disks.ensures c.put_back_two.ensures c.closed.ensures

pub returns-clause-safe : goal.returns-clause-safe
returns-clause-safe g c = all_safe g.H.Disk.Disk.told (paying c.args.peer.now c.args.name.now c.args.amount) c.args.party.now c.args.ledger.now _ _ _ c.in-Ok.disks c.pay_over-disks.result.0 c.put_back_two.result
    c.pay_over-disks.result.1 c.closed.result c.in-Ok.ensures c.pay_over-disks.ensures c.put_back_two.ensures c.closed.ensures

pub returns-clause-due : goal.returns-clause-due
returns-clause-due g c =
    let entry = g.H.Shelf.entry in
    due (paying c.args.peer.now c.args.name.now c.args.amount) c.args.party.now (λ image book a b. c.law_one_due.ensures.paid c.args.peer.now c.args.name.now c.args.amount c.args.party.now image book a b)
    (entry c.args.shelf.now c.args.party.now) (entry c.args.shelf.now c.args.ledger.now) (entry c.put_back_two.new.shelf c.args.ledger.now) c.closed.result (returns-clause-paid g c)

pub returns-clause-shelf : goal.returns-clause-shelf
returns-clause-shelf g c = all_shelf g.H.Disk.Disk.told (paying c.args.peer.now c.args.name.now c.args.amount) c.args.party.now c.args.ledger.now _ _ _ c.in-Ok.disks c.pay_over-disks.result.0 c.put_back_two.result
    c.pay_over-disks.result.1 c.closed.result c.in-Ok.ensures c.pay_over-disks.ensures c.put_back_two.ensures c.closed.ensures
