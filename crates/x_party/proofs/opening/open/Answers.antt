use Rattle.std.proofs.Common.{subst, arith}
use Rattle.x_party.specs.Steps.{IsOutcome}
use Rattle.x_disk.proofs.Alike.{others_on}
use Rattle.x_party.proofs.Opened.{opened, not_opened, open_fault}
use Rattle.x_party.proofs.opening.open.Goals as goal

pub returns-in-Ok-clause-node : goal.returns-in-Ok-clause-node
returns-in-Ok-clause-node g c =
    let told = g.H.Disk.Disk.told in
    opened (g.H.Shelf.entry c.args.shelf.now c.args.name.now) (told c.in_ok-disk.disk) (told c.in-Ok.node.disk) c.in-Ok.node.gate c.in-Ok.node.end c.in-Ok.node.format c.in-Ok.node.party
    c.in_ok-disk.ensures.disk c.in-Ok.ensures.stands c.in-Ok.ensures.now c.in-Ok.ensures.images c.in-Ok.ensures.any_moment

pub returns-in-Err-clause-failed : goal.returns-in-Err-clause-failed
returns-in-Err-clause-failed g c =
    let told = g.H.Disk.Disk.told in
    let faults = g.H.Shelf.faults in
    not_opened (g.H.Shelf.entry c.args.shelf.now c.args.name.now) (told c.in_ok-disk.disk) (told c.in-Err.field-0.disk) (g.H.Shelf.entry c.put_back.new.shelf c.args.name.now)
    c.in-Err.field-0.cause c.put_back.result (faults c.fetch.new.self) (faults c.put_back.new.shelf) c.in_ok-disk.ensures.disk
    c.in-Err.ensures.now c.in-Err.ensures.images c.in-Err.ensures.any_moment c.in-Err.ensures.names c.in-Err.ensures.refused c.put_back.ensures.disk
    (subst (λ o. IsOutcome o (faults c.fetch.new.self) (faults c.put_back.new.shelf) c.put_back.result) c.outcome_of.ensures c.put_back.ensures.outcome)

pub returns-in-Err-clause-others : goal.returns-in-Err-clause-others
returns-in-Err-clause-others g c =
    let entry = g.H.Shelf.entry in
    others_on c.args.name.now (entry c.args.shelf.now) (entry c.fetch.new.self) (entry c.put_back.new.shelf) c.in_ok-disk.ensures.others c.put_back.ensures.others

pub returns-in-Err-clause-shelf : goal.returns-in-Err-clause-shelf
returns-in-Err-clause-shelf g c =
    let told = g.H.Disk.Disk.told in
    let entry = g.H.Shelf.entry in
    let faults = g.H.Shelf.faults in
    record {
      back = c.put_back.ensures.back;
      others = others_on c.args.name.now (entry c.args.shelf.now) (entry c.fetch.new.self) (entry c.put_back.new.shelf) c.in_ok-disk.ensures.others c.put_back.ensures.others;
      fault = open_fault c.in-Err.field-0.cause c.put_back.result (faults c.args.shelf.now) (faults c.fetch.new.self) (faults c.put_back.new.shelf)
          (told c.in_ok-disk.disk).faults (told c.in-Err.field-0.disk).faults c.fetch.ensures.later c.in-Err.ensures.fault c.put_back.ensures.seen
          (subst (λ o. IsOutcome o (faults c.fetch.new.self) (faults c.put_back.new.shelf) c.put_back.result) c.outcome_of.ensures c.put_back.ensures.outcome);
      later = omega (arith, c.fetch.ensures.later, c.put_back.ensures.later);
    }
