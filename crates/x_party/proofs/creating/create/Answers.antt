use Rattle.std.proofs.Common.{arith, inr, sym, ◌∙◌, ap, Err}
use Rattle.party_state.specs.State.{begun}
use Rattle.x_disk.proofs.Alike.{others_on}
use Rattle.x_party.proofs.Created.{created_on, made_fault, failed, fault_error}
use Rattle.x_party.proofs.Following.{created_due}
use Rattle.x_party.proofs.Opened.{shown_fault, failed_back}
use Rattle.x_party.proofs.creating.create.Goals as goal

pub returns-clause-created : goal.returns-clause-created
returns-clause-created g c =
    let told = g.H.Disk.Disk.told in
    let entry = g.H.Shelf.entry in
    let faults = g.H.Shelf.faults in
    created_on (entry c.args.shelf.now c.args.own) (told c.in-Ok.disk) (told c.create_on-disk.result.0) (entry c.put_back.new.shelf c.args.own)
    (begun c.args.own c.args.role c.args.generator) c.in-Ok.ensures.disk c.put_back.ensures.disk c.create_on-disk.result.1 c.put_back.result
    (faults c.fetch.new.self) (faults c.put_back.new.shelf) c.create_on-disk.ensures c.put_back.ensures.outcome

pub returns-clause-due : goal.returns-clause-due
returns-clause-due g c =
    let entry = g.H.Shelf.entry in
    created_due (entry c.args.shelf.now c.args.own) (entry c.put_back.new.shelf c.args.own) (begun c.args.own c.args.role c.args.generator) c.put_back.result (returns-clause-created g c)

pub returns-clause-shelf : goal.returns-clause-shelf
returns-clause-shelf g c =
    let told = g.H.Disk.Disk.told in
    let entry = g.H.Shelf.entry in
    let faults = g.H.Shelf.faults in
    record {
      back = c.put_back.ensures.back;
      others = others_on c.args.own (entry c.args.shelf.now) (entry c.fetch.new.self) (entry c.put_back.new.shelf) c.in-Ok.ensures.others c.put_back.ensures.others;
      fault = shown_fault c.create_on-disk.result.1 c.put_back.result (faults c.args.shelf.now) (faults c.fetch.new.self) (faults c.put_back.new.shelf)
          (told c.in-Ok.disk).faults (told c.create_on-disk.result.0).faults c.fetch.ensures.later
          (made_fault (told c.in-Ok.disk) (told c.create_on-disk.result.0) (begun c.args.own c.args.role c.args.generator) c.create_on-disk.result.1 c.create_on-disk.ensures.makes)
          c.put_back.ensures.seen c.put_back.ensures.outcome;
      later = omega (arith, c.fetch.ensures.later, c.put_back.ensures.later);
    }

pub returns-in-Err-clause-due : goal.returns-in-Err-clause-due
returns-in-Err-clause-due g c = λ image other now due. inr (failed c.in-Err.error c.from.result c.from.ensures)

pub returns-in-Err-clause-shelf : goal.returns-in-Err-clause-shelf
returns-in-Err-clause-shelf g c = record {
  back = failed_back c.from.result (g.H.Shelf.is_back c.fetch.new.self c.args.own) (failed c.in-Err.error c.from.result c.from.ensures);
  others = λ other apart. c.in-Err.ensures.err other;
  fault = λ is. c.fetch.ensures.cause (c.in-Err.is ∙ ap Err (fault_error c.in-Err.error (sym c.from.ensures ∙ is)));
  later = c.fetch.ensures.later;
}
