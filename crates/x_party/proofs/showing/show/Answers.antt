use Rattle.std.proofs.Common.{subst, arith}
use Rattle.x_party.specs.Steps.{IsText}
use Rattle.x_disk.proofs.Alike.{others_on}
use Rattle.x_party.proofs.Following.{shown_due}
use Rattle.x_party.proofs.Opened.{shown_fault}
use Rattle.x_party.proofs.Shown.{shown_on, not_shown, text_fault}
use Rattle.x_party.proofs.showing.show.Goals as goal

pub returns-clause-shown : goal.returns-clause-shown
returns-clause-shown g c =
    let told = g.H.Disk.Disk.told in
    let entry = g.H.Shelf.entry in
    let faults = g.H.Shelf.faults in
    shown_on told (entry c.args.shelf.now c.args.name.now) (entry c.put_back.new.shelf c.args.name.now) c.in-Ok.node.disk c.into_disk.result c.in-Ok.node.gate c.in-Ok.node.end c.in-Ok.node.format c.in-Ok.node.party
    c.in-Ok.ensures.node c.into_disk.ensures.disk c.put_back.ensures.disk c.text_of-outcome.result c.put_back.result (faults c.open.new.shelf) (faults c.put_back.new.shelf)
    (subst (λ p. IsText p c.text_of-outcome.result) c.view.ensures.party c.text_of-outcome.ensures) c.put_back.ensures.outcome

pub returns-clause-due : goal.returns-clause-due
returns-clause-due g c =
    let law = c.law_one_finding.ensures in
    let entry = g.H.Shelf.entry in
    shown_due law.party law.not_blank law.undamaged law.one_damage (entry c.args.shelf.now c.args.name.now) (entry c.put_back.new.shelf c.args.name.now)
    c.put_back.result (returns-clause-shown g c)

pub returns-clause-shelf : goal.returns-clause-shelf
returns-clause-shelf g c =
    let told = g.H.Disk.Disk.told in
    let entry = g.H.Shelf.entry in
    let faults = g.H.Shelf.faults in
    record {
      back = c.put_back.ensures.back;
      others = others_on c.args.name.now (entry c.args.shelf.now) (entry c.open.new.shelf) (entry c.put_back.new.shelf) c.open.ensures.others c.put_back.ensures.others;
      fault = shown_fault c.text_of-outcome.result c.put_back.result (faults c.args.shelf.now) (faults c.open.new.shelf) (faults c.put_back.new.shelf)
          0 (told c.into_disk.result).faults c.open.ensures.later (text_fault c.view.result.now c.text_of-outcome.result c.text_of-outcome.ensures)
          c.put_back.ensures.seen c.put_back.ensures.outcome;
      later = omega (arith, c.open.ensures.later, c.put_back.ensures.later);
    }

pub returns-in-Err-clause-due : goal.returns-in-Err-clause-due
returns-in-Err-clause-due g c =
    let law = c.law_one_finding.ensures in
    let entry = g.H.Shelf.entry in
    shown_due law.party law.not_blank law.undamaged law.one_damage (entry c.args.shelf.now c.args.name.now) (entry c.open.new.shelf c.args.name.now)
    c.in-Err.outcome (not_shown (entry c.args.shelf.now c.args.name.now) (entry c.open.new.shelf c.args.name.now) c.in-Err.outcome c.in-Err.ensures.failed)
