use Rattle.node_core.specs.Turns.{turn_disk}
use Rattle.x_party.specs.Steps.{outcome_of_turn}
use Rattle.x_party.proofs.Wiped.{has_wiped, wiped_on, safe_wiping, not_wiped}
use Rattle.x_party.proofs.Following.{wiped_due}
use Rattle.x_party.proofs.wiping.wipe.Goals as goal

pub returns-in-Ok-clause-wiped : goal.returns-in-Ok-clause-wiped
returns-in-Ok-clause-wiped g c =
    let told = g.H.Disk.Disk.told in
    let entry = g.H.Shelf.entry in
    let faults = g.H.Shelf.faults in
    let node = c.in-Ok.node in
    wiped_on (entry c.args.shelf.now c.args.name.now) (told node.disk) (told (turn_disk c.wipe.result)) (entry c.close.new.shelf c.args.name.now)
    node.gate node.end node.format node.party c.in-Ok.ensures.node c.close.ensures.disk (outcome_of_turn c.wipe.result) c.close.result
    (faults c.open.new.shelf) (faults c.close.new.shelf) (has_wiped told node c.wipe.result c.wipe.ensures) c.close.ensures.outcome

pub returns-in-Ok-clause-safe : goal.returns-in-Ok-clause-safe
returns-in-Ok-clause-safe g c =
    let told = g.H.Disk.Disk.told in
    let entry = g.H.Shelf.entry in
    let node = c.in-Ok.node in
    safe_wiping (entry c.args.shelf.now c.args.name.now) (told node.disk) (told (turn_disk c.wipe.result)) (entry c.close.new.shelf c.args.name.now)
    node.gate node.end node.format node.party c.in-Ok.ensures.node c.close.ensures.disk c.law_one_space.ensures (outcome_of_turn c.wipe.result)
    (has_wiped told node c.wipe.result c.wipe.ensures)

pub returns-in-Ok-clause-due : goal.returns-in-Ok-clause-due
returns-in-Ok-clause-due g c =
    let law = c.law_one_finding.ensures in
    let entry = g.H.Shelf.entry in
    wiped_due law.party law.not_blank law.undamaged law.one_damage (entry c.args.shelf.now c.args.name.now) (entry c.close.new.shelf c.args.name.now)
    c.close.result (returns-in-Ok-clause-wiped g c)

pub returns-in-Err-clause-due : goal.returns-in-Err-clause-due
returns-in-Err-clause-due g c =
    let law = c.law_one_finding.ensures in
    let entry = g.H.Shelf.entry in
    wiped_due law.party law.not_blank law.undamaged law.one_damage (entry c.args.shelf.now c.args.name.now) (entry c.open.new.shelf c.args.name.now)
    c.in-Err.outcome (not_wiped (entry c.args.shelf.now c.args.name.now) (entry c.open.new.shelf c.args.name.now) c.in-Err.outcome c.in-Err.ensures.failed)
