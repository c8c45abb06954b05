use Rattle.member.specs.Acts.{compacted_in}
use Rattle.node_core.specs.Turns.{turn_disk}
use Rattle.x_party.specs.Steps.{outcome_of_turn}
use Rattle.x_party.proofs.Rewritten.{has_rewritten, rewritten_on, safe_rewriting, not_rewritten}
use Rattle.x_party.proofs.Following.{rewritten_due}
use Rattle.x_party.proofs.rewriting.compact.Goals as goal

pub returns-in-Ok-clause-compacted : goal.returns-in-Ok-clause-compacted
returns-in-Ok-clause-compacted g c =
    let told = g.H.Disk.Disk.told in
    let entry = g.H.Shelf.entry in
    let faults = g.H.Shelf.faults in
    let node = c.in-Ok.node in
    let law = c.law_can_compact.ensures in
    rewritten_on compacted_in (entry c.args.shelf.now c.args.name.now) (told node.disk) (told (turn_disk c.compact.result)) (entry c.close.new.shelf c.args.name.now)
    node.gate node.end node.format node.party c.in-Ok.ensures.node c.close.ensures.disk (outcome_of_turn c.compact.result) c.close.result
    (faults c.open.new.shelf) (faults c.close.new.shelf)
    (has_rewritten told node (g.met.H.Disk.Disk.sound node.disk) law.fits law.too_large (compacted_in node.format) c.compact.result c.compact.ensures) c.close.ensures.outcome

pub returns-in-Ok-clause-safe : goal.returns-in-Ok-clause-safe
returns-in-Ok-clause-safe g c =
    let told = g.H.Disk.Disk.told in
    let entry = g.H.Shelf.entry in
    let node = c.in-Ok.node in
    let law = c.law_can_compact.ensures in
    safe_rewriting compacted_in (entry c.args.shelf.now c.args.name.now) (told node.disk) (told (turn_disk c.compact.result)) (entry c.close.new.shelf c.args.name.now)
    node.gate node.end node.format node.party c.in-Ok.ensures.node c.close.ensures.disk c.law_one_space.ensures (outcome_of_turn c.compact.result)
    (has_rewritten told node (g.met.H.Disk.Disk.sound node.disk) law.fits law.too_large (compacted_in node.format) c.compact.result c.compact.ensures)

pub returns-in-Ok-clause-due : goal.returns-in-Ok-clause-due
returns-in-Ok-clause-due g c =
    let law = c.law_one_finding.ensures in
    let entry = g.H.Shelf.entry in
    rewritten_due law.party law.not_blank law.undamaged law.one_damage law.format compacted_in (entry c.args.shelf.now c.args.name.now) (entry c.close.new.shelf c.args.name.now)
    c.close.result (returns-in-Ok-clause-compacted g c)

pub returns-in-Err-clause-due : goal.returns-in-Err-clause-due
returns-in-Err-clause-due g c =
    let law = c.law_one_finding.ensures in
    let entry = g.H.Shelf.entry in
    rewritten_due law.party law.not_blank law.undamaged law.one_damage law.format compacted_in (entry c.args.shelf.now c.args.name.now) (entry c.open.new.shelf c.args.name.now)
    c.in-Err.outcome (not_rewritten compacted_in (entry c.args.shelf.now c.args.name.now) (entry c.open.new.shelf c.args.name.now) c.in-Err.outcome c.in-Err.ensures.failed)
