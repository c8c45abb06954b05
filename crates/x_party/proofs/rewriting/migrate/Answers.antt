use Rattle.member.specs.Acts.{migrated_in}
use Rattle.node_core.specs.Turns.{turn_disk}
use Rattle.x_party.specs.Steps.{outcome_of_turn}
use Rattle.x_party.proofs.Rewritten.{has_rewritten, rewritten_on, safe_rewriting, not_rewritten}
use Rattle.x_party.proofs.Following.{rewritten_due}
use Rattle.x_party.proofs.rewriting.migrate.Goals as goal

pub returns-in-Ok-clause-migrated : goal.returns-in-Ok-clause-migrated
returns-in-Ok-clause-migrated g c =
    let told = g.H.Disk.Disk.told in
    let entry = g.H.Shelf.entry in
    let faults = g.H.Shelf.faults in
    let node = c.in-Ok.node in
    let law = c.law_can_compact.ensures in
    rewritten_on migrated_in (entry c.args.shelf.now c.args.name.now) (told node.disk) (told (turn_disk c.migrate.result)) (entry c.close.new.shelf c.args.name.now)
    node.gate node.end node.format node.party c.in-Ok.ensures.node c.close.ensures.disk (outcome_of_turn c.migrate.result) c.close.result
    (faults c.open.new.shelf) (faults c.close.new.shelf)
    (has_rewritten told node (g.met.H.Disk.Disk.sound node.disk) law.fits law.too_large (migrated_in node.format) c.migrate.result c.migrate.ensures.turn) c.close.ensures.outcome

pub returns-in-Ok-clause-safe : goal.returns-in-Ok-clause-safe
returns-in-Ok-clause-safe g c =
    let told = g.H.Disk.Disk.told in
    let entry = g.H.Shelf.entry in
    let node = c.in-Ok.node in
    let law = c.law_can_compact.ensures in
    safe_rewriting migrated_in (entry c.args.shelf.now c.args.name.now) (told node.disk) (told (turn_disk c.migrate.result)) (entry c.close.new.shelf c.args.name.now)
    node.gate node.end node.format node.party c.in-Ok.ensures.node c.close.ensures.disk c.law_one_space.ensures (outcome_of_turn c.migrate.result)
    (has_rewritten told node (g.met.H.Disk.Disk.sound node.disk) law.fits law.too_large (migrated_in node.format) c.migrate.result c.migrate.ensures.turn)

pub returns-in-Ok-clause-due : goal.returns-in-Ok-clause-due
returns-in-Ok-clause-due g c =
    let law = c.law_one_finding.ensures in
    let entry = g.H.Shelf.entry in
    rewritten_due law.party law.not_blank law.undamaged law.one_damage law.format migrated_in (entry c.args.shelf.now c.args.name.now) (entry c.close.new.shelf c.args.name.now)
    c.close.result (returns-in-Ok-clause-migrated g c)

pub returns-in-Err-clause-due : goal.returns-in-Err-clause-due
returns-in-Err-clause-due g c =
    let law = c.law_one_finding.ensures in
    let entry = g.H.Shelf.entry in
    rewritten_due law.party law.not_blank law.undamaged law.one_damage law.format migrated_in (entry c.args.shelf.now c.args.name.now) (entry c.open.new.shelf c.args.name.now)
    c.in-Err.outcome (not_rewritten migrated_in (entry c.args.shelf.now c.args.name.now) (entry c.open.new.shelf c.args.name.now) c.in-Err.outcome c.in-Err.ensures.failed)
