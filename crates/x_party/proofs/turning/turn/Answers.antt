use Rattle.std.proofs.Common.{sym, ◌∙◌, ap, subst}
use Rattle.member.specs.Deciding.{decision}
use Rattle.member.specs.Leads.{lead_in}
use Rattle.member.specs.Acts.{taking}
use Rattle.node_core.specs.Turns.{IsTurn, turn_disk}
use Rattle.x_party.specs.Steps.{outcome_of_turn}
use Rattle.x_party.proofs.Acted.{turned_on, safe_on, not_turned}
use Rattle.x_party.proofs.Ended.{has_acted}
use Rattle.x_party.proofs.Following.{turned_due}
use Rattle.node_core.proofs.ByName.{other_name, same_name}
use Rattle.x_party.proofs.Others.{other_by}
use Rattle.x_party.proofs.turning.turn.Goals as goal

pub returns-in-Err-clause-due : goal.returns-in-Err-clause-due
returns-in-Err-clause-due g c =
    let law = c.law_one_finding.ensures in
    let entry = g.H.Shelf.entry in
    turned_due law.party law.not_blank law.undamaged law.one_damage c.law_one_space.ensures c.args.name.now c.args.input.now c.args.moment
    (entry c.args.shelf.now c.args.name.now) (entry c.open.new.shelf c.args.name.now) c.in-Err.outcome
    (not_turned c.args.name.now (entry c.args.shelf.now c.args.name.now) (entry c.open.new.shelf c.args.name.now) c.args.input.now c.args.moment c.in-Err.outcome c.in-Err.ensures.failed)

pub returns-then-ne-clause-turned : goal.returns-then-ne-clause-turned
returns-then-ne-clause-turned g c =
    let told = g.H.Disk.Disk.told in
    let entry = g.H.Shelf.entry in
    let faults = g.H.Shelf.faults in
    let node = c.in-Ok.node in
    let own = c.own-own.result in
    let is = c.own-own.ensures.own ∙ ap (λ p. p.own) c.view.ensures.party in
    let acted = other_by told c.args.name.now own node (decision node.party c.args.input.now c.args.moment) c.into_disk.result
    (g.met.H.Disk.Disk.sound node.disk) c.in-Ok.ensures.node.store is (other_name own c.args.name.now c.ne.result c.ne.ensures c.if-ne.true) c.into_disk.ensures.disk in
    turned_on (entry c.args.shelf.now c.args.name.now) (told node.disk) node.gate node.end node.format node.party c.in-Ok.ensures.node
    c.args.name.now (told c.into_disk.result) (entry c.put_back.new.shelf c.args.name.now) c.args.input.now c.args.moment c.put_back.ensures.disk _ c.put_back.result
    (faults c.open.new.shelf) (faults c.put_back.new.shelf) acted c.put_back.ensures.outcome

pub returns-then-ne-clause-due : goal.returns-then-ne-clause-due
returns-then-ne-clause-due g c =
    let law = c.law_one_finding.ensures in
    let entry = g.H.Shelf.entry in
    turned_due law.party law.not_blank law.undamaged law.one_damage c.law_one_space.ensures c.args.name.now c.args.input.now c.args.moment
    (entry c.args.shelf.now c.args.name.now) (entry c.put_back.new.shelf c.args.name.now) c.put_back.result (returns-then-ne-clause-turned g c)

pub returns-in-Ok-plan-clause-turned : goal.returns-in-Ok-plan-clause-turned
returns-in-Ok-plan-clause-turned g c =
    let told = g.H.Disk.Disk.told in
    let entry = g.H.Shelf.entry in
    let faults = g.H.Shelf.faults in
    let node = c.in-Ok.node in
    let own = c.own-own.result in
    let is = c.own-own.ensures.own ∙ ap (λ p. p.own) c.view.ensures.party in
    let acted = has_acted told c.args.name.now node (decision node.party c.args.input.now c.args.moment) (lead_in node.party c.args.input.now)
    (sym is ∙ same_name own c.args.name.now c.ne.result c.ne.ensures c.if-ne.false) (g.met.H.Disk.Disk.sound node.disk)
    (c.law_refusal.ensures node.party c.args.input.now c.args.moment) c.carry_out.result
    (subst (λ p. IsTurn told p.node (taking p.plan) c.carry_out.result) c.in-Ok-plan.ensures.planned c.carry_out.ensures.turn) in
    turned_on (entry c.args.shelf.now c.args.name.now) (told node.disk) node.gate node.end node.format node.party c.in-Ok.ensures.node
    c.args.name.now (told (turn_disk c.carry_out.result)) (entry c.close.new.shelf c.args.name.now) c.args.input.now c.args.moment c.close.ensures.disk
    (outcome_of_turn c.carry_out.result) c.close.result (faults c.open.new.shelf) (faults c.close.new.shelf) acted c.close.ensures.outcome

pub returns-in-Ok-plan-clause-safe : goal.returns-in-Ok-plan-clause-safe
returns-in-Ok-plan-clause-safe g c =
    let told = g.H.Disk.Disk.told in
    let entry = g.H.Shelf.entry in
    let node = c.in-Ok.node in
    let own = c.own-own.result in
    let is = c.own-own.ensures.own ∙ ap (λ p. p.own) c.view.ensures.party in
    let acted = has_acted told c.args.name.now node (decision node.party c.args.input.now c.args.moment) (lead_in node.party c.args.input.now)
    (sym is ∙ same_name own c.args.name.now c.ne.result c.ne.ensures c.if-ne.false) (g.met.H.Disk.Disk.sound node.disk)
    (c.law_refusal.ensures node.party c.args.input.now c.args.moment) c.carry_out.result
    (subst (λ p. IsTurn told p.node (taking p.plan) c.carry_out.result) c.in-Ok-plan.ensures.planned c.carry_out.ensures.turn) in
    safe_on (entry c.args.shelf.now c.args.name.now) (told node.disk) node.gate node.end node.format node.party c.in-Ok.ensures.node
    c.args.name.now (told (turn_disk c.carry_out.result)) (entry c.close.new.shelf c.args.name.now) c.args.input.now c.args.moment c.close.ensures.disk
    c.law_one_space.ensures (outcome_of_turn c.carry_out.result) acted

pub returns-in-Ok-plan-clause-due : goal.returns-in-Ok-plan-clause-due
returns-in-Ok-plan-clause-due g c =
    let law = c.law_one_finding.ensures in
    let entry = g.H.Shelf.entry in
    turned_due law.party law.not_blank law.undamaged law.one_damage c.law_one_space.ensures c.args.name.now c.args.input.now c.args.moment
    (entry c.args.shelf.now c.args.name.now) (entry c.close.new.shelf c.args.name.now) c.close.result (returns-in-Ok-plan-clause-turned g c)
