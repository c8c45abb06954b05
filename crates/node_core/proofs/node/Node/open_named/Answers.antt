use Rattle.std.proofs.Common.{◌∙◌, ap, sym}
use Rattle.node_core.proofs.ByName.{not_opened, opened, other_name, other_party, same_name}
use Rattle.node_core.proofs.node.Node.open_named.Goals as goal

pub returns-in-Err-clause-failed : goal.returns-in-Err-clause-failed
returns-in-Err-clause-failed g c = not_opened g.D.Disk.told c.args.name.now c.args.disk c.in-Err.field-0 c.in-Err.ensures

pub returns-then-ne-clause-failed : goal.returns-then-ne-clause-failed
returns-then-ne-clause-failed g c =
    let node = c.in-Ok.node in
    let own = c.own-own.result in
    other_party g.D.Disk.told c.args.name.now c.args.disk node own c.into_disk.result c.in-Ok.ensures
    (c.own-own.ensures.own ∙ ap (λ p. p.own) c.view.ensures.party) (other_name own c.args.name.now c.ne.result c.ne.ensures c.if-ne.true) c.into_disk.ensures.disk

pub returns-clause-opened : goal.returns-clause-opened
returns-clause-opened g c =
    let node = c.in-Ok.node in
    let own = c.own-own.result in
    opened g.D.Disk.told c.args.name.now c.args.disk node c.in-Ok.ensures
    (sym (c.own-own.ensures.own ∙ ap (λ p. p.own) c.view.ensures.party) ∙ same_name own c.args.name.now c.ne.result c.ne.ensures c.if-ne.false)
