use Rattle.std.proofs.Common.{subst}
use Rattle.pay_auth.specs.Turns.{IsPayTurn}
use Rattle.x_pay.specs.Payments.{paying}
use Rattle.x_pay.proofs.Acted.{turned, acted_by, any_acted}
use Rattle.x_pay.proofs.acting.pay_over.Goals as goal

pub returns-in-Ok : goal.returns-in-Ok
returns-in-Ok g c =
    let told = g.D.Disk.told in
    let w = paying c.args.peer.now c.args.name.now c.args.amount in
    let node = c.in-Ok.opened.node in
    let ledger = c.in-Ok.opened.ledger in
    let turn = c.pay-turn.result in
    acted_by told w c.args.party.now c.args.disks node.disk c.into_disk-first.result turn c.ended-second.result c.into_disk-first.ensures.disk c.ended-second.ensures.disk c.ended-second.ensures.outcome
    (turned told g.met.D.Disk.sound c.args.party.now c.args.disks node ledger c.in-Ok.ensures.opened c.law_one_finding.ensures.not_blank w turn
    (subst (λ p. IsPayTurn told ledger (w.Refuses p) (w.Passes p) turn) c.view.ensures.party c.pay-turn.ensures))

pub returns-in-Err : goal.returns-in-Err
returns-in-Err g c = any_acted g.D.Disk.told (paying c.args.peer.now c.args.name.now c.args.amount) c.args.party.now c.args.disks c.in-Err.unopened.disks c.in-Err.unopened.outcome c.in-Err.ensures.failed
