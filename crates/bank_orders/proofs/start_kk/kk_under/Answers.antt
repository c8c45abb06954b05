use Rattle.role_base.proofs.Spent.{not_counted}
use Rattle.role_base.proofs.Kept.{refuses_row}
use Rattle.bank_orders.proofs.KkSent.{kk_spent}
use Rattle.bank_orders.proofs.start_kk.kk_under.Goals as goal

pub returns-in-None : goal.returns-in-None
returns-in-None c =
    refuses_row c.args.state.now _ _ c.verdict_after.result c.refusal.ensures (kk_spent c.args.state.now c.args.front.now c.args.link.now c.args.wanted.now.label c.args.wanted.now.single _ c.verdict_after.result c.requires.refuse
    (not_counted c.args.link.now c.requires.stands.range.next c.in-None.ensures) c.verdict_after.ensures)
