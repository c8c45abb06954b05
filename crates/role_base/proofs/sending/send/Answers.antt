use Rattle.role_base.proofs.Kept.{refuses_row}
use Rattle.role_base.proofs.Spent.{spent, not_counted}
use Rattle.role_base.proofs.sending.send.Goals as goal

pub returns-in-None : goal.returns-in-None
returns-in-None c =
    refuses_row c.args.state.now _ _ c.verdict_after.result c.refusal.ensures (spent c.args.state.now c.args.front.now c.args.link.now c.args.moment c.verdict_after.result c.requires.refuse
    (not_counted c.args.link.now c.requires.stands.range.next c.in-None.ensures) c.verdict_after.ensures)
