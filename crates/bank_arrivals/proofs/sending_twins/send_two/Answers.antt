use Rattle.role_base.proofs.Kept.{refuses_row}
use Rattle.bank_arrivals.proofs.TwinsSent.{twins_spent}
use Rattle.bank_arrivals.proofs.sending_twins.send_two.Goals as goal

pub returns-in-None : goal.returns-in-None
returns-in-None c =
    refuses_row c.args.state.now _ _ c.verdict_after.result c.refusal.ensures (twins_spent c.args.state.now c.args.front.now c.args.link.now c.args.moment c.verdict_after.result c.requires.refuse (c.two_counts.ensures.spent c.in-None.is) c.verdict_after.ensures)
