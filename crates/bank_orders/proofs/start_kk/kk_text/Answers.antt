use Rattle.bank_orders.proofs.KkSent.{kk_bounded}
use Rattle.bank_orders.proofs.start_kk.kk_text.Goals as goal

pub returns-clause-short : goal.returns-clause-short
returns-clause-short c = c.coded.ensures.short (rw c.kk_message-message.ensures (kk_bounded c.args.state.now c.args.link.now c.args.wanted.now.label c.args.wanted.now.single c.args.drawn.now))
