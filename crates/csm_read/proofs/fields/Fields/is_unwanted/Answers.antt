use Rattle.csm_read.proofs.SlotLemmas.{unwanted_closed, unwanted_open}
use Rattle.csm_read.proofs.fields.Fields.is_unwanted.Goals as goal

pub returns-then-is_closed : goal.returns-then-is_closed
returns-then-is_closed c = λ fs k. unwanted_closed c.args.self.now.slots c.args.self.now.left.bits fs c.is_closed.result _ k c.is_closed.ensures c.if-is_closed.true

pub returns-else-is_closed : goal.returns-else-is_closed
returns-else-is_closed c = λ fs k. unwanted_open c.args.self.now.slots c.args.self.now.left.bits c.left.result.bits fs c.args.tag c.is_closed.result c.is_empty.result k c.is_closed.ensures c.if-is_closed.false c.left.ensures c.is_empty.ensures
