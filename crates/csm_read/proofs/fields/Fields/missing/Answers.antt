use Rattle.csm_read.proofs.SlotLemmas.{missing_code}
use Rattle.csm_read.proofs.fields.Fields.missing.Goals as goal

pub returns-then-is_closing : goal.returns-then-is_closing
returns-then-is_closing c = λ fs k. missing_code c.args.self.now.slots c.args.self.now.left.bits c.left.result.bits fs c.args.tag c.is_closing.result c.lacking.result k c.is_closing.ensures c.if-is_closing.true c.left.ensures c.lacking.ensures
