use Rattle.std.proofs.Common.{◌∙◌}
use Rattle.csm_read.proofs.SlotLemmas.{lacking_first}
use Rattle.csm_read.proofs.fields.Fields.lacking.Goals as goal

pub returns-in-Some : goal.returns-in-Some
returns-in-Some c = c.absent.ensures ∙ lacking_first c.args.self.now.slots c.args.left.bits c.is_complete.result c.first.result c.in-Some.form c.is_complete.ensures c.if-is_complete.false c.first.ensures c.in-Some.is
