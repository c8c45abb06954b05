use Rattle.std.proofs.Common.{ap}
use Rattle.std.specs.Prelude.{not}
use Rattle.csm_read.proofs.SlotLemmas.{wrong_begin}
use Rattle.csm_read.proofs.fields.Fields.begins_wrongly.Goals as goal

pub returns-else-not-has : goal.returns-else-not-has
returns-else-not-has c = λ fs k. wrong_begin c.args.self.now.slots c.args.self.now.left.bits fs c.has.result _ k c.has.ensures (ap not c.if-not-has.false)
