use Rattle.std.proofs.Common.{◌∙◌}
use Rattle.csm_read.proofs.EndLemmas.{missing_same}
use Rattle.csm_read.proofs.fields.Fields.missing_tag.Goals as goal

pub returns : goal.returns
returns c = λ fs k. c.missing_at_end.ensures ∙ missing_same c.args.self.now.slots c.args.self.now.left.bits fs k
