use Rattle.csm_read.proofs.Denoting.{no_extras}
use Rattle.csm_read.proofs.fields.Fields.extras.Goals as goal

pub returns-then-not-has_extras : goal.returns-then-not-has_extras
returns-then-not-has_extras c = no_extras c.args.self.now.slots c.has_extras.result c.has_extras.ensures c.if-not-has_extras.true
