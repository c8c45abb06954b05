use Rattle.csm_read.proofs.Denoting.{second_value_kept}
use Rattle.csm_read.proofs.fields.Fields.second_key.Goals as goal

pub returns : goal.returns
returns c = second_value_kept c.args.self.now.slots c.args.self.now.numbers c.args.self.now.denoted c.requires c.second_number.result c.second_number.ensures
