use Rattle.std.proofs.Common.{refl}
use Rattle.csm_grammar.specs.Values.Kind.{OfKey}
use Rattle.csm_read.proofs.Denoting.{value_kept}
use Rattle.csm_read.proofs.fields.Fields.key.Goals as goal

pub returns : goal.returns
returns c = value_kept c.args.self.now.slots c.args.self.now.numbers c.args.self.now.denoted c.args.tag c.requires.present OfKey refl c.requires.kind c.number.result c.number.ensures
