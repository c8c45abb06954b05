use Rattle.csm_grammar.specs.Values.Kind.{OfKey}
use Rattle.csm_read.proofs.Denoting.{number_denoted}
use Rattle.csm_read.proofs.numbers.key_denoted.Goals as goal

pub returns : goal.returns
returns c = number_denoted OfKey c.args.contents.now c.key.result c.key.ensures
