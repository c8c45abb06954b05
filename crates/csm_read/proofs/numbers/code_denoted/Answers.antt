use Rattle.csm_grammar.specs.Values.{value_of}
use Rattle.csm_grammar.specs.Values.Kind.{OfCode}
use Rattle.csm_read.proofs.Denoting.{number_stands}
use Rattle.csm_read.proofs.numbers.code_denoted.Goals as goal

pub returns-in-Some : goal.returns-in-Some
returns-in-Some c = number_stands (value_of OfCode c.args.contents.now) _ c.in-Some.ensures
