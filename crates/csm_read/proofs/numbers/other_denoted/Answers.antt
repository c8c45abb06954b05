use Rattle.std.proofs.Common.{sym, ◌∙◌}
use Rattle.csm_grammar.specs.Values.{kind_of}
use Rattle.csm_read.proofs.Denoting.{other_stands}
use Rattle.csm_read.proofs.numbers.other_denoted.Goals as goal

pub returns-then-is_contents : goal.returns-then-is_contents
returns-then-is_contents c = other_stands (kind_of c.args.tag) c.args.contents.now 0 c.requires (sym c.is_contents.ensures ∙ c.if-is_contents.true)
