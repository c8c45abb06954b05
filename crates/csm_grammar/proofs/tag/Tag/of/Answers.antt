use Rattle.std.proofs.Common.{sym, ◌∙◌, arith}
use Rattle.csm_grammar.proofs.Tagging.{four_tags, no_tag_long}
use Rattle.csm_grammar.proofs.tag.Tag.of.Goals as goal

pub returns-in-len4 : goal.returns-in-len4
returns-in-len4 c = c.among.ensures ∙ four_tags c.args.name.now (omega arith)

pub returns-in_default-30 : goal.returns-in_default-30
returns-in_default-30 c = sym (no_tag_long c.args.name.now (omega arith))
