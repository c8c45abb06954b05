use Rattle.csm_grammar.proofs.Tagging.{tag_number}
use Rattle.csm_grammar.proofs.Rows.{entry_at, form_number}
use Rattle.csm_grammar.proofs.needs.ClassTable+351.letter.Goals as goal

pub returns : goal.returns
returns c = rw (c.args.self.now.stands, form_number c.args.form, tag_number c.args.tag) (entry_at c.args.form c.args.tag)
