use Rattle.std.proofs.Common.{sym, ◌∙◌, arith, inl, inr}
use Rattle.csm_grammar.proofs.Rows.{need_required, need_twice, need_optional, need_refused}
use Rattle.csm_grammar.proofs.needs.ClassTable+351.need.Goals as goal

pub returns-in-82 : goal.returns-in-82
returns-in-82 c = elim c.in-82.is [
  | inl e ↦ need_required c.args.form c.args.tag (sym c.letter.ensures ∙ e)
  | inr e ↦ need_twice c.args.form c.args.tag (sym c.letter.ensures ∙ e)
]

pub returns-in-79 : goal.returns-in-79
returns-in-79 c = need_optional c.args.form c.args.tag (sym c.letter.ensures ∙ c.in-79.is)

pub returns-in_default : goal.returns-in_default
returns-in_default c = grind (arith, need_refused)
