use Rattle.std.proofs.Common.{sym, ◌∙◌, arith}
use Rattle.csm_grammar.proofs.Rows.{times_twice, times_never, times_once}
use Rattle.csm_grammar.proofs.needs.ClassTable+351.times.Goals as goal

pub returns-in-84 : goal.returns-in-84
returns-in-84 c = times_twice c.args.form c.args.tag (sym c.letter.ensures ∙ c.in-84.is)

pub returns-in-88 : goal.returns-in-88
returns-in-88 c = times_never c.args.form c.args.tag (sym c.letter.ensures ∙ c.in-88.is)

pub returns-in_default : goal.returns-in_default
returns-in_default c = times_once c.args.form c.args.tag (λ e. omega (arith, e)) (λ e. omega (arith, e))
