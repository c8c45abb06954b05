use Rattle.std.proofs.Common.{sym, ◌∙◌, arith}
use Rattle.csm_grammar.proofs.SetLemmas.{allowing, allowing_twice, no_other_twice, none_thrice}
use Rattle.csm_grammar.proofs.form_set.having.Goals as goal

pub returns-in-0-clause-forms : goal.returns-in-0-clause-forms
returns-in-0-clause-forms c = rw (c.in-0.is, c.place.ensures.place) (λ f. allowing c.args.tag f)

pub returns-in-1-clause-forms : goal.returns-in-1-clause-forms
returns-in-1-clause-forms c = rw c.in-1.is (λ f. allowing_twice c.args.tag f (sym c.is.ensures ∙ c.if-is.true))

pub returns-in_default-clause-forms : goal.returns-in_default-clause-forms
returns-in_default-clause-forms c = rw c.in-1.is (λ f. no_other_twice c.args.tag f (sym c.is.ensures ∙ c.if-is.false))

pub returns-in_default-2-clause-forms : goal.returns-in_default-2-clause-forms
returns-in_default-2-clause-forms c = λ f. none_thrice c.args.tag f c.args.count (omega arith)
