use Rattle.std.proofs.Common.{ℕ, [], ◌∷◌, ◌++◌, sym, ap, ◌∙◌}
use Rattle.pay_auth.specs.Texts.{without_line_end}
use Rattle.pay_auth.proofs.LineEnds.{end_none, end_cut, end_stays}
use Rattle.pay_auth.proofs.reading.without_line_end.Goals as goal

pub returns-in_default : goal.returns-in_default
returns-in_default c = end_none c.args.bytes.now c.in_default.ensures.cases

pub returns-then-last-eq10 : goal.returns-then-last-eq10
returns-then-last-eq10 c =
    let front = c.in-Some.front.now in
    sym (ap without_line_end (c.in-Some.ensures.cases.0 ∙ ap (λ (b : ℕ). front ++ b ∷ []) c.if-last-eq10.true) ∙ end_cut front)

pub returns-else-last-eq10 : goal.returns-else-last-eq10
returns-else-last-eq10 c =
    let is = c.in-Some.ensures.cases.0 in
    is ∙ sym (ap without_line_end is ∙ end_stays c.in-Some.front.now c.in-Some.last.now c.if-last-eq10.false)
