use Rattle.std.proofs.Common.{◌-◌, length, ◌∙◌, ap, arith}
use Rattle.std.specs.Prelude.{count_by}
use Rattle.audit_check.specs.Answers.{is_line_feed}
use Rattle.audit_check.specs.Compared.{Compared}
use Rattle.audit_check.proofs.Comparing.{front_is}
use Rattle.audit_check.proofs.comparison.Comparison.line.Goals as goal

pub returns-in-Ok : goal.returns-in-Ok
returns-in-Ok c = λ made is.
    let rest = ap (λ (x : Compared). length c.args.given.now - length x.rest) (c.self.view_is ∙ is) in
    let count = c.line_feeds.ensures ∙ ap (count_by is_line_feed) (c.split_at.ensures.front ∙ front_is made c.args.given.now c.saturating_sub.result (c.saturating_sub.ensures ∙ rest)) in
    omega (arith, count, c.in-Ok.ensures)
