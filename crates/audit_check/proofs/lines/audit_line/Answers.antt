use Rattle.std.proofs.Common.{IfSome, IfNone, refl, subst}
use Rattle.course.specs.LineEvents.{IsNoEvent}
use Rattle.course.specs.Meanings.{IsLineAct}
use Rattle.audit_check.proofs.Leading.{leads_quiet}
use Rattle.audit_check.proofs.lines.audit_line.Goals as goal

pub returns-in-Ok-Some-clause-wrong : goal.returns-in-Ok-Some-clause-wrong
returns-in-Ok-Some-clause-wrong c = λ f is.
    let line = c.args.line.now in
    c.audit_event.ensures.wrong f is line (subst (λ o. IfSome o (λ x. IsLineAct line c.args.state.now.texts x)) c.in-Ok-Some.field-0-is c.in-Ok-Some.ensures.meant)

pub returns-in-Ok-None-clause-leads : goal.returns-in-Ok-None-clause-leads
returns-in-Ok-None-clause-leads c =
    let line = c.args.line.now in
    leads_quiet line c.args.state.now _ (subst (λ o. IfNone o (IsNoEvent line)) c.in-Ok-None.field-0-is c.in-Ok-None.ensures.none) c.advance_quiet.ensures refl
