use Rattle.std.proofs.Common.{Err, refl, sym, ◌∙◌, ap, subst, option_map}
use Rattle.std.proofs.lemmas.Result.{err_from_is_err_and}
use Rattle.course.specs.Outcomes.{after_outcome, IsWithin}
use Rattle.audit_check.specs.declared.failure.Failure.TheVariants as failure
use Rattle.audit_check.proofs.Leading.{leads_event, wrong_event, event_within, some_map}
use Rattle.audit_check.proofs.Results.{one_err}
use Rattle.audit_check.proofs.lines.audit_event.Goals as goal

pub returns-in_err-outcome-clause-wrong : goal.returns-in_err-outcome-clause-wrong
returns-in_err-outcome-clause-wrong c = λ f is l meant.
    let e = err_from_is_err_and c.from_residual.result c.from_residual.ensures.1 in
    let one = sym e.2 ∙ one_err c.from_residual.result e.0 (failure.Wrong f) e.1 is in
    wrong_event l c.args.act.now c.args.state.now f meant (c.in_err-outcome.ensures.wrong f (ap Err one))

pub returns-clause-leads : goal.returns-clause-leads
returns-clause-leads c = λ l meant.
    let mid = c.perform.new.state in
    leads_event l c.args.act.now c.in_ok-outcome.outcome c.args.state.now mid _ c.len-count.result (option_map (λ t. t.now) c.get-text.result) c.as_slice.result.now meant c.in_ok-outcome.ensures.acted c.perform.ensures.now c.perform.ensures.comparison
    c.len-count.ensures.count c.get-text.ensures (c.as_slice.ensures.value ∙ c.in_ok-compose_event.ensures) refl refl refl refl
    (c.advance.ensures ∙ ap (after_outcome mid.now c.in_ok-outcome.outcome) (c.is_some.ensures ∙ some_map (λ t. t.now) c.get-text.result)) c.add.ensures

pub returns-clause-within : goal.returns-clause-within
returns-clause-within c = λ n within.
    event_within c.in_ok-outcome.outcome c.is_some.result c.perform.new.state.now c.advance.new.self c.advance.ensures n (subst (λ p. IsWithin p n) (sym c.perform.ensures.now) within)
