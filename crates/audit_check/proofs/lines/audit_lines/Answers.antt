use Rattle.std.proofs.Common.{Err, ◌++◌, [], ◌∷◌, take, sym, ◌∙◌, ap, subst}
use Rattle.std.proofs.lemmas.List.{take_more}
use Rattle.std.proofs.lemmas.Result.{err_from_is_err_and}
use Rattle.audit_check.specs.States.{LeadAll}
use Rattle.audit_check.specs.declared.failure.Failure.TheVariants as failure
use Rattle.audit_check.proofs.Leading.{lead_on, wrong_in}
use Rattle.audit_check.proofs.Results.{one_err}
use Rattle.audit_check.proofs.lines.audit_lines.Goals as goal

pub returns-in_err-audit_line-clause-wrong : goal.returns-in_err-audit_line-clause-wrong
returns-in_err-audit_line-clause-wrong c = λ f is.
    let e = err_from_is_err_and c.from_residual.result c.from_residual.ensures.1 in
    let one = sym e.2 ∙ one_err c.from_residual.result e.0 (failure.Wrong f) e.1 is in
    wrong_in c.args.lines.now c.auditing.line-index c.line-item.result c.auditing-test.true c.line-item.is c.args.state.now c.auditing.state f c.auditing.invariant.leads (c.in_err-audit_line.ensures.wrong f (ap Err one))

pub auditing-preserved : goal.auditing-preserved
auditing-preserved c =
    let line = c.line-item.result in
    let lines = c.args.lines.now in
    record {
      leads = subst (λ ls. LeadAll ls c.args.state.now c.audit_line.new.state) (sym (take_more lines c.auditing.line-index line c.auditing-test.true ∙ ap (λ x. take c.auditing.line-index lines ++ x ∷ []) (sym c.line-item.is)))
          (lead_on (take c.auditing.line-index lines) line c.args.state.now c.auditing.state c.audit_line.new.state c.auditing.invariant.leads c.in_ok-audit_line.ensures.leads);
      holds_each = c.in_ok-audit_line.ensures.holds_each;
      within = c.in_ok-audit_line.ensures.within c.auditing.line-index c.auditing.invariant.within;
    }
