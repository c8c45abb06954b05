use Rattle.std.proofs.Common.{◌≡◌, Err, Some, refl, sym, ◌∙◌, ap, subst, true}
use Rattle.std.proofs.lemmas.Result.{err_from_is_err_and}
use Rattle.change_code.specs.Cost.{fits, is_change}
use Rattle.member.specs.Answers.{PlannedMember}
use Rattle.audit_check.specs.Events.{IsWrongInput, LacksLetter}
use Rattle.audit_check.specs.declared.failure.Failure.TheVariants as failure
use Rattle.scenario.specs.declared.audit_fault.AuditFault.{AuditFault}
use Rattle.scenario.specs.declared.audit_fault.AuditFault.TheVariants as fault
use Rattle.audit_check.proofs.Planning.{plan_lead, plan_fits, lacking_is_wrong, cut_held, whole_held}
use Rattle.audit_check.proofs.Results.{one_err}
use Rattle.audit_check.proofs.acting.input_held.Goals as goal

pub act_cut-requires : goal.act_cut-requires
act_cut-requires c = record {
  room = ap (λ s. s.room) c.space-room.ensures ∙ sym (ap (λ (p : PlannedMember). p.member.space.room) c.in-Ok.ensures.planned);
  fits = subst (λ (p : PlannedMember). fits p.member.space p.plan.edits ≡ true) (sym c.in-Ok.ensures.planned) (plan_fits c.args.held c.args.input.now c.args.state.now.now.moment);
}

pub returns-then-not-is_honest-clause-wrong : goal.returns-then-not-is_honest-clause-wrong
returns-then-not-is_honest-clause-wrong c = λ f is known facts.
    let s = c.args.state.now in
    let lead = ap (λ a. a.lead) c.answer.ensures ∙ (ap (λ (p : PlannedMember). p.plan.lead) c.in-Ok.ensures.planned ∙ plan_lead c.args.held c.args.input.now s.now.moment) in
    let same : fault.Forged s.now.number ≡ f = cc is in
    subst (λ (g : AuditFault). IsWrongInput s.now known s.letters c.args.held (Some c.args.input.now) g) same (c.is_honest.ensures.forged known c.args.held.party facts lead c.if-not-is_honest.true, refl)

pub returns-in_err-held-in-Some-clause-wrong : goal.returns-in_err-held-in-Some-clause-wrong
returns-in_err-held-in-Some-clause-wrong c = λ f is known facts.
    let s = c.args.state.now in
    let lead = ap (λ a. a.lead) c.answer.ensures ∙ (ap (λ (p : PlannedMember). p.plan.lead) c.in-Ok.ensures.planned ∙ plan_lead c.args.held c.args.input.now s.now.moment) in
    let e = err_from_is_err_and c.from_residual.result c.from_residual.ensures.1 in
    let one = sym e.2 ∙ one_err c.from_residual.result e.0 (failure.Wrong f) e.1 is in
    lacking_is_wrong s.now known s.letters c.args.held c.args.input.now f
    (record { honest = c.is_honest.ensures.honest known c.args.held.party facts lead c.if-not-is_honest.false; stop = c.in-Some.field-0; waits = c.in-Some.is })
    (subst (λ (p : PlannedMember). LacksLetter s.letters (is_change p.plan.edits) s.now.number f) c.in-Ok.ensures.planned (c.in_err-held-in-Some.ensures.lacking f (ap Err one)))

pub returns-in_ok-held-in-Some-clause-acted : goal.returns-in_ok-held-in-Some-clause-acted
returns-in_ok-held-in-Some-clause-acted c =
    let s = c.args.state.now in
    let lead = ap (λ a. a.lead) c.answer.ensures ∙ (ap (λ (p : PlannedMember). p.plan.lead) c.in-Ok.ensures.planned ∙ plan_lead c.args.held c.args.input.now s.now.moment) in
    cut_held c.args.held c.args.input.now s c.in-Ok.planned c.in-Ok.ensures.planned (λ known facts. c.is_honest.ensures.honest known c.args.held.party facts lead c.if-not-is_honest.false)
    c.in-Some.field-0 c.in-Some.is c.in_ok-held-in-Some.held c.act_cut.new.letters c.act_cut.new.facts c.in_ok-held-in-Some.ensures.cut

pub returns-in_ok-done-in-None-clause-acted : goal.returns-in_ok-done-in-None-clause-acted
returns-in_ok-done-in-None-clause-acted c =
    let s = c.args.state.now in
    let lead = ap (λ a. a.lead) c.answer.ensures ∙ (ap (λ (p : PlannedMember). p.plan.lead) c.in-Ok.ensures.planned ∙ plan_lead c.args.held c.args.input.now s.now.moment) in
    let done = c.in_ok-done-in-None in
    whole_held c.args.held c.args.input.now s c.in-Ok.planned c.in-Ok.ensures.planned (λ known facts. c.is_honest.ensures.honest known c.args.held.party facts lead c.if-not-is_honest.false)
    c.in-None.is done.done.0 done.done.1 c.act_whole.new.texts c.act_whole.new.facts done.ensures.next done.ensures.outcome done.ensures.texts done.ensures.facts
