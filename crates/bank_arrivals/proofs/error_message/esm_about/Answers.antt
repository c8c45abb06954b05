use Rattle.std.proofs.Common.{◌≡◌, true, Option, Some, IfOk, [], ◌∷◌, ◌++◌, refl, ap, sym, subst, ◌∙◌}
use Rattle.x_base.specs.declared.verdict.Verdict.TheVariants.{BadMac}
use Rattle.party_state.specs.declared.decision.Lead.{Lead}
use Rattle.party_state.specs.Verdicts.{verdict_of}
use Rattle.role_base.specs.Conditions.{answer_front}
use Rattle.role_base.specs.Deciding.{IsDecision, decision_of}
use Rattle.role_base.specs.Texts.{is_verified, lead_under}
use Rattle.role_base.proofs.Decided.{decided_early, decides_row}
use Rattle.role_base.proofs.Given.{given_is}
use Rattle.bank_arrivals.specs.declared.error_message.ErrorSubject.{ErrorSubject}
use Rattle.bank_arrivals.specs.AskingAgain.{retry_of, retry_in}
use Rattle.bank_arrivals.specs.Esm.{subject_value, subject_name, error_row, error_of, esm_lead_of}
use Rattle.bank_arrivals.proofs.error_message.esm_about.Goals as goal

pub returns-in_default-lead : goal.returns-in_default-lead
returns-in_default-lead c =
    let p = c.args.state.now in
    let a = c.args.arrival.now in
    let m = c.args.message.now in
    let s = c.in-Some.subject in
    let h : c.args.lead.now ≡ esm_lead_of p a m (Some s) = c.requires ∙ ap (λ (o : Option ErrorSubject). esm_lead_of p a m o) c.in-Some.is in
    let d : IsDecision p (error_row p a m s (retry_of p s m.ctr)) c.early_refusal.result =
    decided_early p (answer_front p m.receiver m.originator true) c.answer_front.result ((is_verified a (subject_value s), BadMac) ∷ []) c.early_refusal.result (error_row p a m s (retry_of p s m.ctr)) (lead_under a (subject_name p m.originator s) (subject_value s)) c.args.lead.now
    c.early_refusal.ensures c.answer_front.ensures refl h c.in_default-lead.is refl refl in
    d.is ∙ ap (λ (o : Option ErrorSubject). decision_of p (error_of p a m o (retry_in p o m.ctr))) (sym c.in-Some.is)

pub returns : goal.returns
returns c =
    let p = c.args.state.now in
    let a = c.args.arrival.now in
    let m = c.args.message.now in
    let s = c.in-Some.subject in
    let x = c.in-Some-lead.lead in
    let h : c.args.lead.now ≡ esm_lead_of p a m (Some s) = c.requires ∙ ap (λ (o : Option ErrorSubject). esm_lead_of p a m o) c.in-Some.is in
    let y : x ≡ lead_under a (subject_name p m.originator s) (subject_value s) = given_is _ _ x c.args.lead.now h c.in-Some-lead.is in
    let v : c.answer_verdict-verdict.result ≡ verdict_of (answer_front p m.receiver m.originator true ++ (is_verified a (subject_value s), BadMac) ∷ []) =
    c.answer_verdict-verdict.ensures ∙ ap (λ (l : Lead). verdict_of (answer_front p m.receiver m.originator true ++ (l.verified, BadMac) ∷ [])) y in
    subst (λ (o : Option ErrorSubject). IfOk c.given_up.result (λ d. d ≡ decision_of p (error_of p a m o (retry_in p o m.ctr)))) (sym c.in-Some.is)
    (decides_row c.given_up.result p (error_row p a m s (retry_of p s m.ctr)) c.answer_verdict-verdict.result (c.given_up.ensures a) v (sym c.is_accept.ensures ∙ c.if-not-is_accept.false))
