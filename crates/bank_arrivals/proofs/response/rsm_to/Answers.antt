use Rattle.std.proofs.Common.{◌≡◌, true, Option, Some, IfOk, [], ◌∷◌, refl, ap, sym, subst, ◌∙◌}
use Rattle.x_base.specs.declared.verdict.Verdict.TheVariants.{BadMac}
use Rattle.party_tables.specs.Names.{full_name}
use Rattle.role_base.specs.declared.exchanges.Sent.{Sent}
use Rattle.role_base.specs.Conditions.{answer_front}
use Rattle.role_base.specs.Deciding.{IsDecision, decision_of}
use Rattle.role_base.specs.Texts.{is_verified, lead_under}
use Rattle.role_base.proofs.ByRow.{by_refused}
use Rattle.role_base.proofs.Decided.{decided_early}
use Rattle.role_base.proofs.Given.{given_is}
use Rattle.bank_arrivals.specs.Rsm.{rsm_to, rsm_lead_to}
use Rattle.bank_arrivals.proofs.Responses.{rsm_refuses, rsm_accepts}
use Rattle.bank_arrivals.proofs.response.rsm_to.Goals as goal

pub returns-in_default : goal.returns-in_default
returns-in_default c =
    let p = c.args.state.now in
    let a = c.args.arrival.now in
    let m = c.args.message.now in
    c.not_answering.ensures ∙ (by_refused p _ ∙ ap (λ (o : Option Sent). decision_of p (rsm_to p a m o)) (sym c.in_default.is))

pub returns-in_default-lead : goal.returns-in_default-lead
returns-in_default-lead c =
    let p = c.args.state.now in
    let a = c.args.arrival.now in
    let m = c.args.message.now in
    let s = c.in-Some.sent in
    let h : c.args.lead.now ≡ rsm_lead_to p a m (Some s) = c.requires ∙ ap (λ (o : Option Sent). rsm_lead_to p a m o) c.in-Some.is in
    let d : IsDecision p (rsm_to p a m (Some s)) c.early_refusal.result =
    decided_early p (answer_front p m.receiver m.originator true) c.answer_front.result ((is_verified a s.key.value, BadMac) ∷ []) c.early_refusal.result (rsm_to p a m (Some s)) (lead_under a (full_name p.own s.key) s.key.value) c.args.lead.now
    c.early_refusal.ensures c.answer_front.ensures refl h c.in_default-lead.is refl refl in
    d.is ∙ ap (λ (o : Option Sent). decision_of p (rsm_to p a m o)) (sym c.in-Some.is)

pub returns-then-not-is_accept : goal.returns-then-not-is_accept
returns-then-not-is_accept c =
    let p = c.args.state.now in
    let a = c.args.arrival.now in
    let m = c.args.message.now in
    let s = c.in-Some.sent in
    let x = c.in-Some-lead.lead in
    let y : x ≡ lead_under a (full_name p.own s.key) s.key.value = given_is _ _ x c.args.lead.now (c.requires ∙ ap (λ (o : Option Sent). rsm_lead_to p a m o) c.in-Some.is) c.in-Some-lead.is in
    c.refusal.ensures ∙ (rsm_refuses p a m s x c.answer_verdict-verdict.result c.answer_verdict-verdict.ensures y (sym c.is_accept.ensures ∙ c.if-not-is_accept.true) ∙ ap (λ (o : Option Sent). decision_of p (rsm_to p a m o)) (sym c.in-Some.is))

pub returns : goal.returns
returns c =
    let p = c.args.state.now in
    let a = c.args.arrival.now in
    let m = c.args.message.now in
    let s = c.in-Some.sent in
    let x = c.in-Some-lead.lead in
    let y : x ≡ lead_under a (full_name p.own s.key) s.key.value = given_is _ _ x c.args.lead.now (c.requires ∙ ap (λ (o : Option Sent). rsm_lead_to p a m o) c.in-Some.is) c.in-Some-lead.is in
    subst (λ (o : Option Sent). IfOk c.accept.result (λ d. d ≡ decision_of p (rsm_to p a m o))) (sym c.in-Some.is)
    (rsm_accepts p a m s x c.answer_verdict-verdict.result c.in_ok-edits.edits.items c.accept.result c.answer_verdict-verdict.ensures y (sym c.is_accept.ensures ∙ c.if-not-is_accept.false) c.in_ok-edits.ensures c.accept.ensures)
