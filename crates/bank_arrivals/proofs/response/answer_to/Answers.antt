use Rattle.std.proofs.Common.{◌≡◌, Option, Some, IfOk, [], ◌∷◌, ◌++◌, refl, ap, sym, subst, ◌∙◌}
use Rattle.x_base.specs.declared.verdict.Verdict.TheVariants.{BadMac}
use Rattle.party_tables.specs.declared.key.KeyRec.{KeyRec}
use Rattle.party_tables.specs.Names.{full_name}
use Rattle.party_tables.specs.Keys.{same_name}
use Rattle.party_state.specs.Verdicts.{verdict_of}
use Rattle.role_base.specs.Conditions.{answer_front}
use Rattle.role_base.specs.Deciding.{IsDecision, decision_of}
use Rattle.role_base.specs.Texts.{is_verified, lead_under}
use Rattle.role_base.proofs.ByRow.{by_refused}
use Rattle.role_base.proofs.Decided.{decided_early}
use Rattle.role_base.proofs.Given.{given_is}
use Rattle.bank_arrivals.specs.Rsm.{is_named, end_front, answer_to, answer_lead_to}
use Rattle.bank_arrivals.proofs.Responses.{answer_refuses, answer_accepts}
use Rattle.bank_arrivals.proofs.response.answer_to.Goals as goal

pub returns-in_default : goal.returns-in_default
returns-in_default c =
    let p = c.args.state.now in
    let a = c.args.arrival.now in
    let m = c.args.message.now in
    let n = c.args.name.now in
    c.not_answering.ensures ∙ (by_refused p _ ∙ ap (λ (o : Option KeyRec). decision_of p (answer_to p a m n o)) (sym c.in_default.is))

pub returns-in_default-lead : goal.returns-in_default-lead
returns-in_default-lead c =
    let p = c.args.state.now in
    let a = c.args.arrival.now in
    let m = c.args.message.now in
    let n = c.args.name.now in
    let k = c.in-Some.key in
    let named : c.is_named-named.result ≡ is_named n (Some k) = c.is_named-named.ensures ∙ ap (λ (o : Option KeyRec). is_named n o) c.in-Some.is in
    let h : c.args.lead.now ≡ answer_lead_to p a m n (Some k) = c.requires ∙ ap (λ (o : Option KeyRec). answer_lead_to p a m n o) c.in-Some.is in
    let d : IsDecision p (answer_to p a m n (Some k)) c.early_refusal.result =
    decided_early p (end_front p m n (Some k)) c.answer_front.result ((is_verified a k.value, BadMac) ∷ []) c.early_refusal.result (answer_to p a m n (Some k)) (lead_under a (full_name p.own k) k.value) c.args.lead.now
    c.early_refusal.ensures (c.answer_front.ensures ∙ ap (λ b. answer_front p m.receiver m.originator b) named) refl h c.in_default-lead.is refl refl in
    d.is ∙ ap (λ (o : Option KeyRec). decision_of p (answer_to p a m n o)) (sym c.in-Some.is)

pub returns-then-not-is_accept : goal.returns-then-not-is_accept
returns-then-not-is_accept c =
    let p = c.args.state.now in
    let a = c.args.arrival.now in
    let m = c.args.message.now in
    let n = c.args.name.now in
    let k = c.in-Some.key in
    let x = c.in-Some-lead.lead in
    let named : c.is_named-named.result ≡ is_named n (Some k) = c.is_named-named.ensures ∙ ap (λ (o : Option KeyRec). is_named n o) c.in-Some.is in
    let v : c.answer_verdict-verdict.result ≡ verdict_of (answer_front p m.receiver m.originator (same_name n k.name) ++ (x.verified, BadMac) ∷ []) = c.answer_verdict-verdict.ensures ∙ ap (λ b. verdict_of (answer_front p m.receiver m.originator b ++ (x.verified, BadMac) ∷ [])) named in
    let y : x ≡ lead_under a (full_name p.own k) k.value = given_is _ _ x c.args.lead.now (c.requires ∙ ap (λ (o : Option KeyRec). answer_lead_to p a m n o) c.in-Some.is) c.in-Some-lead.is in
    c.refusal.ensures ∙ (answer_refuses p a m n k x c.answer_verdict-verdict.result v y (sym c.is_accept.ensures ∙ c.if-not-is_accept.true) ∙ ap (λ (o : Option KeyRec). decision_of p (answer_to p a m n o)) (sym c.in-Some.is))

pub returns : goal.returns
returns c =
    let p = c.args.state.now in
    let a = c.args.arrival.now in
    let m = c.args.message.now in
    let n = c.args.name.now in
    let k = c.in-Some.key in
    let x = c.in-Some-lead.lead in
    let named : c.is_named-named.result ≡ is_named n (Some k) = c.is_named-named.ensures ∙ ap (λ (o : Option KeyRec). is_named n o) c.in-Some.is in
    let v : c.answer_verdict-verdict.result ≡ verdict_of (answer_front p m.receiver m.originator (same_name n k.name) ++ (x.verified, BadMac) ∷ []) = c.answer_verdict-verdict.ensures ∙ ap (λ b. verdict_of (answer_front p m.receiver m.originator b ++ (x.verified, BadMac) ∷ [])) named in
    let y : x ≡ lead_under a (full_name p.own k) k.value = given_is _ _ x c.args.lead.now (c.requires ∙ ap (λ (o : Option KeyRec). answer_lead_to p a m n o) c.in-Some.is) c.in-Some-lead.is in
    subst (λ (o : Option KeyRec). IfOk c.accept.result (λ d. d ≡ decision_of p (answer_to p a m n o))) (sym c.in-Some.is)
    (answer_accepts p a m n k x c.answer_verdict-verdict.result c.in_ok-edits.edits.items c.accept.result v y (sym c.is_accept.ensures ∙ c.if-not-is_accept.false) c.in_ok-edits.ensures c.accept.ensures)
