use Rattle.std.proofs.Common.{◌≡◌, inl, inr, Option, Some, sym, ap, ◌∙◌, subst}
use Rattle.bank_keys.specs.declared.waits.KeyAtCentre.{KeyAtCentre}
use Rattle.role_base.specs.Deciding.{IsDecision}
use Rattle.role_base.specs.Texts.{lead_under}
use Rattle.role_base.proofs.Given.{given_is}
use Rattle.role_base.proofs.Kept.{refuses_row}
use Rattle.bank_keys.specs.Rtr.{translated_front, translated, translated_lead, translated_under}
use Rattle.bank_keys.proofs.CentreAnswers.{translated_early, translated_refuses}
use Rattle.bank_keys.proofs.from_translation.translated.Goals as goal

pub returns-in_default : goal.returns-in_default
returns-in_default c =
    let p = c.args.state.now in
    let a = c.args.arrival.now in
    let m = c.args.message.now in
    translated_early p a m _ c.args.lead.now c.translated_front.result c.early_refusal.result c.requires (c.translated_front.ensures ∙ ap (λ (o : Option KeyAtCentre). translated_front p m o) c.waiting_with-found.ensures) (inl (sym c.waiting_with-found.ensures ∙ c.in_default.is)) c.early_refusal.ensures

pub returns-in_default-lead : goal.returns-in_default-lead
returns-in_default-lead c =
    let p = c.args.state.now in
    let a = c.args.arrival.now in
    let m = c.args.message.now in
    translated_early p a m _ c.args.lead.now c.translated_front-in_default-lead.result c.early_refusal-in_default-lead.result c.requires (c.translated_front-in_default-lead.ensures ∙ ap (λ (o : Option KeyAtCentre). translated_front p m o) c.waiting_with-found.ensures) (inr c.in_default-lead.is) c.early_refusal-in_default-lead.ensures

pub returns-then-not-is_accept : goal.returns-then-not-is_accept
returns-then-not-is_accept c =
    let p = c.args.state.now in
    let a = c.args.arrival.now in
    let m = c.args.message.now in
    let t = c.in-Some.waiting in
    let x = c.in-Some-lead.lead in
    let f : _ ≡ Some t = sym c.waiting_with-found.ensures ∙ c.in-Some.is in
    let y : x ≡ lead_under a (translated_under p m t) t.value = given_is _ _ x c.args.lead.now (c.requires ∙ ap (λ (o : Option KeyAtCentre). translated_lead p a m o) f) c.in-Some-lead.is in
    subst (λ (o : Option KeyAtCentre). IsDecision p (translated p a m o) c.refusal.result) (sym f)
    (refuses_row p (translated p a m (Some t)) c.refusal.result c.translated_verdict-verdict.result c.refusal.ensures (translated_refuses p a m t x c.translated_verdict-verdict.result c.translated_verdict-verdict.ensures y (sym c.is_accept.ensures ∙ c.if-not-is_accept.true)))
