use Rattle.std.proofs.Common.{◌≡◌, inl, inr, Option, Some, sym, ap, ◌∙◌, subst}
use Rattle.party_tables.specs.declared.link.LinkRec.{LinkRec}
use Rattle.role_base.specs.Deciding.{IsDecision}
use Rattle.role_base.specs.Texts.{lead_under}
use Rattle.role_base.proofs.Given.{given_is}
use Rattle.role_base.proofs.Kept.{refuses_row}
use Rattle.bank_keys.specs.Rtr.{brought_front, brought, brought_lead, brought_under, brought_value}
use Rattle.bank_keys.proofs.CentreAnswers.{brought_early, brought_refuses}
use Rattle.bank_keys.proofs.from_distribution.brought.Goals as goal

pub returns-in_default : goal.returns-in_default
returns-in_default c =
    let p = c.args.state.now in
    let a = c.args.arrival.now in
    let m = c.args.message.now in
    brought_early p a m c.args.kd.now _ c.args.lead.now c.brought_front.result c.early_refusal.result c.requires (c.brought_front.ensures ∙ ap (λ (o : Option LinkRec). brought_front p m o) c.centre_link-found.ensures.link) (inl (sym c.centre_link-found.ensures.link ∙ c.in_default.is)) c.early_refusal.ensures

pub returns-in_default-lead : goal.returns-in_default-lead
returns-in_default-lead c =
    let p = c.args.state.now in
    let a = c.args.arrival.now in
    let m = c.args.message.now in
    brought_early p a m c.args.kd.now _ c.args.lead.now c.brought_front-in_default-lead.result c.early_refusal-in_default-lead.result c.requires (c.brought_front-in_default-lead.ensures ∙ ap (λ (o : Option LinkRec). brought_front p m o) c.centre_link-found.ensures.link) (inr c.in_default-lead.is) c.early_refusal-in_default-lead.ensures

pub returns-then-not-is_accept : goal.returns-then-not-is_accept
returns-then-not-is_accept c =
    let p = c.args.state.now in
    let a = c.args.arrival.now in
    let m = c.args.message.now in
    let t = c.in-Some.link in
    let x = c.in-Some-lead.lead in
    let f : _ ≡ Some t = sym c.centre_link-found.ensures.link ∙ c.in-Some.is in
    let y : x ≡ lead_under a (brought_under p m c.args.kd.now.1) (brought_value t c.args.kd.now) = given_is _ _ x c.args.lead.now (c.requires ∙ ap (λ (o : Option LinkRec). brought_lead p a m c.args.kd.now o) f) c.in-Some-lead.is in
    subst (λ (o : Option LinkRec). IsDecision p (brought p a m c.args.kd.now o) c.refusal.result) (sym f)
    (refuses_row p (brought p a m c.args.kd.now (Some t)) c.refusal.result c.brought_verdict-verdict.result c.refusal.ensures (brought_refuses p a m c.args.kd.now t x c.brought_verdict-verdict.result c.brought_verdict-verdict.ensures y (sym c.is_accept.ensures ∙ c.if-not-is_accept.true)))
