use Rattle.std.proofs.Common.{◌≡◌, true, Option, Some, [], ◌∷◌, refl, ap, sym, subst, ◌∙◌}
use Rattle.x_base.specs.declared.verdict.Verdict.TheVariants.{BadMac}
use Rattle.party_tables.specs.Names.{full_name}
use Rattle.role_base.specs.Deciding.{IsDecision, Decides}
use Rattle.role_base.specs.Texts.{is_verified, lead_under}
use Rattle.role_base.proofs.Decided.{decided_early}
use Rattle.role_base.proofs.Given.{given_is}
use Rattle.role_base.proofs.Kept.{refuses_row}
use Rattle.bank_arrivals.specs.declared.disconnection.NamedKey.{NamedKey}
use Rattle.bank_arrivals.specs.Dsm.{named_by, dsm_front, dsm_on, dsm_lead_on}
use Rattle.bank_arrivals.proofs.Disconnections.{dsm_refuses, dsm_accepts}
use Rattle.bank_arrivals.proofs.DisconnectionsKept.{dsm_kept}
use Rattle.bank_arrivals.proofs.disconnection.dsm.Goals as goal

pub returns-in_default-lead : goal.returns-in_default-lead
returns-in_default-lead c =
    let p = c.args.state.now in
    let a = c.args.arrival.now in
    let m = c.args.message.now in
    let n = c.in-Some.named in
    let f : named_by p m ≡ Some n = sym c.named_by.ensures ∙ c.in-Some.is in
    subst (λ (o : Option NamedKey). IsDecision p (dsm_on p a m o) c.early_refusal.result) (sym f)
    (decided_early p (dsm_front p m true) c.dsm_front-in_default-lead.result ((is_verified a n.by.value, BadMac) ∷ []) c.early_refusal.result (dsm_on p a m (Some n)) (lead_under a (full_name p.own n.by) n.by.value) c.args.lead.now
    c.early_refusal.ensures c.dsm_front-in_default-lead.ensures refl (c.requires ∙ ap (λ (o : Option NamedKey). dsm_lead_on p a m o) f) c.in_default-lead.is refl refl)

pub returns-then-not-is_accept : goal.returns-then-not-is_accept
returns-then-not-is_accept c =
    let p = c.args.state.now in
    let a = c.args.arrival.now in
    let m = c.args.message.now in
    let n = c.in-Some.named in
    let x = c.in-Some-lead.lead in
    let f : named_by p m ≡ Some n = sym c.named_by.ensures ∙ c.in-Some.is in
    let y : x ≡ lead_under a (full_name p.own n.by) n.by.value = given_is _ _ x c.args.lead.now (c.requires ∙ ap (λ (o : Option NamedKey). dsm_lead_on p a m o) f) c.in-Some-lead.is in
    subst (λ (o : Option NamedKey). IsDecision p (dsm_on p a m o) c.refusal-then-not-is_accept.result) (sym f)
    (refuses_row p (dsm_on p a m (Some n)) c.refusal-then-not-is_accept.result c.dsm_verdict-verdict.result c.refusal-then-not-is_accept.ensures
    (dsm_refuses p a m n x c.dsm_verdict-verdict.result c.dsm_verdict-verdict.ensures y (sym c.is_accept.ensures ∙ c.if-not-is_accept.true)))

pub returns : goal.returns
returns c =
    let p = c.args.state.now in
    let a = c.args.arrival.now in
    let m = c.args.message.now in
    let n = c.in-Some.named in
    let x = c.in-Some-lead.lead in
    let f : named_by p m ≡ Some n = sym c.named_by.ensures ∙ c.in-Some.is in
    let y : x ≡ lead_under a (full_name p.own n.by) n.by.value = given_is _ _ x c.args.lead.now (c.requires ∙ ap (λ (o : Option NamedKey). dsm_lead_on p a m o) f) c.in-Some-lead.is in
    subst (λ (o : Option NamedKey). Decides p (dsm_on p a m o) c.accept.result) (sym f)
    (dsm_kept c.law_found.ensures.key p a m (Some n) c.accept.result (sym f)
    (dsm_accepts p a m n x c.dsm_verdict-verdict.result c.in_ok-edits.edits.items c.in_ok-written.written c.accept.result c.dsm_verdict-verdict.ensures y (sym c.is_accept.ensures ∙ c.if-not-is_accept.false) c.in_ok-edits.ensures c.in_ok-written.ensures c.accept.ensures))
