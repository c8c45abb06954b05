use Rattle.std.proofs.Common.{◌≡◌, true, false, Option, Some, IfSome, IfOk, ◌∷◌, refl, ap, sym, subst, ◌∙◌}
use Rattle.x_base.specs.declared.verdict.Verdict.TheVariants.{BadMac}
use Rattle.party_tables.specs.declared.link.LinkRec.{LinkRec}
use Rattle.party_tables.specs.Keys.{sends, takes}
use Rattle.party_state.specs.Rows.{Row}
use Rattle.party_state.specs.State.{centre_label, link_with}
use Rattle.party_state.specs.Verdicts.{tests_pass}
use Rattle.role_base.specs.declared.errors.ErrorCounts.{ErrorCounts}
use Rattle.role_base.specs.Deciding.{IsDecision, Decides}
use Rattle.role_base.specs.Errors.{answering, coded_under, error_for}
use Rattle.role_base.specs.Standing.{LinkStands}
use Rattle.role_base.specs.Texts.{is_verified, lead_under}
use Rattle.role_base.proofs.Decided.{decided_early}
use Rattle.role_base.proofs.Given.{given_is, given_none}
use Rattle.translation_role.specs.Service.{rfs_value, rfs_under, rfs_front, rfs_rest, rfs_between}
use Rattle.translation_role.proofs.Translated.{rfs_is, rfs_lead_is, rfs_refuses, rfs_accepts, rfs_unanswered}
use Rattle.translation_role.proofs.TranslatedKept.{rfs_kept}
use Rattle.translation_role.proofs.service.rfs.Goals as goal

pub returns-in_default-lead : goal.returns-in_default-lead
returns-in_default-lead c =
    let p = c.args.state.now in
    let a = c.args.arrival.now in
    let m = c.args.message.now in
    let l = c.in-Some.from in
    let b = c.in-Some-link_with.to in
    let f : link_with (takes m.originator centre_label) p ≡ Some l = ap (λ x. link_with (takes m.originator x) p) (sym c.centre_label-label.ensures) ∙ (sym c.link_with.ensures.link ∙ c.in-Some.is) in
    let g : link_with (sends m.ultimate centre_label) p ≡ Some b = ap (λ x. link_with (sends m.ultimate x) p) (sym c.centre_label-label.ensures) ∙ (sym c.link_with-2.ensures.link ∙ c.in-Some-link_with.is) in
    let key = lead_under a (rfs_under p m) (rfs_value m l) in
    let h : c.args.lead.now ≡ _ = c.requires ∙ rfs_lead_is p a m l b f g in
    let fails : tests_pass (rfs_front p m true) ≡ false = given_none _ key c.args.lead.now h c.in_default-lead.is in
    subst (λ (r : Row). IsDecision p r c.early_refusal.result) (rfs_is p a m l b f g)
    (decided_early p (rfs_front p m true) c.rfs_front-in_default-lead.result ((is_verified a (rfs_value m l), BadMac) ∷ rfs_rest m l b) c.early_refusal.result (rfs_between p a m (Some l) (Some b)) key c.args.lead.now
    c.early_refusal.ensures c.rfs_front-in_default-lead.ensures refl h c.in_default-lead.is refl (rfs_unanswered p a m l b fails))

pub returns-then-not-is_accept : goal.returns-then-not-is_accept
returns-then-not-is_accept c =
    let p = c.args.state.now in
    let a = c.args.arrival.now in
    let m = c.args.message.now in
    let l = c.in-Some.from in
    let b = c.in-Some-link_with.to in
    let f : link_with (takes m.originator centre_label) p ≡ Some l = ap (λ x. link_with (takes m.originator x) p) (sym c.centre_label-label.ensures) ∙ (sym c.link_with.ensures.link ∙ c.in-Some.is) in
    let g : link_with (sends m.ultimate centre_label) p ≡ Some b = ap (λ x. link_with (sends m.ultimate x) p) (sym c.centre_label-label.ensures) ∙ (sym c.link_with-2.ensures.link ∙ c.in-Some-link_with.is) in
    let from : LinkStands p l = subst (λ (o : Option LinkRec). IfSome o (LinkStands p)) c.in-Some.is c.link_with.ensures.stands in
    let to : LinkStands p b = subst (λ (o : Option LinkRec). IfSome o (LinkStands p)) c.in-Some-link_with.is c.link_with-2.ensures.stands in
    let x = c.in-Some-lead.lead in
    let y : x ≡ lead_under a (rfs_under p m) (rfs_value m l) = given_is _ _ x c.args.lead.now (c.requires ∙ rfs_lead_is p a m l b f g) c.in-Some-lead.is in
    let v = c.rfs_verdict-verdict.result in
    subst (λ (r : Row). Decides p r c.error_answer.result) (rfs_is p a m l b f g)
    (rfs_kept c.law_accept.ensures.tested p a m l b c.error_answer.result from to c.value.ensures.count
    (rfs_refuses p a m l b x v c.error_answer.result c.rfs_verdict-verdict.ensures y (sym c.is_accept.ensures ∙ c.if-not-is_accept.true)
    (subst (λ (k : ErrorCounts). IfOk c.error_answer.result (λ d. d ≡ answering v (coded_under x.under x.value (error_for p m.originator k v)))) c.rfs_counts-counts.ensures c.error_answer.ensures)))

pub returns : goal.returns
returns c =
    let p = c.args.state.now in
    let a = c.args.arrival.now in
    let m = c.args.message.now in
    let l = c.in-Some.from in
    let b = c.in-Some-link_with.to in
    let f : link_with (takes m.originator centre_label) p ≡ Some l = ap (λ x. link_with (takes m.originator x) p) (sym c.centre_label-label.ensures) ∙ (sym c.link_with.ensures.link ∙ c.in-Some.is) in
    let g : link_with (sends m.ultimate centre_label) p ≡ Some b = ap (λ x. link_with (sends m.ultimate x) p) (sym c.centre_label-label.ensures) ∙ (sym c.link_with-2.ensures.link ∙ c.in-Some-link_with.is) in
    let from : LinkStands p l = subst (λ (o : Option LinkRec). IfSome o (LinkStands p)) c.in-Some.is c.link_with.ensures.stands in
    let to : LinkStands p b = subst (λ (o : Option LinkRec). IfSome o (LinkStands p)) c.in-Some-link_with.is c.link_with-2.ensures.stands in
    let x = c.in-Some-lead.lead in
    let y : x ≡ lead_under a (rfs_under p m) (rfs_value m l) = given_is _ _ x c.args.lead.now (c.requires ∙ rfs_lead_is p a m l b f g) c.in-Some-lead.is in
    subst (λ (r : Row). Decides p r c.rfs_accepted.result) (rfs_is p a m l b f g)
    (rfs_kept c.law_accept.ensures.tested p a m l b c.rfs_accepted.result from to c.value.ensures.count
    (rfs_accepts p a m l b x c.rfs_verdict-verdict.result c.rfs_accepted.result c.rfs_verdict-verdict.ensures y (sym c.is_accept.ensures ∙ c.if-not-is_accept.false) c.rfs_accepted.ensures))
