use Rattle.std.proofs.Common.{◌≡◌, ℕ, ◌&&◌, is_some, not, true, Option, Some, IfSome, List, [], ◌∷◌, refl, ap, sym, subst, ◌∙◌, IfOk}
use Rattle.x_base.specs.declared.verdict.Verdict.TheVariants.{BadMac, CountSpent, WeakDraws}
use Rattle.x_gen.specs.declared.generator.Gen.{Gen}
use Rattle.x_gen.specs.Gen.{good_draw}
use Rattle.party_state.specs.declared.decision.Lead.{Lead}
use Rattle.party_tables.specs.declared.link.LinkRec.{LinkRec}
use Rattle.party_tables.specs.Keys.{sends}
use Rattle.party_state.specs.State.{centre_label, link_with, answer_with}
use Rattle.party_state.specs.Rows.{Row}
use Rattle.party_state.specs.Verdicts.{Test}
use Rattle.role_base.specs.Conditions.{has_count}
use Rattle.role_base.specs.Deciding.{decision_of, IsDecision, Decides}
use Rattle.role_base.specs.Standing.{LinkStands}
use Rattle.role_base.specs.Texts.{is_verified, lead_under}
use Rattle.role_base.proofs.Decided.{decided_early}
use Rattle.role_base.proofs.Given.{given_is}
use Rattle.distribution_role.specs.Answering.{answer_under, answering}
use Rattle.distribution_role.specs.Recovery.{at_least, ers_front, ers_tests, ers_between}
use Rattle.distribution_role.proofs.Answered.{sent_tests, not_answered, tested, kept_found, ers_is, ers_lead_is}
use Rattle.distribution_role.proofs.AnswersKept.{ers_kept}
use Rattle.distribution_role.proofs.recovery.ers.Goals as goal

pub returns-in_default-lead : goal.returns-in_default-lead
returns-in_default-lead c =
    let p = c.args.state.now in
    let a = c.args.arrival.now in
    let m = c.args.message.now in
    let l = c.in-Some.from in
    let b = c.in-Some-link_with.to in
    let kept = kept_found c.kept_answer.result (c.is_none.ensures ∙ ap not c.if-is_none.false) in
    let t = kept.0 in
    let k : answer_with (record { requester = m.originator; ultimate = m.ultimate }) p ≡ Some t = sym c.kept_answer.ensures ∙ kept.1 in
    let f : link_with (sends m.originator centre_label) p ≡ Some l = ap (λ x. link_with (sends m.originator x) p) (sym c.centre_label-label.ensures) ∙ (sym c.link_with.ensures.link ∙ c.in-Some.is) in
    let g : link_with (sends m.ultimate centre_label) p ≡ Some b = ap (λ x. link_with (sends m.ultimate x) p) (sym c.centre_label-label.ensures) ∙ (sym c.link_with-2.ensures.link ∙ c.in-Some-link_with.is) in
    let drawn : Option (ℕ × Gen) = good_draw p.generator c.args.moment in
    subst (λ (r : Row). IsDecision p r c.early_refusal.result) (ers_is p a m t l b c.args.moment k f g)
    (decided_early p (ers_front p m true true) c.ers_front-in_default-lead.result ((is_verified a t.value, BadMac) ∷ (has_count l && has_count b, CountSpent) ∷ (is_some drawn, WeakDraws) ∷ []) c.early_refusal.result
    (ers_between p a m (Some t) (Some l) (Some b) drawn) (lead_under a (answer_under p m.originator t.cta) t.value) c.args.lead.now
    c.early_refusal.ensures c.ers_front-in_default-lead.ensures refl (c.requires ∙ ers_lead_is p a m t l b k f g) c.in_default-lead.is
    (sent_tests p m.originator m.ultimate (ers_tests p a m t l b) l (at_least b m.ctr) drawn) (not_answered p m.originator m.ultimate (ers_tests p a m t l b) l (at_least b m.ctr) drawn))

pub returns : goal.returns
returns c =
    let p = c.args.state.now in
    let a = c.args.arrival.now in
    let m = c.args.message.now in
    let l = c.in-Some.from in
    let b = c.in-Some-link_with.to in
    let kept = kept_found c.kept_answer.result (c.is_none.ensures ∙ ap not c.if-is_none.false) in
    let t = kept.0 in
    let k : answer_with (record { requester = m.originator; ultimate = m.ultimate }) p ≡ Some t = sym c.kept_answer.ensures ∙ kept.1 in
    let f : link_with (sends m.originator centre_label) p ≡ Some l = ap (λ x. link_with (sends m.originator x) p) (sym c.centre_label-label.ensures) ∙ (sym c.link_with.ensures.link ∙ c.in-Some.is) in
    let g : link_with (sends m.ultimate centre_label) p ≡ Some b = ap (λ x. link_with (sends m.ultimate x) p) (sym c.centre_label-label.ensures) ∙ (sym c.link_with-2.ensures.link ∙ c.in-Some-link_with.is) in
    let drawn : Option (ℕ × Gen) = good_draw p.generator c.args.moment in
    let x = c.in-Some-lead.lead in
    let y : x ≡ lead_under a (answer_under p m.originator t.cta) t.value = given_is _ _ x c.args.lead.now (c.requires ∙ ers_lead_is p a m t l b k f g) c.in-Some-lead.is in
    let tests : c.ers_tests-tests.result ≡ ers_tests p a m t l b = c.ers_tests-tests.ensures ∙ ap (λ (z : Lead). tested p m z.verified l b) y in
    let row : answering p m.originator m.ultimate c.ers_tests-tests.result l c.at_least-raised.result drawn ≡ ers_between p a m (Some t) (Some l) (Some b) drawn =
    ap (λ (ts : List Test). answering p m.originator m.ultimate ts l c.at_least-raised.result drawn) tests
    ∙ ap (λ (z : LinkRec). answering p m.originator m.ultimate (ers_tests p a m t l b) l z drawn) c.at_least-raised.ensures.raised in
    let from : LinkStands p l = subst (λ (o : Option LinkRec). IfSome o (LinkStands p)) c.in-Some.is c.link_with.ensures.stands in
    let to : LinkStands p b = subst (λ (o : Option LinkRec). IfSome o (LinkStands p)) c.in-Some-link_with.is c.link_with-2.ensures.stands in
    subst (λ (r : Row). Decides p r c.answer.result) (ers_is p a m t l b c.args.moment k f g)
    (ers_kept c.law_accept.ensures.tested p a m t l b drawn c.answer.result from to c.value.ensures.count (subst (λ (r : Row). IfOk c.answer.result (λ d. d ≡ decision_of p r)) row c.answer.ensures))
