use Rattle.std.proofs.Common.{◌≡◌, ℕ, Option, Some, IfSome, List, ap, sym, subst, ◌∙◌, IfOk}
use Rattle.x_gen.specs.declared.generator.Gen.{Gen}
use Rattle.x_gen.specs.Gen.{good_draw}
use Rattle.party_tables.specs.declared.link.LinkRec.{LinkRec}
use Rattle.party_tables.specs.Keys.{sends}
use Rattle.party_state.specs.State.{centre_label, link_with}
use Rattle.party_state.specs.Rows.{Row}
use Rattle.party_state.specs.Verdicts.{Test}
use Rattle.role_base.specs.Deciding.{decision_of, Decides}
use Rattle.role_base.specs.Standing.{LinkStands}
use Rattle.distribution_role.specs.Answering.{answering}
use Rattle.distribution_role.specs.Requests.{rsi_between}
use Rattle.distribution_role.proofs.Answered.{rsi_is}
use Rattle.distribution_role.proofs.AnswersKept.{rsi_kept}
use Rattle.distribution_role.proofs.requests.rsi.Goals as goal

pub returns : goal.returns
returns c =
    let p = c.args.state.now in
    let a = c.args.arrival.now in
    let m = c.args.message.now in
    let u = c.in-Some.ultimate in
    let l = c.in-Some-link_with.from in
    let b = c.in-Some-link_with-2.to in
    let k : m.ultimate ≡ Some u = first_of (search (c.in-Some.is), cc (c.in-Some.is), cc (c.in-Some.is, c.in-Some.ultimate-is), grind (c.in-Some.is, c.in-Some.ultimate-is)) in
    let f : link_with (sends m.originator centre_label) p ≡ Some l = ap (λ x. link_with (sends m.originator x) p) (sym c.centre_label-label.ensures) ∙ (sym c.link_with.ensures.link ∙ c.in-Some-link_with.is) in
    let g : link_with (sends u centre_label) p ≡ Some b = ap (λ x. link_with (sends u x) p) (sym c.centre_label-label.ensures) ∙ (sym c.link_with-2.ensures.link ∙ c.in-Some-link_with-2.is) in
    let drawn : Option (ℕ × Gen) = good_draw p.generator c.args.moment in
    let row : answering p m.originator u c.rsi_tests-tests.result l b drawn ≡ rsi_between p a m u (Some l) (Some b) drawn = ap (λ (ts : List Test). answering p m.originator u ts l b drawn) c.rsi_tests-tests.ensures in
    let from : LinkStands p l = subst (λ (o : Option LinkRec). IfSome o (LinkStands p)) c.in-Some-link_with.is c.link_with.ensures.stands in
    let to : LinkStands p b = subst (λ (o : Option LinkRec). IfSome o (LinkStands p)) c.in-Some-link_with-2.is c.link_with-2.ensures.stands in
    subst (λ (r : Row). Decides p r c.answer.result) (rsi_is p a m u l b c.args.moment k f g)
    (rsi_kept c.law_accept.ensures.tested p a m u l b drawn c.answer.result from to (subst (λ (r : Row). IfOk c.answer.result (λ d. d ≡ decision_of p r)) row c.answer.ensures))
