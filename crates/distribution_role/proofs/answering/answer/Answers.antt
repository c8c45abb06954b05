use Rattle.std.proofs.Common.{◌≡◌, ℕ, ◌&&◌, false, is_some, Option, [], ◌∷◌, IfOk, refl, ap, subst, ◌∙◌}
use Rattle.std.proofs.lemmas.Bool.{false_from_ne_true, both_ways}
use Rattle.x_base.specs.declared.verdict.Verdict.TheVariants.{WeakDraws}
use Rattle.x_gen.specs.declared.generator.Gen.{Gen}
use Rattle.x_gen.specs.Gen.{good_draw}
use Rattle.party_state.specs.declared.decision.Decision.{Decision}
use Rattle.party_state.specs.Verdicts.{tests_pass}
use Rattle.party_state.specs.Rows.{Row}
use Rattle.role_base.specs.Conditions.{has_count}
use Rattle.role_base.specs.Deciding.{decision_of, IsDecision}
use Rattle.role_base.proofs.Given.{given_is, given_none}
use Rattle.distribution_role.specs.declared.answering.RecipientLinks.{RecipientLinks}
use Rattle.distribution_role.specs.Answering.{links_of, answering}
use Rattle.distribution_role.proofs.Answered.{sent_tests, not_answered}
use Rattle.distribution_role.proofs.answering.answer.Goals as goal

pub answer_drawn-requires-clause-cta : goal.answer_drawn-requires-clause-cta
answer_drawn-requires-clause-cta c =
    let i : c.in-Some.links ≡ links_of c.args.requester.now c.args.ultimate.now = given_is _ (links_of c.args.requester.now c.args.ultimate.now) c.in-Some.links c.counted-found.result c.counted-found.ensures c.in-Some.is in
    rw i refl

pub answer_drawn-requires-clause-ctb : goal.answer_drawn-requires-clause-ctb
answer_drawn-requires-clause-ctb c =
    let i : c.in-Some.links ≡ links_of c.args.requester.now c.args.ultimate.now = given_is _ (links_of c.args.requester.now c.args.ultimate.now) c.in-Some.links c.counted-found.result c.counted-found.ensures c.in-Some.is in
    rw i refl

pub returns-in-Some : goal.returns-in-Some
returns-in-Some c =
    let p = c.args.state.now in
    let asked = c.args.asked.now in
    let a = c.args.requester.now in
    let b = c.args.ultimate.now in
    let i : c.in-Some.links ≡ links_of a b = given_is _ (links_of a b) c.in-Some.links c.counted-found.result c.counted-found.ensures c.in-Some.is in
    let row : answering p asked.requester asked.ultimate c.args.tests.now c.in-Some.links.requester c.in-Some.links.ultimate c.draw-drawn.result ≡ answering p asked.requester asked.ultimate c.args.tests.now a b (good_draw p.generator c.args.moment) =
    ap (λ (x : RecipientLinks). answering p asked.requester asked.ultimate c.args.tests.now x.requester x.ultimate c.draw-drawn.result) i
    ∙ ap (λ (o : Option (ℕ × Gen)). answering p asked.requester asked.ultimate c.args.tests.now a b o) c.draw-drawn.ensures in
    subst (λ (r : Row). IfOk c.answer_drawn.result (λ (d : Decision). d ≡ decision_of p r)) row c.answer_drawn.ensures

pub returns-in-None : goal.returns-in-None
returns-in-None c =
    let p = c.args.state.now in
    let asked = c.args.asked.now in
    let a = c.args.requester.now in
    let b = c.args.ultimate.now in
    let drawn : Option (ℕ × Gen) = good_draw p.generator c.args.moment in
    let row = answering p asked.requester asked.ultimate c.args.tests.now a b drawn in
    let spent : (has_count a && has_count b) ≡ false = given_none _ (links_of a b) c.counted-found.result c.counted-found.ensures c.in-None.is in
    let fails : tests_pass c.args.tests.now ≡ false = false_from_ne_true (tests_pass c.args.tests.now) (λ h. both_ways (has_count a && has_count b) spent (c.requires.counted h)) in
    let d : IsDecision p row c.early_refusal.result = c.early_refusal.ensures p row ((is_some drawn, WeakDraws) ∷ []) c.requires.refuse fails
    (sent_tests p asked.requester asked.ultimate c.args.tests.now a b drawn) (not_answered p asked.requester asked.ultimate c.args.tests.now a b drawn) in
    d.is
