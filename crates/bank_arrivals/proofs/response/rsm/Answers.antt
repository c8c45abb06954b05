use Rattle.std.proofs.Common.{◌≡◌, Option, Some, None, IfOk, ap, sym, subst, ◌∙◌}
use Rattle.x_base.specs.declared.key_name.KeyName.{KeyName}
use Rattle.party_state.specs.Rows.{Row}
use Rattle.role_base.specs.declared.exchanges.Sent.{Sent}
use Rattle.role_base.specs.declared.exchanges.Twins.{Twins}
use Rattle.role_base.specs.Deciding.{decision_of}
use Rattle.role_base.specs.Exchanges.{twins_to}
use Rattle.bank_arrivals.specs.Rsm.{rsm, rsm_with, rsm_by, rsm_to, rsm_twins, answer_to}
use Rattle.bank_arrivals.proofs.ResponsesKept.{rsm_kept}
use Rattle.bank_arrivals.proofs.response.rsm.Goals as goal

pub returns-in-Some-twins : goal.returns-in-Some-twins
returns-in-Some-twins c =
    let p = c.args.state.now in
    let a = c.args.arrival.now in
    let m = c.args.message.now in
    let t = c.in-Some-twins.twins in
    let f : twins_to p m.originator ≡ Some t = sym (ap (λ x. x.0) c.unanswered-twins.ensures) ∙ c.in-Some-twins.is in
    let row : rsm_twins p a m t ≡ rsm p a m = ap (λ (o : Option Twins). rsm_by p a m o) (sym f) ∙ ap (λ (o : Option KeyName). rsm_with p a m o) (sym c.in_default.is) in
    rsm_kept c.law_found.ensures.link c.law_found.ensures.key c.law_found_in_range.ensures.link p a m c.rsm_twins.result c.law_party.ensures (subst (λ (r : Row). IfOk c.rsm_twins.result (λ d. d ≡ decision_of p r)) row c.rsm_twins.ensures)

pub returns-in-None : goal.returns-in-None
returns-in-None c =
    let p = c.args.state.now in
    let a = c.args.arrival.now in
    let m = c.args.message.now in
    let f : twins_to p m.originator ≡ None = sym (ap (λ x. x.0) c.unanswered-twins.ensures) ∙ c.in-None.is in
    let row : rsm_to p a m c.unanswered-twins.result.1 ≡ rsm p a m =
    ap (λ (o : Option Sent). rsm_to p a m o) (ap (λ x. x.1) c.unanswered-twins.ensures) ∙ (ap (λ (o : Option Twins). rsm_by p a m o) (sym f) ∙ ap (λ (o : Option KeyName). rsm_with p a m o) (sym c.in_default.is)) in
    rsm_kept c.law_found.ensures.link c.law_found.ensures.key c.law_found_in_range.ensures.link p a m c.rsm_to.result c.law_party.ensures (subst (λ (r : Row). IfOk c.rsm_to.result (λ d. d ≡ decision_of p r)) row c.rsm_to.ensures)

pub returns : goal.returns
returns c =
    let p = c.args.state.now in
    let a = c.args.arrival.now in
    let m = c.args.message.now in
    let n = c.in-Some.name in
    let row : answer_to p a m n c.ending_with-found.result ≡ rsm p a m =
    ap (λ o. answer_to p a m n o) c.ending_with-found.ensures ∙ ap (λ (o : Option KeyName). rsm_with p a m o) (sym c.in-Some.is) in
    rsm_kept c.law_found.ensures.link c.law_found.ensures.key c.law_found_in_range.ensures.link p a m c.answer_to.result c.law_party.ensures (subst (λ (r : Row). IfOk c.answer_to.result (λ d. d ≡ decision_of p r)) row c.answer_to.ensures)
