use Rattle.std.proofs.Common.{◌≡◌, true, [], ◌∷◌, refl, sym, ◌∙◌}
use Rattle.x_base.specs.declared.verdict.Verdict.TheVariants.{BadMac}
use Rattle.party_tables.specs.Names.{full_name}
use Rattle.role_base.specs.Conditions.{answer_front}
use Rattle.role_base.specs.Deciding.{IsDecision}
use Rattle.role_base.specs.Exchanges.{twins_value}
use Rattle.role_base.specs.Texts.{is_verified, lead_under}
use Rattle.role_base.proofs.Decided.{decided_early}
use Rattle.role_base.proofs.Given.{given_is}
use Rattle.bank_arrivals.specs.Rsm.{rsm_twins}
use Rattle.bank_arrivals.proofs.Responses.{twins_refuses, twins_accepts}
use Rattle.bank_arrivals.proofs.twin_response.rsm_twins.Goals as goal

pub returns-in_default : goal.returns-in_default
returns-in_default c =
    let p = c.args.state.now in
    let a = c.args.arrival.now in
    let m = c.args.message.now in
    let t = c.args.twins.now in
    let d : IsDecision p (rsm_twins p a m t) c.early_refusal.result =
    decided_early p (answer_front p m.receiver m.originator true) c.answer_front.result ((is_verified a (twins_value t), BadMac) ∷ []) c.early_refusal.result (rsm_twins p a m t) (lead_under a (full_name p.own t.first) (twins_value t)) c.args.lead.now
    c.early_refusal.ensures c.answer_front.ensures refl c.requires c.in_default.is refl refl in
    d.is

pub returns-then-not-is_accept : goal.returns-then-not-is_accept
returns-then-not-is_accept c =
    let p = c.args.state.now in
    let a = c.args.arrival.now in
    let m = c.args.message.now in
    let t = c.args.twins.now in
    let x = c.in-Some.lead in
    let y : x ≡ lead_under a (full_name p.own t.first) (twins_value t) = given_is _ _ x c.args.lead.now c.requires c.in-Some.is in
    c.refusal.ensures ∙ twins_refuses p a m t x c.answer_verdict-verdict.result c.answer_verdict-verdict.ensures y (sym c.is_accept.ensures ∙ c.if-not-is_accept.true)

pub returns : goal.returns
returns c =
    let p = c.args.state.now in
    let a = c.args.arrival.now in
    let m = c.args.message.now in
    let t = c.args.twins.now in
    let x = c.in-Some.lead in
    let y : x ≡ lead_under a (full_name p.own t.first) (twins_value t) = given_is _ _ x c.args.lead.now c.requires c.in-Some.is in
    twins_accepts p a m t x c.answer_verdict-verdict.result c.in_ok-edits.edits.items c.accept.result c.answer_verdict-verdict.ensures y (sym c.is_accept.ensures ∙ c.if-not-is_accept.false) c.in_ok-edits.ensures c.accept.ensures
