use Rattle.std.proofs.Common.{◌≡◌, Some, List, ◌++◌, sym, ap, ◌∙◌}
use Rattle.party_state.specs.Verdicts.{Test, verdict_of, TestsHold}
use Rattle.bank_orders.specs.StartKk.{kk_tests}
use Rattle.role_base.proofs.Kept.{refuses_row}
use Rattle.bank_orders.proofs.KkSent.{kk_held, kk_undrawn, kk_sent, kk_refused}
use Rattle.bank_orders.proofs.start_kk.kk_decided.Goals as goal

pub send_kk-requires-clause-place : goal.send_kk-requires-clause-place
send_kk-requires-clause-place c =
    let h : TestsHold (kk_tests c.args.state.now c.args.link.now c.args.wanted.now.label c.args.drawn) = kk_held c.law_accept.ensures.tested c.args.state.now c.args.front.now c.args.link.now c.args.wanted.now.label c.args.drawn c.verdict_after-verdict.result c.requires.refuse
    (c.verdict_after-verdict.ensures ∙ ap (λ (ts : List Test). verdict_of (c.args.front.now ++ ts)) c.kk_tests.ensures) (sym c.is_accept.ensures ∙ c.if-is_accept.true) in
    h.1.1.0

pub send_kk-requires-clause-room : goal.send_kk-requires-clause-room
send_kk-requires-clause-room c =
    let h : TestsHold (kk_tests c.args.state.now c.args.link.now c.args.wanted.now.label c.args.drawn) = kk_held c.law_accept.ensures.tested c.args.state.now c.args.front.now c.args.link.now c.args.wanted.now.label c.args.drawn c.verdict_after-verdict.result c.requires.refuse
    (c.verdict_after-verdict.ensures ∙ ap (λ (ts : List Test). verdict_of (c.args.front.now ++ ts)) c.kk_tests.ensures) (sym c.is_accept.ensures ∙ c.if-is_accept.true) in
    h.1.1.1.0

pub returns-in-None : goal.returns-in-None
returns-in-None c =
    refuses_row c.args.state.now _ _ c.verdict_after-verdict.result c.refusal.ensures (kk_undrawn c.args.state.now c.args.front.now c.args.link.now c.args.wanted.now.label c.args.wanted.now.single c.args.drawn c.verdict_after-verdict.result c.in-None.is
    (c.verdict_after-verdict.ensures ∙ ap (λ (ts : List Test). verdict_of (c.args.front.now ++ ts)) c.kk_tests.ensures))

pub returns-then-is_accept : goal.returns-then-is_accept
returns-then-is_accept c =
    let i : c.args.drawn ≡ Some c.in-Some.keys = first_of (search (c.in-Some.is), cc (c.in-Some.is), grind (c.in-Some.is)) in
    kk_sent c.send_kk.result c.args.state.now c.args.front.now c.args.link.now c.args.wanted.now.label c.args.wanted.now.single c.args.drawn c.in-Some.keys c.verdict_after-verdict.result i c.send_kk.ensures
    (c.verdict_after-verdict.ensures ∙ ap (λ (ts : List Test). verdict_of (c.args.front.now ++ ts)) c.kk_tests.ensures) (sym c.is_accept.ensures ∙ c.if-is_accept.true)

pub returns-else-is_accept : goal.returns-else-is_accept
returns-else-is_accept c =
    refuses_row c.args.state.now _ _ c.verdict_after-verdict.result c.refusal-else-is_accept.ensures (kk_refused c.args.state.now c.args.front.now c.args.link.now c.args.wanted.now.label c.args.wanted.now.single c.args.drawn c.verdict_after-verdict.result
    (c.verdict_after-verdict.ensures ∙ ap (λ (ts : List Test). verdict_of (c.args.front.now ++ ts)) c.kk_tests.ensures) (sym c.is_accept.ensures ∙ c.if-is_accept.false))
