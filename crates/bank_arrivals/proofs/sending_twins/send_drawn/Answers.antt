use Rattle.std.proofs.Common.{◌≡◌, Some, List, ◌++◌, sym, ap, ◌∙◌}
use Rattle.party_state.specs.Verdicts.{Test, verdict_of}
use Rattle.role_base.proofs.Kept.{refuses_row}
use Rattle.bank_arrivals.proofs.TwinsSent.{twins_undrawn, twins_sent, twins_refused}
use Rattle.bank_arrivals.proofs.sending_twins.send_drawn.Goals as goal

pub returns-in-None : goal.returns-in-None
returns-in-None c =
    refuses_row c.args.state.now _ _ c.verdict_after-verdict.result c.refusal.ensures (twins_undrawn c.args.state.now c.args.front.now c.args.link.now c.args.drawn.now c.verdict_after-verdict.result c.in-None.is
    (c.verdict_after-verdict.ensures ∙ ap (λ (ts : List Test). verdict_of (c.args.front.now ++ ts)) c.twins_tests.ensures))

pub returns-then-is_accept : goal.returns-then-is_accept
returns-then-is_accept c =
    let i : c.args.drawn.now ≡ Some c.in-Some.keys = first_of (search (c.in-Some.is), cc (c.in-Some.is), grind (c.in-Some.is)) in
    twins_sent c.send_twins.result c.args.state.now c.args.front.now c.args.link.now c.args.drawn.now c.in-Some.keys c.verdict_after-verdict.result i c.send_twins.ensures
    (c.verdict_after-verdict.ensures ∙ ap (λ (ts : List Test). verdict_of (c.args.front.now ++ ts)) c.twins_tests.ensures) (sym c.is_accept.ensures ∙ c.if-is_accept.true)

pub returns-else-is_accept : goal.returns-else-is_accept
returns-else-is_accept c =
    refuses_row c.args.state.now _ _ c.verdict_after-verdict.result c.refusal-else-is_accept.ensures (twins_refused c.args.state.now c.args.front.now c.args.link.now c.args.drawn.now c.verdict_after-verdict.result
    (c.verdict_after-verdict.ensures ∙ ap (λ (ts : List Test). verdict_of (c.args.front.now ++ ts)) c.twins_tests.ensures) (sym c.is_accept.ensures ∙ c.if-is_accept.false))
