use Rattle.std.proofs.Common.{◌≡◌, Some, List, ◌++◌, sym, ap, ◌∙◌}
use Rattle.party_state.specs.Verdicts.{Test, verdict_of}
use Rattle.role_base.proofs.Kept.{refuses_row}
use Rattle.role_base.proofs.Spent.{drawn_none, drawn_sent, drawn_refused}
use Rattle.role_base.proofs.sending.send_drawn.Goals as goal

pub returns-in-None : goal.returns-in-None
returns-in-None c =
    refuses_row c.args.state.now _ _ c.verdict_after-verdict.result c.refusal.ensures (drawn_none c.args.state.now c.args.front.now c.args.link.now c.args.drawn c.verdict_after-verdict.result c.in-None.is
    (c.verdict_after-verdict.ensures ∙ ap (λ (ts : List Test). verdict_of (c.args.front.now ++ ts)) c.sending_tests.ensures))

pub returns-then-is_accept : goal.returns-then-is_accept
returns-then-is_accept c =
    let i : c.args.drawn ≡ Some (c.in-Some.key, c.in-Some.after) = first_of (search (c.in-Some.is), cc (c.in-Some.is, c.in-Some.key-is, c.in-Some.after-is), grind (c.in-Some.is, c.in-Some.key-is, c.in-Some.after-is)) in
    drawn_sent c.send_key.result c.args.state.now c.args.front.now c.args.link.now c.args.drawn c.in-Some.key c.in-Some.after c.verdict_after-verdict.result i c.send_key.ensures
    (c.verdict_after-verdict.ensures ∙ ap (λ (ts : List Test). verdict_of (c.args.front.now ++ ts)) c.sending_tests.ensures) (sym c.is_accept.ensures ∙ c.if-is_accept.true)

pub returns-else-is_accept : goal.returns-else-is_accept
returns-else-is_accept c =
    refuses_row c.args.state.now _ _ c.verdict_after-verdict.result c.refusal-else-is_accept.ensures (drawn_refused c.args.state.now c.args.front.now c.args.link.now c.args.drawn c.verdict_after-verdict.result
    (c.verdict_after-verdict.ensures ∙ ap (λ (ts : List Test). verdict_of (c.args.front.now ++ ts)) c.sending_tests.ensures) (sym c.is_accept.ensures ∙ c.if-is_accept.false))
