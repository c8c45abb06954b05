use Rattle.std.proofs.Common.{◌≡◌, Some, List, ◌++◌, sym, ap, ◌∙◌}
use Rattle.party_state.specs.Verdicts.{Test, verdict_of}
use Rattle.bank_orders.specs.Ask.{centre_front}
use Rattle.bank_orders.specs.Translate.{translate_tests}
use Rattle.role_base.proofs.Kept.{refuses_row}
use Rattle.bank_orders.proofs.CentresAsked.{translate_undrawn, translate_sent, translate_refused}
use Rattle.bank_orders.proofs.translate.translate_drawn.Goals as goal

pub returns-in-None : goal.returns-in-None
returns-in-None c =
    let v : c.verdict_after-verdict.result ≡ verdict_of (centre_front c.args.state.now c.args.centre.now c.args.ultimate.now ++ translate_tests c.args.link.now c.args.drawn) = c.verdict_after-verdict.ensures ∙ (ap (λ (ts : List Test). verdict_of (ts ++ c.translate_tests.result)) c.centre_front-front.ensures ∙ ap (λ (ts : List Test). verdict_of (centre_front c.args.state.now c.args.centre.now c.args.ultimate.now ++ ts)) c.translate_tests.ensures) in
    refuses_row c.args.state.now _ _ c.verdict_after-verdict.result c.refusal.ensures (translate_undrawn c.args.state.now c.args.centre.now c.args.ultimate.now c.args.link.now c.args.drawn c.verdict_after-verdict.result c.in-None.is v)

pub returns-then-is_accept : goal.returns-then-is_accept
returns-then-is_accept c =
    let i : c.args.drawn ≡ Some c.in-Some.key = first_of (search (c.in-Some.is), cc (c.in-Some.is), grind (c.in-Some.is)) in
    let v : c.verdict_after-verdict.result ≡ verdict_of (centre_front c.args.state.now c.args.centre.now c.args.ultimate.now ++ translate_tests c.args.link.now c.args.drawn) = c.verdict_after-verdict.ensures ∙ (ap (λ (ts : List Test). verdict_of (ts ++ c.translate_tests.result)) c.centre_front-front.ensures ∙ ap (λ (ts : List Test). verdict_of (centre_front c.args.state.now c.args.centre.now c.args.ultimate.now ++ ts)) c.translate_tests.ensures) in
    translate_sent c.send_for_translation.result c.args.state.now c.args.centre.now c.args.ultimate.now c.args.link.now c.args.drawn c.in-Some.key c.verdict_after-verdict.result i c.send_for_translation.ensures v (sym c.is_accept.ensures ∙ c.if-is_accept.true)

pub returns-else-is_accept : goal.returns-else-is_accept
returns-else-is_accept c =
    let v : c.verdict_after-verdict.result ≡ verdict_of (centre_front c.args.state.now c.args.centre.now c.args.ultimate.now ++ translate_tests c.args.link.now c.args.drawn) = c.verdict_after-verdict.ensures ∙ (ap (λ (ts : List Test). verdict_of (ts ++ c.translate_tests.result)) c.centre_front-front.ensures ∙ ap (λ (ts : List Test). verdict_of (centre_front c.args.state.now c.args.centre.now c.args.ultimate.now ++ ts)) c.translate_tests.ensures) in
    refuses_row c.args.state.now _ _ c.verdict_after-verdict.result c.refusal-else-is_accept.ensures (translate_refused c.args.state.now c.args.centre.now c.args.ultimate.now c.args.link.now c.args.drawn c.verdict_after-verdict.result v (sym c.is_accept.ensures ∙ c.if-is_accept.false))
