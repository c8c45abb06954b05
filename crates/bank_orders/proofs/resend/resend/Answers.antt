use Rattle.std.proofs.Common.{◌≡◌, Some, refl, lit≤, sym, subst}
use Rattle.party_state.specs.State.{exchange_with}
use Rattle.role_base.specs.Deciding.{Decides}
use Rattle.role_base.proofs.Decided.{decides}
use Rattle.bank_orders.specs.Resend.{resend_of}
use Rattle.bank_orders.proofs.resend.resend.Goals as goal

pub returns-in_ok-written-in-Some : goal.returns-in_ok-written-in-Some
returns-in_ok-written-in-Some c =
    let p = c.args.state.now in
    let f : exchange_with c.args.peer.now p ≡ Some c.in-Some.exchange.now = sym c.in-Some.ensures.found in
    subst (λ o. Decides p (resend_of o) c.accept.result) (sym f) (decides c.accept.result p c.new.result.items (Some c.in_ok-written-in-Some.written) (resend_of (Some c.in-Some.exchange.now))
    c.accept.ensures c.new.ensures.items c.in_ok-written-in-Some.ensures refl (record { each = tt; order = refl }) (lit≤ tt))
