use Rattle.std.proofs.Common.{◌≡◌, ◌∙◌, true, Some, None, refl, sym, ap}
use Rattle.party_state.specs.State.{exchange_with}
use Rattle.party_state.specs.Verdicts.{is_accept}
use Rattle.role_base.proofs.Decided.{decides}
use Rattle.bank_orders.specs.GivingUp.{drop, given_up_in}
use Rattle.bank_orders.proofs.OrdersKept.{given_up_keepable, given_up_few}
use Rattle.bank_orders.proofs.giving_up.drop_exchange.Goals as goal

pub returns-in_ok-edits-in-Some : goal.returns-in_ok-edits-in-Some
returns-in_ok-edits-in-Some c =
    let p = c.args.state.now in
    let peer = c.args.peer.now in
    let e = c.in-Some.exchange.now in
    let f : exchange_with peer p ≡ Some e = sym c.in-Some.ensures.found in
    let es : given_up_in p peer (Some e) ≡ (drop p peer).edits = ap (λ o. given_up_in p peer o) (sym f) in
    let t : is_accept (drop p peer).verdict ≡ true = rw f refl in
    decides c.accept.result p c.in_ok-edits-in-Some.edits.items None (drop p peer)
    c.accept.ensures (c.in_ok-edits-in-Some.ensures ∙ es) tt t (rw (← es) (given_up_keepable c.law_found.ensures.key p peer e)) (rw (← es) (given_up_few p peer e))
