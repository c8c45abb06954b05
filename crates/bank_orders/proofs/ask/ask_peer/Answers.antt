use Rattle.std.proofs.Common.{◌≡◌, true, Some, refl, lit≤, arith}
use Rattle.party_state.specs.Verdicts.{is_accept}
use Rattle.bank_orders.specs.Ask.{ask_peer}
use Rattle.role_base.proofs.Decided.{decides}
use Rattle.bank_orders.proofs.ask.ask_peer.Goals as goal

pub returns : goal.returns
returns c =
    let row = ask_peer c.args.state.now c.args.peer.now in
    let t : is_accept row.verdict ≡ true = grind arith in
    decides c.accept.result c.args.state.now c.new.result.items (Some c.in_ok-written.written) row
    c.accept.ensures c.new.ensures.items c.in_ok-written.ensures t (record { each = tt; order = refl }) (lit≤ tt)
