use Rattle.std.proofs.Common.{sym}
use Rattle.role_base.proofs.Found.{key_stands}
use Rattle.bank_orders.proofs.ending.end.Goals as goal

pub end_key-requires : goal.end_key-requires
end_key-requires c = key_stands c.law_found.ensures.key c.args.state.now (record { peer = c.args.peer.now; name = c.args.name.now }) c.in-Some.key.now (sym c.in-Some.ensures.found)
