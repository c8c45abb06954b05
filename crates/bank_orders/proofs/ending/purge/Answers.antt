use Rattle.std.proofs.Common.{None, refl, lit≤}
use Rattle.bank_orders.specs.Ending.{purge}
use Rattle.role_base.proofs.Decided.{decides}
use Rattle.bank_orders.proofs.ending.purge.Goals as goal

pub returns : goal.returns
returns c =
    decides c.accept.result c.args.state.now c.in_ok-list_of.field-0.items None purge c.accept.ensures c.in_ok-list_of.ensures tt refl (record { each = (tt, tt); order = refl }) (lit≤ tt)
