-- The tests that rows have in common are in the order.
use Rattle.std.proofs.Common.{refl}
use Rattle.x_mac.specs.declared.pair.Pair.{Pair}
use Rattle.party_tables.specs.declared.link.LinkKey.{LinkKey}
use Rattle.party_state.specs.State.{Party}
use Rattle.role_base.specs.Load.{load_tests}
use Rattle.role_base.specs.Order.{InOrder}

pub load_order : (p : Party) (key : LinkKey) (pair : Pair) → InOrder (load_tests p key pair)
load_order p key pair = refl
