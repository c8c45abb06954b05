-- The tests of a request for service are made in the order.
use Rattle.std.proofs.Common.{Bool, refl}
use Rattle.csm_grammar.specs.declared.arrival.Arrival.{Arrival}
use Rattle.csm_grammar.specs.declared.message.Rfs.{Rfs}
use Rattle.party_tables.specs.declared.link.LinkRec.{LinkRec}
use Rattle.party_state.specs.State.{Party}
use Rattle.role_base.specs.Order.{InOrder}
use Rattle.translation_role.specs.Service.{rfs_front, rfs_tests}

pub rfs_order : (p : Party) (a : Arrival) (m : Rfs) (l b : LinkRec) → InOrder (rfs_tests p a m l b)
rfs_order p a m l b = refl

pub rfs_front_order : (p : Party) (m : Rfs) (linked : Bool) → InOrder (rfs_front p m linked)
rfs_front_order p m linked = refl
