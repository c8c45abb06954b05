use Rattle.translation_role.proofs.Ordered.{rfs_order, rfs_front_order}
use Rattle.translation_role.proofs.served.law_order.Goals as goal

pub returns-clause-rfs : goal.returns-clause-rfs
returns-clause-rfs c = rfs_order

pub returns-clause-rfs_front : goal.returns-clause-rfs_front
returns-clause-rfs_front c = rfs_front_order
