use Rattle.std.proofs.Common.{arith}
use Rattle.std.proofs.lemmas.Grind.{common_steps}
use Rattle.call_ends.proofs.Transfers.{took_piece}
use Rattle.call_ends.proofs.transfer.gather.Goals as goal

pub returns-in_default-push-clause-most : goal.returns-in_default-push-clause-most
returns-in_default-push-clause-most g c =
    took_piece _ _ _ c.taking.text c.in-Ok.n c.args.limit c.take.new.buf c.taking.invariant.took c.in-Ok.ensures.front (grind (arith, common_steps, c.in-Ok.ensures.bound, c.taking.invariant.bound, c.min-want.ensures))
