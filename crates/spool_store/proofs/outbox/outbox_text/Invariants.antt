use Rattle.std.proofs.Common.{◌≡◌, take}
use Rattle.spool_store.specs.Spools.{outbox_from}
use Rattle.spool_store.proofs.outbox.outbox_text.Given as goal

abbrev pub invariant-loop-i : goal.invariant-loop-i
invariant-loop-i l = l.out ≡ outbox_from 1 (take l.i l.plans)
