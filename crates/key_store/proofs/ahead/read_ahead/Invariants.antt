use Rattle.std.proofs.Common.{◌-◌, length}
use Rattle.key_store.proofs.ReadAhead.{IsUnderWay}
use Rattle.key_store.proofs.ahead.read_ahead.Given as goal

abbrev pub invariant-reading : goal.invariant-reading
invariant-reading g l = IsUnderWay g.D.Disk.told l.fn.opened l.opened l.bodies.items

abbrev pub decreases-reading : goal.decreases-reading
decreases-reading g l = 512 - length l.bodies.items
