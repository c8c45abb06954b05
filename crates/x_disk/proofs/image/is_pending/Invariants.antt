use Rattle.std.proofs.Common.{◌≡◌, length}
use Rattle.x_disk.specs.History.{covers_place}
use Rattle.x_disk.specs.Record.{ranges_of}
use Rattle.x_disk.proofs.image.is_pending.Given as goal

abbrev pub invariant-loop-rest : goal.invariant-loop-rest
invariant-loop-rest l = covers_place (ranges_of l.rest) l.place ≡ covers_place (ranges_of l.entries) l.place

abbrev pub decreases-loop-rest : goal.decreases-loop-rest
decreases-loop-rest l = length l.rest
