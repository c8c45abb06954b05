use Rattle.std.proofs.Common.{◌≡◌, ◌++◌, take, drop}
use Rattle.x_disk.specs.History.{torn_from}
use Rattle.x_disk.specs.Record.{ranges_of}
use Rattle.x_disk.proofs.image.tear.Given as goal

abbrev pub invariant-loop-place : goal.invariant-loop-place
invariant-loop-place l = l.image ≡ torn_from l.choice (ranges_of l.entries) l.stable 0 (take l.place l.initial.image) ++ drop l.place l.initial.image
