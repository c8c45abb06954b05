use Rattle.std.proofs.Common.{◌≡◌, ◌≤◌, length}
use Rattle.std.specs.Vec.{vec_capacity}
use Rattle.x_disk.specs.Record.{lengths, written}
use Rattle.x_disk.proofs.image.write_all.Given as goal

abbrev pub invariant-loop-rest : goal.invariant-loop-rest
invariant-loop-rest l = (lengths l.rest ≤ length l.behind) × (written l.rest l.behind l.image.items ≡ written l.entries l.payload l.initial.image.items)
    × (vec_capacity l.initial.image ≤ vec_capacity l.image)

abbrev pub decreases-loop-rest : goal.decreases-loop-rest
decreases-loop-rest l = length l.rest
