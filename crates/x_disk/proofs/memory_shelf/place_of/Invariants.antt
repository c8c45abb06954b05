use Rattle.std.proofs.Common.{take}
use Rattle.x_disk.specs.Slots.{NoneOf}
use Rattle.x_disk.proofs.memory_shelf.place_of.Given as goal

abbrev pub invariant-loop-place : goal.invariant-loop-place
invariant-loop-place l = NoneOf (take l.place l.slots) l.name
