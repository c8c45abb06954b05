use Rattle.std.proofs.Common.{length, ◌-◌}
use Rattle.edc_slices.proofs.queue.Queue.walk.Given as goal

abbrev pub decreases-loop-self : goal.decreases-loop-self
decreases-loop-self l = length l.bodies - l.self.at
