use Rattle.std.proofs.Common.{◌-◌, length}
use Rattle.csm_spool.proofs.Runs.{IsRunning}
use Rattle.csm_spool.proofs.driving.run_on.Given as goal

abbrev pub invariant-running : goal.invariant-running
invariant-running g l = IsRunning g.D.Disk.told g.E.Disk.told l.fn.node l.fn.spool l.node l.spool

abbrev pub decreases-running : goal.decreases-running
decreases-running g l = length l.spool.progress.entries - length l.spool.progress.plans
