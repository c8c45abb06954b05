use Rattle.std.proofs.Common.{◌≤◌, ◌-◌}
use Rattle.x_disk.specs.Disk.{IsStill}
use Rattle.journal_state.specs.Loading.{ReadTo}
use Rattle.journal_state.proofs.loading.read_state.Given as goal

abbrev pub invariant-reading : goal.invariant-reading
invariant-reading g l = record {
  read : ReadTo g.J.Judge.step g.J.Judge.start (g.D.Disk.told l.opened.disk) l.opened.gate l.opened.end l.state;
  still : IsStill (g.D.Disk.told l.fn.opened.disk) (g.D.Disk.told l.opened.disk);
  faults : (g.D.Disk.told l.fn.opened.disk).faults ≤ (g.D.Disk.told l.opened.disk).faults;
}

abbrev pub decreases-reading : goal.decreases-reading
decreases-reading g l = l.opened.end - l.opened.gate
