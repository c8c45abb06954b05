use Rattle.std.proofs.Common.{◌-◌, ◌≤◌, ◌≡◌, List, ℕ, length, Some, is_some}
use Rattle.x_disk.specs.Disk.{LeavesOnly}
use Rattle.key_journal.specs.States.{MayTear}
use Rattle.key_journal.specs.Wiping.{HasZeros}
use Rattle.key_journal.proofs.wipe.clear.Given as goal

abbrev pub invariant-clearing : goal.invariant-clearing
invariant-clearing g l = record {
  low : l.from ≤ l.at;
  high : l.at ≤ l.to;
  zeros : (b c : List ℕ) → (g.D.Disk.told l.fn.disk).now ≡ Some b → (g.D.Disk.told l.disk).now ≡ Some c → l.to ≤ length b → HasZeros l.from l.at b c;
  leaves : LeavesOnly (g.D.Disk.told l.fn.disk) (g.D.Disk.told l.disk) (MayTear (g.D.Disk.told l.fn.disk) l.from (l.to - l.from));
  tells : is_some (g.D.Disk.told l.disk).now ≡ is_some (g.D.Disk.told l.fn.disk).now;
  later : (g.D.Disk.told l.fn.disk).faults ≤ (g.D.Disk.told l.disk).faults;
}

abbrev pub decreases-clearing : goal.decreases-clearing
decreases-clearing g l = l.to - l.at
