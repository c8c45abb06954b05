use Rattle.std.proofs.Common.{◌≡◌, ◌≤◌, ◌-◌, List, ℕ, length, take, drop, Some}
use Rattle.x_disk.specs.Disk.{IsStill}
use Rattle.key_journal.proofs.reader.Reader.body.Given as goal

abbrev pub invariant-reading : goal.invariant-reading
invariant-reading g l = record {
  within : l.done ≤ l.n;
  long : length l.text ≡ l.done;
  bytes : (b : List ℕ) → (g.D.Disk.told l.fn.self.disk).now ≡ Some b → l.text ≡ take l.done (drop l.at b);
  size : l.self.size ≡ l.fn.self.size;
  still : IsStill (g.D.Disk.told l.fn.self.disk) (g.D.Disk.told l.self.disk);
  later : (g.D.Disk.told l.fn.self.disk).faults ≤ (g.D.Disk.told l.self.disk).faults;
}

abbrev pub decreases-reading : goal.decreases-reading
decreases-reading g l = l.n - l.done
