use Rattle.std.proofs.Common.{◌≡◌, ◌≤◌, take}
use Rattle.course.specs.Tallies.{count_status}
use Rattle.course.proofs.keys.count_records.Given as goal

abbrev pub invariant-loop-i : goal.invariant-loop-i
invariant-loop-i l = record {
  counted : l.count ≡ count_status l.status (take l.i l.state.keys);
  few : l.count ≤ l.i;
}
