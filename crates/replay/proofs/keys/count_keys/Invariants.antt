use Rattle.std.proofs.Common.{◌≡◌, ◌≤◌, ◌*◌, take}
use Rattle.course.specs.Tallies.{count_status, records_of}
use Rattle.open_parties.specs.OpenParties.{members}
use Rattle.replay.proofs.keys.count_keys.Given as goal

abbrev pub invariant-loop-place : goal.invariant-loop-place
invariant-loop-place g l = record {
  counted : l.count ≡ count_status l.status (records_of (members (take l.place l.parties)));
  few : l.count ≤ 1024 * l.place;
}
