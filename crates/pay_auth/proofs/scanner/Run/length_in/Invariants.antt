use Rattle.std.proofs.Common.{◌≤◌, ◌-◌, length, take}
use Rattle.pay_auth.specs.Scanning.{AreAllowed}
use Rattle.pay_auth.proofs.scanner.Run.length_in.Given as goal

abbrev pub invariant-loop-place : goal.invariant-loop-place
invariant-loop-place l = record {
  within : l.place ≤ length l.bytes;
  allowed : AreAllowed l.self 0 (take l.place l.bytes);
}

abbrev pub decreases-loop-place : goal.decreases-loop-place
decreases-loop-place l = length l.bytes - l.place
