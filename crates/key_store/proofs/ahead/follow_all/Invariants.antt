use Rattle.std.proofs.Common.{◌≡◌, take}
use Rattle.key_store.specs.Store.{Lead}
use Rattle.key_store.specs.Ahead.{gate_behind}
use Rattle.key_store.proofs.ahead.follow_all.Given as goal

abbrev pub invariant-loop-i : goal.invariant-loop-i
invariant-loop-i l = record {
  lead : Lead l.format l.initial.state (take l.i l.bodies) l.state;
  place : l.place ≡ gate_behind l.gate (take l.i l.bodies);
}
