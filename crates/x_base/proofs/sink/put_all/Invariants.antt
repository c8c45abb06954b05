use Rattle.std.proofs.Common.{◌≤◌, ◌-◌, length, take}
use Rattle.x_base.specs.Edge.{AppendsTo}
use Rattle.x_base.proofs.sink.put_all.Given as goal

abbrev pub invariant-loop-at : goal.invariant-loop-at
invariant-loop-at g l = record {
  bound : l.at ≤ length l.text;
  wrote : AppendsTo (g.K.Sink.written l.initial.sink) (g.K.Sink.written l.sink) (take l.at l.text);
  climbs : g.K.Sink.faults l.initial.sink ≤ g.K.Sink.faults l.sink;
}

abbrev pub decreases-loop-at : goal.decreases-loop-at
decreases-loop-at g l = length l.text - l.at
