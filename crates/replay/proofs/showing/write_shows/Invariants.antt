use Rattle.std.proofs.Common.{◌≤◌, take}
use Rattle.x_base.specs.Edge.{AppendsTo}
use Rattle.open_parties.specs.OpenParties.{members}
use Rattle.course.specs.Transcript.{show_lines}
use Rattle.replay.proofs.showing.write_shows.Given as goal

abbrev pub invariant-loop-place : goal.invariant-loop-place
invariant-loop-place g l = record {
  wrote : AppendsTo (g.K.Sink.written l.initial.sink) (g.K.Sink.written l.sink) (show_lines (members (take l.place l.parties)));
  later : g.K.Sink.faults l.initial.sink ≤ g.K.Sink.faults l.sink;
}
