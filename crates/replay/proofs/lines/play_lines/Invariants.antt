use Rattle.std.proofs.Common.{◌≤◌, take, Ok}
use Rattle.open_parties.specs.Around.{Around}
use Rattle.replay.specs.Crash.{CrossesLines}
use Rattle.replay.specs.Lines.{Plays}
use Rattle.course.specs.Outcomes.{IsWithin}
use Rattle.course.specs.Starts.{start_progress}
use Rattle.replay.proofs.lines.play_lines.Given as goal

abbrev pub invariant-playing : goal.invariant-playing
invariant-playing g l = record {
  played : Plays g.H.Disk.Disk.told (g.H.Shelf.faults l.fn.shelf) (g.H.Shelf.faults l.shelf) (take l.line-index l.lines) l.fn.play_state l.play_state start_progress l.now (g.K.Sink.written l.fn.sink) (g.K.Sink.written l.sink);
  around : Around {T = Unit {0}} g.H.Disk.Disk.told l.fn.play_state.parties l.play_state.parties (g.H.Shelf.entry l.fn.shelf) (g.H.Shelf.entry l.shelf) (g.H.Shelf.has_slot l.fn.shelf) (g.H.Shelf.has_slot l.shelf) (g.H.Shelf.faults l.fn.shelf) (g.H.Shelf.faults l.shelf) (Ok tt);
  within : IsWithin l.now l.line-index;
  climbs : g.K.Sink.faults l.fn.sink ≤ g.K.Sink.faults l.sink;
  crash : CrossesLines g.H.Disk.Disk.told (g.H.Shelf.entry l.fn.shelf) (g.H.Shelf.entry l.shelf) (g.H.Shelf.faults l.fn.shelf) (g.H.Shelf.faults l.shelf) (take l.line-index l.lines) l.fn.play_state l.play_state start_progress (g.K.Sink.written l.fn.sink);
}
