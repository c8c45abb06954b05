use Rattle.std.proofs.Common.{arith}
use Rattle.x_base.specs.Edge.{WrotePrefix}
use Rattle.course.specs.Transcript.{show_lines}
use Rattle.open_parties.specs.OpenParties.{members}
use Rattle.replay.proofs.Gathering.{shows_more, shows_part}
use Rattle.open_parties.proofs.Results.{on_err}
use Rattle.replay.proofs.showing.write_shows.Goals as goal

pub loop-place-preserved : goal.loop-place-preserved
loop-place-preserved g c =
    let held = c.view_at.ensures.party in
    record {
      wrote = shows_more c.args.parties.now c.loop-place.place held.0 c.view_at.result.now (omega arith) held.1 held.2
          (g.K.Sink.written c.args.sink.now) (g.K.Sink.written c.loop-place.sink) (g.K.Sink.written c.write_show.new.sink) c.loop-place.invariant.wrote c.in_ok-write_show.ensures.written;
      later = omega (arith, c.loop-place.invariant.later, c.write_show.ensures.sink.climbs);
    }

pub returns-in_err-write_show-clause-part : goal.returns-in_err-write_show-clause-part
returns-in_err-write_show-clause-part g c =
    let held = c.view_at.ensures.party in
    on_err c.from_residual.result (WrotePrefix (g.K.Sink.written c.args.sink.now) (g.K.Sink.written c.write_show.new.sink) (show_lines (members c.args.parties.now)))
    (shows_part c.args.parties.now c.loop-place.place held.0 c.view_at.result.now (omega arith) held.1 held.2
    (g.K.Sink.written c.args.sink.now) (g.K.Sink.written c.loop-place.sink) (g.K.Sink.written c.write_show.new.sink) c.loop-place.invariant.wrote c.in_err-write_show.ensures.part)
