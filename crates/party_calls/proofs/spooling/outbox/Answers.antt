use Rattle.std.proofs.Common.{◌≡◌}
use Rattle.party_calls.proofs.BatchEnds.{outbox_cause, outbox_follows, outbox_rest}
use Rattle.party_calls.proofs.spooling.outbox.Goals as goal

pub returns : goal.returns
returns g c =
    let name = c.args.name.now in
    let r = c.outbox-outcome.ensures in
    let f = c.finish_outbox.ensures in
    let o = c.outbox-outcome.result in
    let s = c.finish_outbox.result in
    let before = g.K.Sink.written c.args.sink.now in
    let after = g.K.Sink.written c.finish_outbox.new.sink in
    let old = g.H.Shelf.entry c.args.shelf.now in
    let new = g.H.Shelf.entry c.outbox-outcome.new.shelf in
    let put = g.K.Sink.faults c.args.sink.now in
    let puts = g.K.Sink.faults c.finish_outbox.new.sink in
    let disk = g.H.Shelf.faults c.args.shelf.now in
    let disks = g.H.Shelf.faults c.outbox-outcome.new.shelf in
    record {
      told = record { outcome = o; shows = r.shows; untouched = r.untouched; ends = f.ends };
      follows = λ put_quiet disk_quiet. outbox_follows o s before after put puts disk disks f.ends f.output.fault r.shelf.fault (old name) r.due put_quiet disk_quiet;
      rest = outbox_rest o s before after put puts disk disks f.ends f.output.fault r.shelf.fault name (g.H.Shelf.is_back c.outbox-outcome.new.shelf) (c.finish_outbox.new.sink ≡ c.args.sink.now) old new
          r.shelf f.answered f.output.silent;
      cause = λ read reads. outbox_cause o s before after put puts disk disks f.ends f.output.fault r.shelf.fault read reads;
    }
