use Rattle.std.proofs.Common.{◌≡◌, inl, inr, refl}
use Rattle.x_disk.specs.Shelf.{alike_refl}
use Rattle.party_calls.proofs.Paying.{nothing_left}
use Rattle.party_calls.proofs.BatchEnds.{batch_follows_all, batch_rest, never_read, unbatched_follows, unbatched_other, unbatched_silent}
use Rattle.party_calls.proofs.spooling.spool.Goals as goal

pub returns-in-Err : goal.returns-in-Err
returns-in-Err g c =
    let entry = g.H.Shelf.entry c.args.shelf.now in
    let s = c.in-Err.status in
    let left = g.S.Source.left c.args.source.now in
    let none = c.in-Err.ensures.none in
    let other = unbatched_other left s none in
    record {
      batched = inl (none, refl, λ name. alike_refl (entry name));
      follows = λ read_quiet put_quiet disk_quiet. unbatched_follows c.law_one_reading.ensures c.args.party.now c.args.spool.now entry s left (λ fault. read_quiet (c.in-Err.ensures.read_fault fault)) none;
      rest = nothing_left c.args.party.now c.args.spool.now s (g.H.Shelf.is_back c.args.shelf.now) (c.args.sink.now ≡ c.args.sink.now) entry
          (g.K.Sink.faults c.args.sink.now) (g.H.Shelf.faults c.args.shelf.now) (unbatched_silent left s none) refl other.0 other.1;
      input = record { most = c.take_batch.ensures.most; fault = c.in-Err.ensures.read_fault };
    }

pub returns : goal.returns
returns g c =
    let party = c.args.party.now in
    let spool = c.args.spool.now in
    let text = c.in-Ok.batch.0 in
    let entries = c.in-Ok.batch.1 in
    let r = c.spool-outcome.ensures in
    let f = c.finish_batch.ensures in
    let o = c.spool-outcome.result in
    let s = c.finish_batch.result in
    let left = g.S.Source.left c.args.source.now in
    let rest = g.S.Source.left c.take_batch.new.source in
    let before = g.K.Sink.written c.args.sink.now in
    let after = g.K.Sink.written c.finish_batch.new.sink in
    let old = g.H.Shelf.entry c.args.shelf.now in
    let new = g.H.Shelf.entry c.spool-outcome.new.shelf in
    let put = g.K.Sink.faults c.args.sink.now in
    let puts = g.K.Sink.faults c.finish_batch.new.sink in
    let disk = g.H.Shelf.faults c.args.shelf.now in
    let disks = g.H.Shelf.faults c.spool-outcome.new.shelf in
    record {
      batched = inr (text, entries, c.in-Ok.ensures.batch, c.in-Ok.ensures.takes, record { outcome = o; made = r.made; in_step = r.in_step; onward = r.onward; ends = f.ends });
      follows = λ read_quiet put_quiet disk_quiet. batch_follows_all o s before after put puts disk disks f.ends f.output.fault r.shelf.fault put_quiet disk_quiet c.law_one_reading.ensures
          left rest party spool text entries old new c.in-Ok.ensures.batch c.in-Ok.ensures.takes r.in_step r.due;
      rest = batch_rest o s before after put puts disk disks f.ends f.output.fault party spool (g.H.Shelf.is_back c.spool-outcome.new.shelf) (c.finish_batch.new.sink ≡ c.args.sink.now) old new
          r.shelf f.answered f.output.silent;
      input = record { most = c.take_batch.ensures.most; fault = λ e. absurd (never_read o s before after f.ends e) };
    }
