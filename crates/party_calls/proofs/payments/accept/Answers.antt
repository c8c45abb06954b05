use Rattle.std.proofs.Common.{◌≡◌, inl, inr, refl}
use Rattle.x_disk.specs.Shelf.{alike_refl}
use Rattle.x_pay.specs.Payments.{accepting}
use Rattle.call_ends.specs.declared.status.Status.TheVariants as status
use Rattle.party_calls.proofs.Paying.{never_read, no_payment, nothing_left, of_payment, payment_follows, payment_rest, takes_payment}
use Rattle.party_calls.proofs.payments.accept.Goals as goal

pub returns-in-Err-Fault : goal.returns-in-Err-Fault
returns-in-Err-Fault g c =
    let entry = g.H.Shelf.entry c.args.shelf.now in
    let fault = λ (e : status.ReadFault ≡ status.ReadFault). c.gather.ensures.fault cc in
    record {
      accepted = inl (inl refl, refl, λ name. alike_refl (entry name));
      follows = λ read_quiet put_quiet disk_quiet. absurd (read_quiet (fault refl));
      rest = nothing_left c.args.party.now c.args.ledger.now status.ReadFault (g.H.Shelf.is_back c.args.shelf.now) (c.args.sink.now ≡ c.args.sink.now) entry
          (g.K.Sink.faults c.args.sink.now) (g.H.Shelf.faults c.args.shelf.now) (λ of. of) refl (λ e. cc e) (λ e. cc e);
      input = record { most = c.gather.ensures.most; fault = fault };
    }

pub returns-in-Err-NoMemory : goal.returns-in-Err-NoMemory
returns-in-Err-NoMemory g c =
    let entry = g.H.Shelf.entry c.args.shelf.now in
    record {
      accepted = inl (inr refl, refl, λ name. alike_refl (entry name));
      follows = λ read_quiet put_quiet disk_quiet. no_payment (g.S.Source.left c.args.source.now) c.args.party.now (entry c.args.party.now) (entry c.args.ledger.now);
      rest = nothing_left c.args.party.now c.args.ledger.now status.NoMemory (g.H.Shelf.is_back c.args.shelf.now) (c.args.sink.now ≡ c.args.sink.now) entry
          (g.K.Sink.faults c.args.sink.now) (g.H.Shelf.faults c.args.shelf.now) (λ of. of) refl (λ e. cc e) (λ e. cc e);
      input = record { most = c.gather.ensures.most; fault = λ e. absurd (cc e) };
    }

pub returns : goal.returns
returns g c =
    let party = c.args.party.now in
    let ledger = c.args.ledger.now in
    let text = c.in-Ok.input in
    let bytes = c.bytes.result.now in
    let r = c.accept-outcome.ensures in
    let f = c.finish_payment.ensures in
    let o = c.accept-outcome.result in
    let s = c.finish_payment.result in
    let left = g.S.Source.left c.args.source.now in
    let rest = g.S.Source.left c.gather.new.source in
    let before = g.K.Sink.written c.args.sink.now in
    let after = g.K.Sink.written c.finish_payment.new.sink in
    let old = g.H.Shelf.entry c.args.shelf.now in
    let new = g.H.Shelf.entry c.accept-outcome.new.shelf in
    let put = g.K.Sink.faults c.args.sink.now in
    let puts = g.K.Sink.faults c.finish_payment.new.sink in
    let disk = g.H.Shelf.faults c.args.shelf.now in
    let disks = g.H.Shelf.faults c.accept-outcome.new.shelf in
    record {
      accepted = inr (bytes, takes_payment left rest text bytes c.in-Ok.ensures.front c.in-Ok.ensures.end c.bytes.ensures, record { outcome = o; made = r.paid; safe = r.safe; ends = f.ends });
      follows = λ read_quiet put_quiet disk_quiet. of_payment left text bytes party (old party) (old ledger) s c.in-Ok.ensures.front c.bytes.ensures
          (payment_follows o s before after put puts disk disks f.ends f.output.fault (accepting bytes) party (old party) (old ledger) r.due r.shelf.fault put_quiet disk_quiet);
      rest = payment_rest o s before after put puts disk disks f.ends f.output.fault party ledger (g.H.Shelf.is_back c.accept-outcome.new.shelf) (c.finish_payment.new.sink ≡ c.args.sink.now) old new
          r.shelf f.answered f.output.silent;
      input = record { most = c.gather.ensures.most; fault = λ e. absurd (never_read o s before after f.ends e) };
    }
