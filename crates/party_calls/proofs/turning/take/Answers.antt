use Rattle.std.proofs.Common.{◌≡◌, [], ◌∷◌, inl, inr, refl}
use Rattle.x_disk.specs.Shelf.{alike_refl}
use Rattle.party_state.specs.declared.command.Input.TheVariants.{Arrived}
use Rattle.x_line.specs.declared.order.Order.TheVariants as order
use Rattle.x_party.specs.Dues.{IsDue}
use Rattle.party_calls.specs.Obeys.{IsPartyTurn}
use Rattle.party_calls.proofs.Arriving.{follows_heard, follows_unheard, none_told}
use Rattle.party_calls.proofs.Orders.{cause_unheard, finished}
use Rattle.party_calls.proofs.turning.take.Goals as goal

pub returns-in-Err : goal.returns-in-Err
returns-in-Err g c =
    let party = c.args.party.now in
    let s = c.in-Err.status in
    let unheard = c.in-Err.ensures.unheard in
    let left = g.S.Source.left c.args.source.now in
    let entry = g.H.Shelf.entry c.args.shelf.now in
    let reads = g.S.Source.faults c.args.source.now in
    let puts = g.K.Sink.faults c.args.sink.now in
    let disks = g.H.Shelf.faults c.args.shelf.now in
    record {
      obeys = inl (unheard, refl, alike_refl (entry party));
      expects = λ read_quiet put_quiet disk_quiet.
          follows_unheard c.law_one_hearing.ensures left party (entry party) c.args.moment s reads (g.S.Source.faults c.listen.new.source) unheard c.in-Err.ensures.read_fault read_quiet;
      others = record { back = λ of. absurd (none_told left s unheard of); ledger_back = λ of. tt; others = λ playing name apart. alike_refl (entry name); unread = λ reading. absurd (cc reading) };
      cause = cause_unheard reads (g.S.Source.faults c.listen.new.source) puts puts disks disks left s unheard c.in-Err.ensures.read_fault;
      silent = λ silent. refl;
      most = c.listen.ensures.most;
    }

pub returns : goal.returns
returns g c =
    let party = c.args.party.now in
    let r = c.turn-outcome.ensures in
    let f = c.finish.ensures in
    let o = c.turn-outcome.result in
    let s = c.finish.result in
    let i = Arrived c.in-Ok.arrival in
    let left = g.S.Source.left c.args.source.now in
    let before = g.K.Sink.written c.args.sink.now in
    let after = g.K.Sink.written c.finish.new.sink in
    let old = g.H.Shelf.entry c.args.shelf.now in
    let new = g.H.Shelf.entry c.turn-outcome.new.shelf in
    let rest = g.S.Source.left c.listen.new.source in
    let done = finished (order.Take party) party s (g.H.Shelf.is_back c.turn-outcome.new.shelf) (c.listen.new.source ≡ c.args.source.now) old new o (10 ∷ []) before after
    (IsDue party i c.args.moment) (g.K.Sink.faults c.args.sink.now) (g.K.Sink.faults c.finish.new.sink) (g.H.Shelf.faults c.args.shelf.now) (g.H.Shelf.faults c.turn-outcome.new.shelf)
    refl refl f.ends f.answered f.output.fault r.due r.shelf (λ reading. absurd (cc reading)) in
    let turned : IsPartyTurn party i c.args.moment (old party) (new party) s before after = record { outcome = o; turned = r.turned; safe = r.safe; ends = f.ends } in
    record {
      obeys = inr (c.in-Ok.arrival, c.in-Ok.ensures.heard, turned);
      expects = λ read_quiet put_quiet disk_quiet.
          follows_heard c.law_one_hearing.ensures left rest party (old party) c.args.moment s c.in-Ok.arrival c.in-Ok.ensures.heard (done.expects put_quiet disk_quiet);
      others = done.others;
      cause = done.cause (g.S.Source.faults c.args.source.now) (g.S.Source.faults c.listen.new.source);
      silent = f.output.silent;
      most = c.listen.ensures.most;
    }
