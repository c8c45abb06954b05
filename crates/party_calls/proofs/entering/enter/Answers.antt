use Rattle.std.proofs.Common.{◌≡◌, ◌∙◌, ℕ, List, [], ◌∷◌, inl, inr, refl, ap, subst}
use Rattle.x_disk.specs.Shelf.{alike_refl}
use Rattle.pair_check.specs.Values.{check_value_of}
use Rattle.key_parts.specs.declared.part.Form.TheVariants.{Key}
use Rattle.party_state.specs.declared.command.Command.TheVariants.{Load}
use Rattle.party_state.specs.declared.command.Input.TheVariants.{Ordered}
use Rattle.x_line.specs.declared.order.Order.TheVariants.{Enter}
use Rattle.x_party.specs.Dues.{IsDue}
use Rattle.x_party.specs.declared.outcome.Outcome.{Outcome}
use Rattle.x_party.specs.Outcomes.{IsNoFailure}
use Rattle.party_calls.specs.Dues.{Follows}
use Rattle.party_calls.specs.Ends.{Ends}
use Rattle.party_calls.specs.Entered.{valued}
use Rattle.party_calls.proofs.KeysEntered.{WithValue, cause_of_none, expects_entered, expects_no_key, follows_memory, follows_valued, gives_valued, leaves_valued, not_of_party}
use Rattle.party_calls.proofs.Orders.{finished}
use Rattle.party_calls.proofs.entering.enter.Goals as goal

pub returns-in-Err : goal.returns-in-Err
returns-in-Err g c =
    let party = c.args.party.now in
    let key = c.args.key in
    let s = c.in-Err.status in
    let none = c.in-Err.ensures.none in
    let left = g.S.Source.left c.args.source.now in
    let rest = g.S.Source.left c.take_key.new.source in
    let entry = g.H.Shelf.entry c.args.shelf.now in
    let read = g.S.Source.faults c.args.source.now in
    let reads = g.S.Source.faults c.take_key.new.source in
    let put = g.K.Sink.faults c.args.sink.now in
    let disk = g.H.Shelf.faults c.args.shelf.now in
    record {
      obeys = inl (none, (refl, λ name. alike_refl (entry name)));
      expects = λ read_quiet put_quiet disk_quiet. expects_no_key Key left rest s
          (λ part. Follows (entry party) (IsDue party (Ordered (Load key.peer key.label key.side part.pair)) c.args.moment) s)
          read reads none c.in-Err.ensures.read_fault read_quiet
          (λ part is. follows_memory (entry party) (IsDue party (Ordered (Load key.peer key.label key.side part.pair)) c.args.moment) s is);
      others = record {
        back = λ of. absurd (not_of_party Key left rest s none of);
        ledger_back = λ of. tt;
        others = λ playing name apart. alike_refl (entry name);
        unread = λ reading. absurd (cc reading);
      };
      cause = cause_of_none Key left rest s read reads put put disk disk none c.in-Err.ensures.read_fault;
      silent = λ silent. refl;
      most = c.take_key.ensures.most;
    }

pub returns : goal.returns
returns g c =
    let party = c.args.party.now in
    let key = c.args.key in
    let part = c.in-Ok.entered.part in
    let i = Ordered (Load key.peer key.label key.side part.pair) in
    let r = c.turn-outcome.ensures in
    let f = c.finish.ensures in
    let o = c.turn-outcome.result in
    let s = c.finish.result in
    let value = check_value_of part.pair in
    let left = g.S.Source.left c.args.source.now in
    let rest = g.S.Source.left c.take_key.new.source in
    let before = g.K.Sink.written c.args.sink.now in
    let after = g.K.Sink.written c.finish.new.sink in
    let old = g.H.Shelf.entry c.args.shelf.now in
    let new = g.H.Shelf.entry c.turn-outcome.new.shelf in
    let put = g.K.Sink.faults c.args.sink.now in
    let puts = g.K.Sink.faults c.finish.new.sink in
    let disk = g.H.Shelf.faults c.args.shelf.now in
    let disks = g.H.Shelf.faults c.turn-outcome.new.shelf in
    let read = g.S.Source.faults c.args.source.now in
    let reads = g.S.Source.faults c.take_key.new.source in
    let back = g.H.Shelf.is_back c.turn-outcome.new.shelf in
    let is_due = IsDue party i c.args.moment in
    let is : c.with_value.result ≡ valued value o = c.with_value.ensures ∙ ap (λ (v : List ℕ). valued v o) c.in-Ok.ensures.value in
    let ends : Ends (valued value o) (10 ∷ []) s before after = subst (λ (x : Outcome). Ends x (10 ∷ []) s before after) is f.ends in
    let done = finished (Enter party key.peer key.label key.side) party s back (c.take_key.new.source ≡ c.args.source.now) old new (valued value o) (10 ∷ []) before after
    (WithValue value is_due) put puts disk disks refl refl ends (λ of. subst IsNoFailure is (f.answered of)) f.output.fault (gives_valued value (old party) is_due o r.due)
    (leaves_valued value party o (back party) old new disk disks r.shelf) (λ reading. absurd (cc reading)) in
    record {
      obeys = inr (part, c.in-Ok.ensures.read, record { outcome = o; turned = r.turned; safe = r.safe; ends = ends });
      expects = λ read_quiet put_quiet disk_quiet. expects_entered Key left rest s (λ part. Follows (old party) (IsDue party (Ordered (Load key.peer key.label key.side part.pair)) c.args.moment) s)
          part c.in-Ok.ensures.read (follows_valued value (old party) is_due s (done.expects put_quiet disk_quiet));
      others = done.others;
      cause = done.cause read reads;
      silent = f.output.silent;
      most = c.take_key.ensures.most;
    }
