use Rattle.std.proofs.Common.{◌≡◌, ◌∙◌, ℕ, List, [], ◌∷◌, inl, inr, refl, ap, subst}
use Rattle.x_disk.specs.Shelf.{alike_refl}
use Rattle.pair_check.specs.Values.{check_value_of}
use Rattle.key_parts.specs.declared.part.Form.TheVariants.{Generator}
use Rattle.x_line.specs.declared.order.Order.TheVariants.{Create}
use Rattle.x_party.specs.Outcomes.{IsNoFailure}
use Rattle.x_party.specs.declared.outcome.Outcome.{Outcome}
use Rattle.party_calls.specs.Ends.{Ends}
use Rattle.party_calls.specs.Entered.{valued}
use Rattle.party_calls.proofs.KeysEntered.{cause_of_none, leaves_pair_valued, not_of_party}
use Rattle.party_calls.proofs.Mirrors.{finished_of_two, left_all}
use Rattle.party_calls.proofs.entering_mirrored.create_mirrored.Goals as goal

pub returns-in-Err : goal.returns-in-Err
returns-in-Err g c =
    let s = c.in-Err.status in
    let none = c.in-Err.ensures.none in
    let left = g.S.Source.left c.args.source.now in
    let rest = g.S.Source.left c.take_key.new.source in
    let entry = g.H.Shelf.entry c.args.shelf.now in
    let put = g.K.Sink.faults c.args.sink.now in
    let disk = g.H.Shelf.faults c.args.shelf.now in
    record {
      obeys = λ moment. inl (none, (refl, λ name. alike_refl (entry name)));
      others = left_all (Create c.args.party c.args.role) c.args.mirror.now s (g.H.Shelf.is_back c.args.shelf.now) (c.take_key.new.source ≡ c.args.source.now) entry (not_of_party Generator left rest s none)
          (λ reading. absurd (cc reading));
      cause = cause_of_none Generator left rest s (g.S.Source.faults c.args.source.now) (g.S.Source.faults c.take_key.new.source) put put disk disk none c.in-Err.ensures.read_fault;
      silent = λ silent. refl;
      most = c.take_key.ensures.most;
    }

pub returns : goal.returns
returns g c =
    let party = c.args.party in
    let mirror = c.args.mirror.now in
    let part = c.in-Ok.entered.part in
    let r = c.create_pair-outcome.ensures in
    let f = c.finish.ensures in
    let o = c.create_pair-outcome.result in
    let s = c.finish.result in
    let value = check_value_of part.pair in
    let before = g.K.Sink.written c.args.sink.now in
    let after = g.K.Sink.written c.finish.new.sink in
    let old = g.H.Shelf.entry c.args.shelf.now in
    let new = g.H.Shelf.entry c.create_pair-outcome.new.shelf in
    let disk = g.H.Shelf.faults c.args.shelf.now in
    let disks = g.H.Shelf.faults c.create_pair-outcome.new.shelf in
    let back = g.H.Shelf.is_back c.create_pair-outcome.new.shelf in
    let is : c.with_value.result ≡ valued value o = c.with_value.ensures ∙ ap (λ (v : List ℕ). valued v o) c.in-Ok.ensures.value in
    let ends : Ends (valued value o) (10 ∷ []) s before after = subst (λ (x : Outcome). Ends x (10 ∷ []) s before after) is f.ends in
    let done = finished_of_two (Create party c.args.role) party mirror s back (c.take_key.new.source ≡ c.args.source.now) old new (valued value o) (10 ∷ []) before after
    (g.K.Sink.faults c.args.sink.now) (g.K.Sink.faults c.finish.new.sink) disk disks refl ends (λ of. subst IsNoFailure is (f.answered of)) f.output.fault
    (leaves_pair_valued value party mirror o (back party) (back mirror) old new disk disks r.shelf) (λ reading. absurd (cc reading)) in
    record {
      obeys = λ moment. inr (part, c.in-Ok.ensures.read, record { outcome = o; created = r.created; due = r.due; safe = r.safe; ends = ends });
      others = done.others;
      cause = done.cause (g.S.Source.faults c.args.source.now) (g.S.Source.faults c.take_key.new.source);
      silent = f.output.silent;
      most = c.take_key.ensures.most;
    }
