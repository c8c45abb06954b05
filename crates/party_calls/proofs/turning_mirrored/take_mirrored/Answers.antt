use Rattle.std.proofs.Common.{◌≡◌, Some, [], ◌∷◌, inl, inr, refl, sym, subst}
use Rattle.x_disk.specs.Shelf.{alike_refl}
use Rattle.party_state.specs.declared.command.Input.TheVariants.{Arrived}
use Rattle.x_line.specs.declared.order.Order.TheVariants as order
use Rattle.x_pair.specs.Dues.{IsDueTurn}
use Rattle.x_pair.specs.Outcomes.{turning}
use Rattle.party_calls.specs.Ends.{IsOfParty}
use Rattle.party_calls.specs.Mirrored.{IsPairCall}
use Rattle.party_calls.specs.Notice.{LeavesMirroredNotice}
use Rattle.party_calls.proofs.Arriving.{none_told}
use Rattle.party_calls.proofs.Mirrors.{finished_of_two, left_all}
use Rattle.party_calls.proofs.Noticing.{leaves_of_two, none_of_two_unread}
use Rattle.party_calls.proofs.Orders.{cause_unheard}
use Rattle.party_calls.proofs.turning_mirrored.take_mirrored.Goals as goal

pub returns-in-Err : goal.returns-in-Err
returns-in-Err g c =
    let party = c.args.party.now in
    let mirror = c.args.mirror.now in
    let s = c.in-Err.status in
    let unheard = c.in-Err.ensures.unheard in
    let left = g.S.Source.left c.args.source.now in
    let entry = g.H.Shelf.entry c.args.shelf.now in
    let puts = g.K.Sink.faults c.args.sink.now in
    let disks = g.H.Shelf.faults c.args.shelf.now in
    record {
      obeys = inl (unheard, refl, λ name. alike_refl (entry name));
      others = left_all (order.Take party) mirror s (g.H.Shelf.is_back c.args.shelf.now) (c.listen.new.source ≡ c.args.source.now) entry (λ of. none_told left s unheard of) (λ reading. absurd (cc reading));
      cause = cause_unheard (g.S.Source.faults c.args.source.now) (g.S.Source.faults c.listen.new.source) puts puts disks disks left s unheard c.in-Err.ensures.read_fault;
      silent = λ silent. refl;
      most = c.listen.ensures.most;
      notice = subst (λ n. LeavesMirroredNotice c.args.tell (order.Take party) mirror c.args.moment s left entry n) (sym c.requires.none)
          (none_of_two_unread c.args.tell party mirror c.args.moment s left entry (λ is. none_told left s unheard (subst IsOfParty (sym is) tt)));
    }

pub returns : goal.returns
returns g c =
    let party = c.args.party.now in
    let mirror = c.args.mirror.now in
    let r = c.turn_told-turn.ensures in
    let o = c.turn_told-turn.result.outcome in
    let f = c.finish-status.ensures in
    let s = c.finish-status.result in
    let i = Arrived c.in-Ok.arrival in
    let left = g.S.Source.left c.args.source.now in
    let rest = g.S.Source.left c.listen.new.source in
    let before = g.K.Sink.written c.args.sink.now in
    let after = g.K.Sink.written c.finish-status.new.sink in
    let old = g.H.Shelf.entry c.args.shelf.now in
    let new = g.H.Shelf.entry c.turn_told-turn.new.shelf in
    let done = finished_of_two (order.Take party) party mirror s (g.H.Shelf.is_back c.turn_told-turn.new.shelf) (c.listen.new.source ≡ c.args.source.now) old new o (10 ∷ []) before after
    (g.K.Sink.faults c.args.sink.now) (g.K.Sink.faults c.finish-status.new.sink) (g.H.Shelf.faults c.args.shelf.now) (g.H.Shelf.faults c.turn_told-turn.new.shelf)
    refl f.ends f.answered f.output.fault r.shelf (λ reading. absurd (cc reading)) in
    let call : IsPairCall (turning party i c.args.moment) (IsDueTurn party i c.args.moment) (10 ∷ []) party mirror old new s before after = record { outcome = o; made = r.turned; due = r.due; safe = r.safe; ends = f.ends } in
    record {
      obeys = inr (c.in-Ok.arrival, c.in-Ok.ensures.heard, call);
      others = done.others;
      cause = done.cause (g.S.Source.faults c.args.source.now) (g.S.Source.faults c.listen.new.source);
      silent = f.output.silent;
      most = c.listen.ensures.most;
      notice = subst (λ n. LeavesMirroredNotice c.args.tell (order.Take party) mirror c.args.moment s left old n) (sym c.notice_at.ensures)
          (leaves_of_two party c.args.moment c.in-Ok.arrival (rest ≡ Some []) left old c.in-Ok.ensures.heard mirror c.args.tell s o c.turn_told-turn.result.notice before after f.ends r.notice r.no_notice);
    }
