use Rattle.std.proofs.Common.{ℕ, List, Option, None, Err, ap, sym, subst}
use Rattle.x_disk.specs.declared.disk.DiskErr.{DiskErr}
use Rattle.x_party.specs.Dues.{GivesDue, IsDue}
use Rattle.x_party.specs.Outcomes.{LeavesShelf, TakesTurn}
use Rattle.x_party.specs.declared.outcome.Outcome.{Outcome}
use Rattle.party_state.specs.declared.command.Input.{Input}
use Rattle.x_party.specs.Notices.{FindsNotice, HasNotice, class_word, kept_notice}
use Rattle.x_party.proofs.Turns.{turned_before, safe_before, turned_unasked, safe_unasked, due_unasked, shelf_unasked, has_notice, no_notice}
use Rattle.x_party.proofs.noticing.turn_noticed.Goals as goal

pub returns-in-Ok-clause-turned : goal.returns-in-Ok-clause-turned
returns-in-Ok-clause-turned g c =
    let name = c.args.name.now in
    let old = g.H.Shelf.entry c.args.shelf.now name in
    let mid = g.H.Shelf.entry c.look.new.shelf name in
    let new = g.H.Shelf.entry c.turn-outcome.new.shelf name in
    subst (λ (o : Outcome). TakesTurn name old new c.args.input.now c.args.moment o) (sym c.of.ensures.outcome)
    (turned_before old mid new c.look.ensures.untouched name c.args.input.now c.args.moment c.turn-outcome.result c.turn-outcome.ensures.turned)

pub returns-in-Ok-clause-safe : goal.returns-in-Ok-clause-safe
returns-in-Ok-clause-safe g c =
    let name = c.args.name.now in
    safe_before (g.H.Shelf.entry c.args.shelf.now name) (g.H.Shelf.entry c.look.new.shelf name) (g.H.Shelf.entry c.turn-outcome.new.shelf name) c.look.ensures.untouched
    name c.args.input.now c.args.moment c.turn-outcome.ensures.safe

pub returns-in-Ok-clause-notice : goal.returns-in-Ok-clause-notice
returns-in-Ok-clause-notice g c = λ a. λ arrived. λ named.
    let old = g.H.Shelf.entry c.args.shelf.now c.args.name.now in
    let moment = c.args.moment in
    let notice = c.in-Ok.notice in
    let o = c.turn-outcome.result in
    let found = subst (λ (i : Input). FindsNotice old i (class_word a.parsed.message) moment notice) arrived
    (subst (λ (class : List ℕ). FindsNotice old c.args.input.now class moment notice) named c.in-Ok.ensures.notice) in
    subst (λ (n : Option (List ℕ)). HasNotice old a moment c.of.result.outcome n) (sym c.of.ensures.notice)
    (subst (λ (x : Outcome). HasNotice old a moment x (kept_notice o notice)) (sym c.of.ensures.outcome) (has_notice old a moment o notice found))

pub returns-in-Err : goal.returns-in-Err
returns-in-Err g c =
    let name = c.args.name.now in
    let entry = g.H.Shelf.entry c.args.shelf.now in
    let new = g.H.Shelf.entry c.look.new.shelf in
    let e = c.in-Err.error in
    let back = g.H.Shelf.is_back c.look.new.shelf name in
    let first = g.H.Shelf.faults c.args.shelf.now in
    let last = g.H.Shelf.faults c.look.new.shelf in
    let i = c.args.input.now in
    let is = sym c.from.ensures in
    record {
      turned = subst (λ (o : Outcome). TakesTurn name (entry name) (new name) i c.args.moment o) is (turned_unasked (entry name) (new name) c.look.ensures.untouched name i c.args.moment e);
      safe = safe_unasked (entry name) (new name) c.look.ensures.untouched name i c.args.moment;
      due = subst (λ (o : Outcome). GivesDue (entry name) (IsDue name i c.args.moment) o) is (due_unasked (entry name) (new name) c.look.ensures.untouched (IsDue name i c.args.moment) e);
      shelf = subst (λ (o : Outcome). LeavesShelf name o back entry new first last) is
          (shelf_unasked name back entry new first last e c.look.ensures.others c.look.ensures.later (λ same. c.in-Err.ensures.fault (ap (λ (x : DiskErr). Err x) same)));
      notice = λ a. λ arrived. λ named. subst (λ (o : Outcome). HasNotice (entry name) a c.args.moment o None) is (no_notice (entry name) a c.args.moment e);
    }
