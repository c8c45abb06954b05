use Rattle.std.proofs.Common.{◌≡◌, ◌∙◌, ℕ, List, Option, refl, sym, subst}
use Rattle.x_disk.specs.Shelf.{alike_refl}
use Rattle.x_line.specs.declared.order.Order.{Order}
use Rattle.x_line.specs.declared.order.Order.TheVariants as order
use Rattle.call_ends.specs.Transfer.{TookAtMost}
use Rattle.party_calls.specs.Notice.{LeavesNotice}
use Rattle.party_calls.specs.Obeys.{Obeys, LeavesOthers, IsWithin, most_of}
use Rattle.party_calls.proofs.Noticing.{none_left}
use Rattle.party_calls.proofs.Orders.{took_nothing}
use Rattle.x917.specs.Expects.{Expects, IsSilentOf}
use Rattle.x917.proofs.Audits.{cause_audited}
use Rattle.x917.proofs.Played.{cause_played, cause_drilled, expects_of, silent_of}
use Rattle.x917.proofs.carrying.carry_out.Goals as goal

pub returns-in-Replay : goal.returns-in-Replay
returns-in-Replay g c =
    let is = c.in-Replay.is in
    let r = c.replay_all.ensures in
    let s = c.replay_all.result in
    let left = g.S.Source.left c.args.source.now in
    let rest = g.S.Source.left c.replay_all.new.source in
    let before = g.K.Sink.written c.args.sink.now in
    let after = g.K.Sink.written c.replay_all.new.sink in
    let old = g.H.Shelf.entry c.args.shelf.now in
    let new = g.H.Shelf.entry c.replay_all.new.shelf in
    record {
      obeys = subst (λ (o : Order). Obeys o c.args.moment s left rest before after old new) (sym is) tt;
      expects = λ read_quiet put_quiet disk_quiet. subst (λ (o : Order). Expects o c.args.moment left old s) (sym is) (r.expects read_quiet put_quiet disk_quiet);
      others = subst (λ (o : Order). LeavesOthers o s (g.H.Shelf.is_back c.replay_all.new.shelf) (c.replay_all.new.source ≡ c.args.source.now) old new) (sym is)
          (record { back = λ of. tt; ledger_back = λ of. tt; others = λ playing. absurd (cc playing); unread = λ reading. absurd (cc reading) });
      cause = cause_played (g.S.Source.faults c.args.source.now) (g.S.Source.faults c.replay_all.new.source) (g.K.Sink.faults c.args.sink.now) (g.K.Sink.faults c.replay_all.new.sink)
          (g.H.Shelf.faults c.args.shelf.now) (g.H.Shelf.faults c.replay_all.new.shelf) s left rest before after old new r.replays r.input.fault r.output.fault r.disk_fault;
      silent = λ silent. r.output.silent (subst (λ (o : Order). IsSilentOf o s) is silent);
      most = subst (λ (o : Order). TookAtMost (most_of o) left rest) (sym is) r.input.most;
      replays = λ same. r.replays;
      drills = λ seed events same. (let no : order.Replay ≡ order.Drill seed events = sym is ∙ same in absurd cc);
      audits = λ same. (let no : order.Replay ≡ order.Audit = sym is ∙ same in absurd cc);
      notice = subst (λ (n : Option (List ℕ)). LeavesNotice c.args.tell c.args.order c.args.moment s left old n) (sym c.requires.none)
          (none_left c.args.tell c.args.order (λ party wanted same. (let no : order.Replay ≡ order.Take party = sym is ∙ same in absurd cc)) c.args.moment s left old);
    }

pub returns-in-Drill : goal.returns-in-Drill
returns-in-Drill g c =
    let is = c.in-Drill.is in
    let r = c.drill_all.ensures in
    let s = c.drill_all.result in
    let left = g.S.Source.left c.args.source.now in
    let reads = g.S.Source.faults c.args.source.now in
    let before = g.K.Sink.written c.args.sink.now in
    let after = g.K.Sink.written c.drill_all.new.sink in
    let entry = g.H.Shelf.entry c.args.shelf.now in
    let disks = g.H.Shelf.faults c.args.shelf.now in
    record {
      obeys = subst (λ (o : Order). Obeys o c.args.moment s left left before after entry entry) (sym is) tt;
      expects = λ read_quiet put_quiet disk_quiet. subst (λ (o : Order). Expects o c.args.moment left entry s) (sym is) (r.expects put_quiet);
      others = subst (λ (o : Order). LeavesOthers o s (g.H.Shelf.is_back c.args.shelf.now) (c.args.source.now ≡ c.args.source.now) entry entry) (sym is)
          (record { back = λ of. tt; ledger_back = λ of. tt; others = λ playing name. alike_refl (entry name); unread = λ reading. refl });
      cause = cause_drilled reads reads (g.K.Sink.faults c.args.sink.now) (g.K.Sink.faults c.drill_all.new.sink) disks disks _ c.in-Drill.seed c.in-Drill.events s before after r.drills r.output.fault;
      silent = λ silent. r.output.silent (subst (λ (o : Order). IsSilentOf o s) is silent);
      most = subst (λ (o : Order). TookAtMost (most_of o) left left) (sym is) (took_nothing 0 left);
      replays = λ same. (let no : order.Drill c.in-Drill.seed c.in-Drill.events ≡ order.Replay = sym is ∙ same in absurd cc);
      drills = λ seed events same.
          (let both : order.Drill c.in-Drill.seed c.in-Drill.events ≡ order.Drill seed events = sym is ∙ same in
          let first : c.in-Drill.seed ≡ seed = cc in
          let second : c.in-Drill.events ≡ events = cc in
          (rw (← first, ← second) r.drills, refl, refl));
      audits = λ same. (let no : order.Drill c.in-Drill.seed c.in-Drill.events ≡ order.Audit = sym is ∙ same in absurd cc);
      notice = subst (λ (n : Option (List ℕ)). LeavesNotice c.args.tell c.args.order c.args.moment s left entry n) (sym c.requires.none)
          (none_left c.args.tell c.args.order (λ party wanted same. (let no : order.Drill c.in-Drill.seed c.in-Drill.events ≡ order.Take party = sym is ∙ same in absurd cc)) c.args.moment s left entry);
    }

pub drill_all-requires-clause-low : goal.drill_all-requires-clause-low
drill_all-requires-clause-low g c = (subst IsWithin c.in-Drill.is c.requires.within).0

pub drill_all-requires-clause-high : goal.drill_all-requires-clause-high
drill_all-requires-clause-high g c = (subst IsWithin c.in-Drill.is c.requires.within).1

pub returns-in-Audit : goal.returns-in-Audit
returns-in-Audit g c =
    let is = c.in-Audit.is in
    let r = c.audit_all.ensures in
    let s = c.audit_all.result in
    let left = g.S.Source.left c.args.source.now in
    let rest = g.S.Source.left c.audit_all.new.source in
    let before = g.K.Sink.written c.args.sink.now in
    let after = g.K.Sink.written c.audit_all.new.sink in
    let entry = g.H.Shelf.entry c.args.shelf.now in
    record {
      obeys = subst (λ (o : Order). Obeys o c.args.moment s left rest before after entry entry) (sym is) tt;
      expects = λ read_quiet put_quiet disk_quiet. subst (λ (o : Order). Expects o c.args.moment left entry s) (sym is) (r.expects read_quiet put_quiet);
      others = subst (λ (o : Order). LeavesOthers o s (g.H.Shelf.is_back c.args.shelf.now) (c.audit_all.new.source ≡ c.args.source.now) entry entry) (sym is)
          (record { back = λ of. tt; ledger_back = λ of. tt; others = λ playing name. alike_refl (entry name); unread = λ reading. absurd (cc reading) });
      cause = cause_audited (g.S.Source.faults c.args.source.now) (g.S.Source.faults c.audit_all.new.source) (g.K.Sink.faults c.args.sink.now) (g.K.Sink.faults c.audit_all.new.sink)
          (g.H.Shelf.faults c.args.shelf.now) (g.H.Shelf.faults c.args.shelf.now) s left rest before after r.audits r.input.fault r.output.fault;
      silent = λ silent. r.output.silent (subst (λ (o : Order). IsSilentOf o s) is silent);
      most = subst (λ (o : Order). TookAtMost (most_of o) left rest) (sym is) r.input.most;
      replays = λ same. (let no : order.Audit ≡ order.Replay = sym is ∙ same in absurd cc);
      drills = λ seed events same. (let no : order.Audit ≡ order.Drill seed events = sym is ∙ same in absurd cc);
      audits = λ same. (r.audits, refl);
      notice = subst (λ (n : Option (List ℕ)). LeavesNotice c.args.tell c.args.order c.args.moment s left entry n) (sym c.requires.none)
          (none_left c.args.tell c.args.order (λ party wanted same. (let no : order.Audit ≡ order.Take party = sym is ∙ same in absurd cc)) c.args.moment s left entry);
    }

pub returns-in_default : goal.returns-in_default
returns-in_default g c =
    let o = c.args.order in
    let s = c.obey-in_default.result in
    let r = c.obey-in_default.ensures in
    let left = g.S.Source.left c.args.source.now in
    let old = g.H.Shelf.entry c.args.shelf.now in
    record {
      obeys = r.obeys;
      expects = λ read_quiet put_quiet disk_quiet. expects_of o c.args.moment left old s
          c.in_default.not-Replay c.in_default.not-Audit c.in_default.not-Drill (r.expects read_quiet put_quiet disk_quiet);
      others = r.others;
      cause = r.cause;
      silent = λ silent. r.silent (silent_of o s c.in_default.not-Replay silent);
      most = r.most;
      replays = λ same. absurd (c.in_default.not-Replay same);
      drills = λ seed events same. absurd (c.in_default.not-Drill seed events same);
      audits = λ same. absurd (c.in_default.not-Audit same);
      notice = subst (λ (n : Option (List ℕ)). LeavesNotice c.args.tell o c.args.moment s left old n) (sym c.requires.none)
          (none_left c.args.tell o (λ party wanted same. c.in_default.not-Take party same) c.args.moment s left old);
    }
