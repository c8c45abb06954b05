use Rattle.std.proofs.Common.{◌≡◌, ◌∙◌, true, false, Some, refl, sym, ap, subst}
use Rattle.x_disk.specs.Shelf.{alike_refl}
use Rattle.x_line.specs.declared.order.Order.{Order}
use Rattle.call_ends.specs.Transfer.{TookAtMost}
use Rattle.call_ends.specs.Commands.{command_of}
use Rattle.party_calls.specs.Obeys.{ExpectsCall, IsWithin, LeavesOthers, Obeys, is_reading, ledger_of, most_of, party_of}
use Rattle.party_calls.proofs.Orders.{cause_checked, tended_of, took_nothing}
use Rattle.party_calls.proofs.Paying.{cause_accepted, leaves_two}
use Rattle.party_calls.proofs.Inboxes.{cause_made}
use Rattle.party_calls.proofs.BatchEnds.{cause_batched}
use Rattle.party_calls.proofs.obeying.obey.Goals as goal

pub returns-in-Check : goal.returns-in-Check
returns-in-Check g c =
    let is = c.in-Check.is in
    let r = c.check.ensures in
    let s = c.check.result in
    let left = g.S.Source.left c.args.source.now in
    let rest = g.S.Source.left c.check.new.source in
    let before = g.K.Sink.written c.args.sink.now in
    let after = g.K.Sink.written c.check.new.sink in
    let entry = g.H.Shelf.entry c.args.shelf.now in
    record {
      obeys = subst (λ (o : Order). Obeys o c.args.moment s left rest before after entry entry) (sym is) r.checked;
      expects = λ read_quiet put_quiet disk_quiet. subst (λ (o : Order). ExpectsCall o c.args.moment left entry s) (sym is) (r.exact read_quiet put_quiet);
      others = subst (λ (o : Order). LeavesOthers o s (g.H.Shelf.is_back c.args.shelf.now) (c.check.new.source ≡ c.args.source.now) entry entry) (sym is)
          (record { back = λ of. tt; ledger_back = λ of. tt; others = λ playing name. alike_refl (entry name); unread = λ reading. absurd (cc reading) });
      cause = cause_checked (g.S.Source.faults c.args.source.now) (g.S.Source.faults c.check.new.source) (g.K.Sink.faults c.args.sink.now) (g.K.Sink.faults c.check.new.sink)
          (g.H.Shelf.faults c.args.shelf.now) (g.H.Shelf.faults c.args.shelf.now) s left rest before after r.checked r.input.fault r.output.fault;
      silent = r.output.silent;
      most = subst (λ (o : Order). TookAtMost (most_of o) left rest) (sym is) r.input.most;
    }

pub returns-in-Take : goal.returns-in-Take
returns-in-Take g c =
    let is = c.in-Take.is in
    let r = c.take.ensures in
    let s = c.take.result in
    let left = g.S.Source.left c.args.source.now in
    let rest = g.S.Source.left c.take.new.source in
    let before = g.K.Sink.written c.args.sink.now in
    let after = g.K.Sink.written c.take.new.sink in
    let old = g.H.Shelf.entry c.args.shelf.now in
    let new = g.H.Shelf.entry c.take.new.shelf in
    record {
      obeys = subst (λ (o : Order). Obeys o c.args.moment s left rest before after old new) (sym is) r.obeys;
      expects = λ read_quiet put_quiet disk_quiet. subst (λ (o : Order). ExpectsCall o c.args.moment left old s) (sym is) (r.expects read_quiet put_quiet disk_quiet);
      others = subst (λ (o : Order). LeavesOthers o s (g.H.Shelf.is_back c.take.new.shelf) (c.take.new.source ≡ c.args.source.now) old new) (sym is) r.others;
      cause = r.cause;
      silent = r.silent;
      most = subst (λ (o : Order). TookAtMost (most_of o) left rest) (sym is) r.most;
    }

pub accept-requires : goal.accept-requires
accept-requires g c = subst IsWithin c.in-Accept.is c.requires.within

pub returns-in-Accept : goal.returns-in-Accept
returns-in-Accept g c =
    let is = c.in-Accept.is in
    let party = c.in-Accept.party in
    let ledger = c.in-Accept.ledger in
    let r = c.accept.ensures in
    let s = c.accept.result in
    let left = g.S.Source.left c.args.source.now in
    let rest = g.S.Source.left c.accept.new.source in
    let before = g.K.Sink.written c.args.sink.now in
    let after = g.K.Sink.written c.accept.new.sink in
    let old = g.H.Shelf.entry c.args.shelf.now in
    let new = g.H.Shelf.entry c.accept.new.shelf in
    let put = g.K.Sink.faults c.args.sink.now in
    let puts = g.K.Sink.faults c.accept.new.sink in
    let disk = g.H.Shelf.faults c.args.shelf.now in
    let disks = g.H.Shelf.faults c.accept.new.shelf in
    record {
      obeys = subst (λ (o : Order). Obeys o c.args.moment s left rest before after old new) (sym is) r.accepted;
      expects = λ read_quiet put_quiet disk_quiet. subst (λ (o : Order). ExpectsCall o c.args.moment left old s) (sym is) (r.follows read_quiet put_quiet disk_quiet);
      others = leaves_two c.args.order party ledger s (g.H.Shelf.is_back c.accept.new.shelf) (c.accept.new.source ≡ c.args.source.now) (c.accept.new.sink ≡ c.args.sink.now) old new put puts disk disks
          (ap party_of is) (ap ledger_of is) r.rest (λ reading. (let e : is_reading c.args.order ≡ true = ap is_reading is in let no : true ≡ false = sym e ∙ reading in absurd cc));
      cause = cause_accepted (g.S.Source.faults c.args.source.now) (g.S.Source.faults c.accept.new.source) put puts disk disks party ledger left rest old new s before after r.accepted
          r.input.fault r.rest.write_fault r.rest.disk_fault;
      silent = r.rest.silent;
      most = subst (λ (o : Order). TookAtMost (most_of o) left rest) (sym is) r.input.most;
    }

pub returns-in-Create : goal.returns-in-Create
returns-in-Create g c =
    let is = c.in-Create.is in
    let r = c.create.ensures in
    let s = c.create.result in
    let left = g.S.Source.left c.args.source.now in
    let rest = g.S.Source.left c.create.new.source in
    let before = g.K.Sink.written c.args.sink.now in
    let after = g.K.Sink.written c.create.new.sink in
    let old = g.H.Shelf.entry c.args.shelf.now in
    let new = g.H.Shelf.entry c.create.new.shelf in
    record {
      obeys = subst (λ (o : Order). Obeys o c.args.moment s left rest before after old new) (sym is) (r.obeys c.args.moment);
      expects = λ read_quiet put_quiet disk_quiet. subst (λ (o : Order). ExpectsCall o c.args.moment left old s) (sym is) (r.expects c.args.moment read_quiet put_quiet disk_quiet);
      others = subst (λ (o : Order). LeavesOthers o s (g.H.Shelf.is_back c.create.new.shelf) (c.create.new.source ≡ c.args.source.now) old new) (sym is) r.others;
      cause = r.cause;
      silent = r.silent;
      most = subst (λ (o : Order). TookAtMost (most_of o) left rest) (sym is) r.most;
    }

pub returns-in-Enter : goal.returns-in-Enter
returns-in-Enter g c =
    let is = c.in-Enter.is in
    let r = c.enter.ensures in
    let s = c.enter.result in
    let left = g.S.Source.left c.args.source.now in
    let rest = g.S.Source.left c.enter.new.source in
    let before = g.K.Sink.written c.args.sink.now in
    let after = g.K.Sink.written c.enter.new.sink in
    let old = g.H.Shelf.entry c.args.shelf.now in
    let new = g.H.Shelf.entry c.enter.new.shelf in
    record {
      obeys = subst (λ (o : Order). Obeys o c.args.moment s left rest before after old new) (sym is) r.obeys;
      expects = λ read_quiet put_quiet disk_quiet. subst (λ (o : Order). ExpectsCall o c.args.moment left old s) (sym is) (r.expects read_quiet put_quiet disk_quiet);
      others = subst (λ (o : Order). LeavesOthers o s (g.H.Shelf.is_back c.enter.new.shelf) (c.enter.new.source ≡ c.args.source.now) old new) (sym is) r.others;
      cause = r.cause;
      silent = r.silent;
      most = subst (λ (o : Order). TookAtMost (most_of o) left rest) (sym is) r.most;
    }

pub spool-requires : goal.spool-requires
spool-requires g c = subst IsWithin c.in-Spool.is c.requires.within

pub returns-in-Spool : goal.returns-in-Spool
returns-in-Spool g c =
    let is = c.in-Spool.is in
    let party = c.in-Spool.party in
    let name = c.in-Spool.name in
    let r = c.spool.ensures in
    let s = c.spool.result in
    let left = g.S.Source.left c.args.source.now in
    let rest = g.S.Source.left c.spool.new.source in
    let before = g.K.Sink.written c.args.sink.now in
    let after = g.K.Sink.written c.spool.new.sink in
    let old = g.H.Shelf.entry c.args.shelf.now in
    let new = g.H.Shelf.entry c.spool.new.shelf in
    let put = g.K.Sink.faults c.args.sink.now in
    let puts = g.K.Sink.faults c.spool.new.sink in
    let disk = g.H.Shelf.faults c.args.shelf.now in
    let disks = g.H.Shelf.faults c.spool.new.shelf in
    record {
      obeys = subst (λ (o : Order). Obeys o c.args.moment s left rest before after old new) (sym is) r.batched;
      expects = λ read_quiet put_quiet disk_quiet. subst (λ (o : Order). ExpectsCall o c.args.moment left old s) (sym is) (r.follows read_quiet put_quiet disk_quiet);
      others = leaves_two c.args.order party name s (g.H.Shelf.is_back c.spool.new.shelf) (c.spool.new.source ≡ c.args.source.now) (c.spool.new.sink ≡ c.args.sink.now) old new put puts disk disks
          (ap party_of is) (ap ledger_of is) r.rest (λ reading. (let e : is_reading c.args.order ≡ true = ap is_reading is in let no : true ≡ false = sym e ∙ reading in absurd cc));
      cause = cause_batched (g.S.Source.faults c.args.source.now) (g.S.Source.faults c.spool.new.source) put puts disk disks party name left rest old new s before after r.batched
          r.input.fault r.rest.write_fault r.rest.disk_fault;
      silent = r.rest.silent;
      most = subst (λ (o : Order). TookAtMost (most_of o) left rest) (sym is) r.input.most;
    }

pub returns-in-Batch : goal.returns-in-Batch
returns-in-Batch g c =
    let is = c.in-Batch.is in
    let r = c.batch.ensures in
    let s = c.batch.result in
    let left = g.S.Source.left c.args.source.now in
    let rest = g.S.Source.left c.batch.new.source in
    let before = g.K.Sink.written c.args.sink.now in
    let after = g.K.Sink.written c.batch.new.sink in
    let entry = g.H.Shelf.entry c.args.shelf.now in
    record {
      obeys = subst (λ (o : Order). Obeys o c.args.moment s left rest before after entry entry) (sym is) r.made;
      expects = λ read_quiet put_quiet disk_quiet. subst (λ (o : Order). ExpectsCall o c.args.moment left entry s) (sym is) (r.follows read_quiet put_quiet);
      others = subst (λ (o : Order). LeavesOthers o s (g.H.Shelf.is_back c.args.shelf.now) (c.batch.new.source ≡ c.args.source.now) entry entry) (sym is)
          (record { back = λ of. tt; ledger_back = λ of. tt; others = λ playing name. alike_refl (entry name); unread = λ reading. absurd (cc reading) });
      cause = cause_made (g.S.Source.faults c.args.source.now) (g.S.Source.faults c.batch.new.source) (g.K.Sink.faults c.args.sink.now) (g.K.Sink.faults c.batch.new.sink)
          (g.H.Shelf.faults c.args.shelf.now) (g.H.Shelf.faults c.args.shelf.now) c.args.moment left rest s before after r.made r.input.fault r.output.fault;
      silent = r.output.silent;
      most = subst (λ (o : Order). TookAtMost (most_of o) left rest) (sym is) r.input.most;
    }

pub returns-in-Some : goal.returns-in-Some
returns-in-Some g c =
    let i = c.in-Some.is in
    let e = c.command_of.ensures in
    let is : command_of c.args.order ≡ Some c.in-Some.given = cc in
    let r = c.command.ensures in
    let left = g.S.Source.left c.args.source.now in
    let reads = g.S.Source.faults c.args.source.now in
    let others = r.others c.args.order is in
    record {
      obeys = r.obeys c.args.order left is;
      expects = λ read_quiet put_quiet disk_quiet. r.expects c.args.order left is put_quiet disk_quiet;
      others = record { back = others.back; ledger_back = others.ledger_back; others = others.others; unread = λ reading. refl };
      cause = r.cause reads reads;
      silent = r.silent;
      most = took_nothing (most_of c.args.order) left;
    }

pub tend-requires-clause-within : goal.tend-requires-clause-within
tend-requires-clause-within g c = c.requires.within

pub tend-requires-clause-tended : goal.tend-requires-clause-tended
tend-requires-clause-tended g c =
    let i = c.in-None.is in
    let e = c.command_of.ensures in
    tended_of c.args.order c.in_default.not-Check c.requires.replays c.requires.audits c.requires.drills c.in_default.not-Take c.in_default.not-Accept c.in_default.not-Create c.in_default.not-Enter c.in_default.not-Batch c.in_default.not-Spool cc

pub returns-in-None : goal.returns-in-None
returns-in-None g c =
    let r = c.tend.ensures in
    let left = g.S.Source.left c.args.source.now in
    let reads = g.S.Source.faults c.args.source.now in
    record {
      obeys = r.obeys c.args.moment left;
      expects = λ read_quiet put_quiet disk_quiet. r.expects c.args.moment left put_quiet disk_quiet;
      others = record { back = r.others.back; ledger_back = r.others.ledger_back; others = r.others.others; unread = λ reading. refl };
      cause = r.cause reads reads;
      silent = r.silent;
      most = took_nothing (most_of c.args.order) left;
    }
