use Rattle.std.proofs.Common.{◌≡◌, [], ◌∷◌, sym, ap, subst}
use Rattle.party_tables.specs.declared.link.LinkKey.{LinkKey}
use Rattle.x_line.specs.declared.order.Order.{Order}
use Rattle.x_pay.specs.Payments.{paying}
use Rattle.x_party.specs.Asking.{IsDueAnswer, value_answer}
use Rattle.x_party.specs.Dues.{IsDueCompaction, IsDueCreation, IsDueMigration, IsDueShow, IsDueWiping}
use Rattle.party_calls.specs.Obeys.{ExpectsCall, IsWithin, Obeys, ledger_of, party_of}
use Rattle.party_calls.proofs.Orders.{finished}
use Rattle.party_calls.proofs.BatchEnds.{outbox_leaves}
use Rattle.party_calls.proofs.Paying.{cause_paid, leaves_two, payment_follows, payment_rest}
use Rattle.party_calls.proofs.tending.tend.Goals as goal

pub returns-in-Init : goal.returns-in-Init
returns-in-Init g c =
    let is = c.in-Init.is in
    let r = c.create-outcome.ensures in
    let f = c.finish.ensures in
    let s = c.finish.result in
    let before = g.K.Sink.written c.args.sink.now in
    let after = g.K.Sink.written c.finish.new.sink in
    let old = g.H.Shelf.entry c.args.shelf.now in
    let new = g.H.Shelf.entry c.create-outcome.new.shelf in
    let done = finished c.args.order.now c.in-Init.party s (g.H.Shelf.is_back c.create-outcome.new.shelf) (Unit {0}) old new c.create-outcome.result [] before after IsDueCreation
    (g.K.Sink.faults c.args.sink.now) (g.K.Sink.faults c.finish.new.sink) (g.H.Shelf.faults c.args.shelf.now) (g.H.Shelf.faults c.create-outcome.new.shelf)
    (ap party_of is) (ap ledger_of is) f.ends f.answered f.output.fault r.due r.shelf (λ reading. tt) in
    record {
      obeys = λ moment left. subst (λ (o : Order). Obeys o moment s left left before after old new) (sym is) (record { outcome = c.create-outcome.result; created = r.created; nothing_written = r.nothing_written; any_moment = r.any_moment; tells = r.tells; ends = f.ends });
      expects = λ moment left put_quiet disk_quiet. subst (λ (o : Order). ExpectsCall o moment left old s) (sym is) (done.expects put_quiet disk_quiet);
      others = done.others;
      cause = done.cause;
      silent = f.output.silent;
    }

pub returns-in-Show : goal.returns-in-Show
returns-in-Show g c =
    let is = c.in-Show.is in
    let r = c.show.ensures in
    let f = c.finish-in-Show.ensures in
    let s = c.finish-in-Show.result in
    let before = g.K.Sink.written c.args.sink.now in
    let after = g.K.Sink.written c.finish-in-Show.new.sink in
    let old = g.H.Shelf.entry c.args.shelf.now in
    let new = g.H.Shelf.entry c.show.new.shelf in
    let done = finished c.args.order.now c.in-Show.party s (g.H.Shelf.is_back c.show.new.shelf) (Unit {0}) old new c.show.result [] before after IsDueShow
    (g.K.Sink.faults c.args.sink.now) (g.K.Sink.faults c.finish-in-Show.new.sink) (g.H.Shelf.faults c.args.shelf.now) (g.H.Shelf.faults c.show.new.shelf)
    (ap party_of is) (ap ledger_of is) f.ends f.answered f.output.fault r.due r.shelf (λ reading. tt) in
    record {
      obeys = λ moment left. subst (λ (o : Order). Obeys o moment s left left before after old new) (sym is) (record { outcome = c.show.result; shows = r.shown; untouched = r.untouched; ends = f.ends });
      expects = λ moment left put_quiet disk_quiet. subst (λ (o : Order). ExpectsCall o moment left old s) (sym is) (done.expects put_quiet disk_quiet);
      others = done.others;
      cause = done.cause;
      silent = f.output.silent;
    }

pub returns-in-Value : goal.returns-in-Value
returns-in-Value g c =
    let is = c.in-Value.is in
    let key : LinkKey = record { peer = c.in-Value.peer; label = c.in-Value.label; side = c.in-Value.side } in
    let r = c.value-outcome.ensures in
    let f = c.finish-in-Value.ensures in
    let s = c.finish-in-Value.result in
    let before = g.K.Sink.written c.args.sink.now in
    let after = g.K.Sink.written c.finish-in-Value.new.sink in
    let old = g.H.Shelf.entry c.args.shelf.now in
    let new = g.H.Shelf.entry c.value-outcome.new.shelf in
    let done = finished c.args.order.now c.in-Value.party s (g.H.Shelf.is_back c.value-outcome.new.shelf) (Unit {0}) old new c.value-outcome.result (10 ∷ []) before after (IsDueAnswer (value_answer key))
    (g.K.Sink.faults c.args.sink.now) (g.K.Sink.faults c.finish-in-Value.new.sink) (g.H.Shelf.faults c.args.shelf.now) (g.H.Shelf.faults c.value-outcome.new.shelf)
    (ap party_of is) (ap ledger_of is) f.ends f.answered f.output.fault r.due r.shelf (λ reading. tt) in
    record {
      obeys = λ moment left. subst (λ (o : Order). Obeys o moment s left left before after old new) (sym is) (record { outcome = c.value-outcome.result; asked = r.valued; untouched = r.untouched; ends = f.ends });
      expects = λ moment left put_quiet disk_quiet. subst (λ (o : Order). ExpectsCall o moment left old s) (sym is) (done.expects put_quiet disk_quiet);
      others = done.others;
      cause = done.cause;
      silent = f.output.silent;
    }

pub returns-in-Compact : goal.returns-in-Compact
returns-in-Compact g c =
    let is = c.in-Compact.is in
    let r = c.compact.ensures in
    let f = c.finish-in-Compact.ensures in
    let s = c.finish-in-Compact.result in
    let before = g.K.Sink.written c.args.sink.now in
    let after = g.K.Sink.written c.finish-in-Compact.new.sink in
    let old = g.H.Shelf.entry c.args.shelf.now in
    let new = g.H.Shelf.entry c.compact.new.shelf in
    let done = finished c.args.order.now c.in-Compact.party s (g.H.Shelf.is_back c.compact.new.shelf) (Unit {0}) old new c.compact.result [] before after IsDueCompaction
    (g.K.Sink.faults c.args.sink.now) (g.K.Sink.faults c.finish-in-Compact.new.sink) (g.H.Shelf.faults c.args.shelf.now) (g.H.Shelf.faults c.compact.new.shelf)
    (ap party_of is) (ap ledger_of is) f.ends f.answered f.output.fault r.due r.shelf (λ reading. tt) in
    record {
      obeys = λ moment left. subst (λ (o : Order). Obeys o moment s left left before after old new) (sym is) (record { outcome = c.compact.result; rewritten = r.compacted; safe = r.safe; ends = f.ends });
      expects = λ moment left put_quiet disk_quiet. subst (λ (o : Order). ExpectsCall o moment left old s) (sym is) (done.expects put_quiet disk_quiet);
      others = done.others;
      cause = done.cause;
      silent = f.output.silent;
    }

pub returns-in-Migrate : goal.returns-in-Migrate
returns-in-Migrate g c =
    let is = c.in-Migrate.is in
    let r = c.migrate.ensures in
    let f = c.finish-in-Migrate.ensures in
    let s = c.finish-in-Migrate.result in
    let before = g.K.Sink.written c.args.sink.now in
    let after = g.K.Sink.written c.finish-in-Migrate.new.sink in
    let old = g.H.Shelf.entry c.args.shelf.now in
    let new = g.H.Shelf.entry c.migrate.new.shelf in
    let done = finished c.args.order.now c.in-Migrate.party s (g.H.Shelf.is_back c.migrate.new.shelf) (Unit {0}) old new c.migrate.result [] before after IsDueMigration
    (g.K.Sink.faults c.args.sink.now) (g.K.Sink.faults c.finish-in-Migrate.new.sink) (g.H.Shelf.faults c.args.shelf.now) (g.H.Shelf.faults c.migrate.new.shelf)
    (ap party_of is) (ap ledger_of is) f.ends f.answered f.output.fault r.due r.shelf (λ reading. tt) in
    record {
      obeys = λ moment left. subst (λ (o : Order). Obeys o moment s left left before after old new) (sym is) (record { outcome = c.migrate.result; rewritten = r.migrated; safe = r.safe; ends = f.ends });
      expects = λ moment left put_quiet disk_quiet. subst (λ (o : Order). ExpectsCall o moment left old s) (sym is) (done.expects put_quiet disk_quiet);
      others = done.others;
      cause = done.cause;
      silent = f.output.silent;
    }

pub returns-in-Wipe : goal.returns-in-Wipe
returns-in-Wipe g c =
    let is = c.in-Wipe.is in
    let r = c.wipe.ensures in
    let f = c.finish-in-Wipe.ensures in
    let s = c.finish-in-Wipe.result in
    let before = g.K.Sink.written c.args.sink.now in
    let after = g.K.Sink.written c.finish-in-Wipe.new.sink in
    let old = g.H.Shelf.entry c.args.shelf.now in
    let new = g.H.Shelf.entry c.wipe.new.shelf in
    let done = finished c.args.order.now c.in-Wipe.party s (g.H.Shelf.is_back c.wipe.new.shelf) (Unit {0}) old new c.wipe.result [] before after IsDueWiping
    (g.K.Sink.faults c.args.sink.now) (g.K.Sink.faults c.finish-in-Wipe.new.sink) (g.H.Shelf.faults c.args.shelf.now) (g.H.Shelf.faults c.wipe.new.shelf)
    (ap party_of is) (ap ledger_of is) f.ends f.answered f.output.fault r.due r.shelf (λ reading. tt) in
    record {
      obeys = λ moment left. subst (λ (o : Order). Obeys o moment s left left before after old new) (sym is) (record { outcome = c.wipe.result; wiped = r.wiped; safe = r.safe; ends = f.ends });
      expects = λ moment left put_quiet disk_quiet. subst (λ (o : Order). ExpectsCall o moment left old s) (sym is) (done.expects put_quiet disk_quiet);
      others = done.others;
      cause = done.cause;
      silent = f.output.silent;
    }

pub pay-outcome-requires : goal.pay-outcome-requires
pay-outcome-requires g c = subst IsWithin c.in-Pay.is c.requires.within

pub returns-in-Pay : goal.returns-in-Pay
returns-in-Pay g c =
    let is = c.in-Pay.is in
    let party = c.in-Pay.party in
    let ledger = c.in-Pay.ledger in
    let w = paying c.in-Pay.peer c.in-Pay.name c.in-Pay.amount in
    let r = c.pay-outcome.ensures in
    let f = c.finish_payment.ensures in
    let s = c.finish_payment.result in
    let before = g.K.Sink.written c.args.sink.now in
    let after = g.K.Sink.written c.finish_payment.new.sink in
    let old = g.H.Shelf.entry c.args.shelf.now in
    let new = g.H.Shelf.entry c.pay-outcome.new.shelf in
    let put = g.K.Sink.faults c.args.sink.now in
    let puts = g.K.Sink.faults c.finish_payment.new.sink in
    let disk = g.H.Shelf.faults c.args.shelf.now in
    let disks = g.H.Shelf.faults c.pay-outcome.new.shelf in
    let rest = payment_rest c.pay-outcome.result s before after put puts disk disks f.ends f.output.fault party ledger (g.H.Shelf.is_back c.pay-outcome.new.shelf)
    (c.finish_payment.new.sink ≡ c.args.sink.now) old new r.shelf f.answered f.output.silent in
    record {
      obeys = λ moment left. subst (λ (o : Order). Obeys o moment s left left before after old new) (sym is) (record { outcome = c.pay-outcome.result; made = r.paid; safe = r.safe; ends = f.ends });
      expects = λ moment left put_quiet disk_quiet. subst (λ (o : Order). ExpectsCall o moment left old s) (sym is)
          (payment_follows c.pay-outcome.result s before after put puts disk disks f.ends f.output.fault w party (old party) (old ledger) r.due r.shelf.fault put_quiet disk_quiet);
      others = leaves_two c.args.order.now party ledger s (g.H.Shelf.is_back c.pay-outcome.new.shelf) (Unit {0}) (c.finish_payment.new.sink ≡ c.args.sink.now) old new put puts disk disks
          (ap party_of is) (ap ledger_of is) rest (λ reading. tt);
      cause = λ read reads. cause_paid read reads put puts disk disks c.pay-outcome.result s before after f.ends f.output.fault rest.disk_fault;
      silent = f.output.silent;
    }

pub compare-requires : goal.compare-requires
compare-requires g c = subst IsWithin c.in-Compare.is c.requires.within

pub returns-in-Compare : goal.returns-in-Compare
returns-in-Compare g c =
    let is = c.in-Compare.is in
    let party = c.in-Compare.party in
    let mirror = c.in-Compare.mirror in
    let r = c.compare.ensures in
    let s = c.compare.result in
    let before = g.K.Sink.written c.args.sink.now in
    let after = g.K.Sink.written c.compare.new.sink in
    let old = g.H.Shelf.entry c.args.shelf.now in
    let new = g.H.Shelf.entry c.compare.new.shelf in
    let put = g.K.Sink.faults c.args.sink.now in
    let puts = g.K.Sink.faults c.compare.new.sink in
    let disk = g.H.Shelf.faults c.args.shelf.now in
    let disks = g.H.Shelf.faults c.compare.new.shelf in
    record {
      obeys = λ moment left. subst (λ (o : Order). Obeys o moment s left left before after old new) (sym is) r.compared;
      expects = λ moment left put_quiet disk_quiet. subst (λ (o : Order). ExpectsCall o moment left old s) (sym is) (r.follows put_quiet disk_quiet);
      others = leaves_two c.args.order.now party mirror s (g.H.Shelf.is_back c.compare.new.shelf) (Unit {0}) (c.compare.new.sink ≡ c.args.sink.now) old new put puts disk disks
          (ap party_of is) (ap ledger_of is) r.rest (λ reading. tt);
      cause = r.cause;
      silent = r.rest.silent;
    }

pub returns-in-Outbox : goal.returns-in-Outbox
returns-in-Outbox g c =
    let is = c.in-Outbox.is in
    let name = c.in-Outbox.spool in
    let r = c.outbox.ensures in
    let s = c.outbox.result in
    let before = g.K.Sink.written c.args.sink.now in
    let after = g.K.Sink.written c.outbox.new.sink in
    let old = g.H.Shelf.entry c.args.shelf.now in
    let new = g.H.Shelf.entry c.outbox.new.shelf in
    let put = g.K.Sink.faults c.args.sink.now in
    let puts = g.K.Sink.faults c.outbox.new.sink in
    let disk = g.H.Shelf.faults c.args.shelf.now in
    let disks = g.H.Shelf.faults c.outbox.new.shelf in
    record {
      obeys = λ moment left. subst (λ (o : Order). Obeys o moment s left left before after old new) (sym is) r.told;
      expects = λ moment left put_quiet disk_quiet. subst (λ (o : Order). ExpectsCall o moment left old s) (sym is) (r.follows put_quiet disk_quiet);
      others = outbox_leaves c.args.order.now name s (g.H.Shelf.is_back c.outbox.new.shelf) (Unit {0}) (c.outbox.new.sink ≡ c.args.sink.now) old new put puts disk disks
          (ap party_of is) (ap ledger_of is) r.rest (λ reading. tt);
      cause = r.cause;
      silent = r.rest.silent;
    }
