use Rattle.std.proofs.Common.{◌≡◌, ◌∙◌, Some, None, [], refl, sym, ap, subst}
use Rattle.x_line.specs.declared.order.Order.{Order}
use Rattle.x_line.specs.declared.order.Order.TheVariants as order
use Rattle.x_line.specs.Orders.{IsOfTwo}
use Rattle.call_ends.specs.Transfer.{TookAtMost}
use Rattle.party_calls.specs.Mirrored.{LeavesMirrored, ObeysMirrored}
use Rattle.party_calls.specs.Notice.{LeavesMirroredNotice}
use Rattle.call_ends.specs.Commands.{command_of}
use Rattle.party_calls.specs.Obeys.{most_of, party_of}
use Rattle.party_calls.proofs.Mirrors.{command_of_two, commands_of_two, finished_of_two}
use Rattle.party_calls.proofs.Noticing.{none_left_of_two}
use Rattle.party_calls.proofs.Orders.{took_nothing}
use Rattle.party_calls.proofs.mirrored.carry_out_mirrored.Goals as goal

pub create_pair-outcome-requires : goal.create_pair-outcome-requires
create_pair-outcome-requires g c = subst (λ (o : Order). IsOfTwo o c.args.mirror.now) c.in-Init.is c.requires

pub show_pair-outcome-requires : goal.show_pair-outcome-requires
show_pair-outcome-requires g c = subst (λ (o : Order). IsOfTwo o c.args.mirror.now) c.in-Show.is c.requires

pub take_mirrored-requires-clause-two : goal.take_mirrored-requires-clause-two
take_mirrored-requires-clause-two g c = subst (λ (o : Order). IsOfTwo o c.args.mirror.now) c.in-Take.is c.requires

pub command_mirrored-requires : goal.command_mirrored-requires
command_mirrored-requires g c =
    let i = c.in-Some.is in
    let e = c.command_of.ensures in
    let is : command_of c.args.order ≡ Some c.in-Some.given = cc in
    (command_of_two c.in-Some.given c.args.mirror.now c.args.order c.requires is).apart

pub returns-in-Init : goal.returns-in-Init
returns-in-Init g c =
    let is = c.in-Init.is in
    let party = c.in-Init.party in
    let mirror = c.args.mirror.now in
    let r = c.create_pair-outcome.ensures in
    let f = c.finish.ensures in
    let s = c.finish.result in
    let left = g.S.Source.left c.args.source.now in
    let reads = g.S.Source.faults c.args.source.now in
    let before = g.K.Sink.written c.args.sink.now in
    let after = g.K.Sink.written c.finish.new.sink in
    let old = g.H.Shelf.entry c.args.shelf.now in
    let new = g.H.Shelf.entry c.create_pair-outcome.new.shelf in
    let done = finished_of_two c.args.order party mirror s (g.H.Shelf.is_back c.create_pair-outcome.new.shelf) (c.args.source.now ≡ c.args.source.now) old new c.create_pair-outcome.result [] before after
    (g.K.Sink.faults c.args.sink.now) (g.K.Sink.faults c.finish.new.sink) (g.H.Shelf.faults c.args.shelf.now) (g.H.Shelf.faults c.create_pair-outcome.new.shelf)
    (ap party_of is) f.ends f.answered f.output.fault r.shelf (λ reading. refl) in
    record {
      obeys = subst (λ (o : Order). ObeysMirrored o mirror c.args.moment s left left before after old new) (sym is)
          (record { outcome = c.create_pair-outcome.result; created = r.created; due = r.due; safe = r.safe; ends = f.ends });
      others = done.others;
      cause = done.cause reads reads;
      silent = f.output.silent;
      most = took_nothing (most_of c.args.order) left;
      notice = none_left_of_two c.args.tell c.args.order (λ p wanted same. (let no : order.Init c.in-Init.party c.in-Init.role c.in-Init.key c.in-Init.v ≡ order.Take p = sym is ∙ same in absurd cc)) mirror c.args.moment s left old;
    }

pub create_mirrored-requires : goal.create_mirrored-requires
create_mirrored-requires g c = subst (λ (o : Order). IsOfTwo o c.args.mirror.now) c.in-Create.is c.requires

pub returns-in-Create : goal.returns-in-Create
returns-in-Create g c =
    let is = c.in-Create.is in
    let mirror = c.args.mirror.now in
    let r = c.create_mirrored.ensures in
    let s = c.create_mirrored.result in
    let left = g.S.Source.left c.args.source.now in
    let rest = g.S.Source.left c.create_mirrored.new.source in
    let before = g.K.Sink.written c.args.sink.now in
    let after = g.K.Sink.written c.create_mirrored.new.sink in
    let old = g.H.Shelf.entry c.args.shelf.now in
    let new = g.H.Shelf.entry c.create_mirrored.new.shelf in
    record {
      obeys = subst (λ (o : Order). ObeysMirrored o mirror c.args.moment s left rest before after old new) (sym is) (r.obeys c.args.moment);
      others = subst (λ (o : Order). LeavesMirrored o mirror s (g.H.Shelf.is_back c.create_mirrored.new.shelf) (c.create_mirrored.new.source ≡ c.args.source.now) old new) (sym is) r.others;
      cause = r.cause;
      silent = r.silent;
      most = subst (λ (o : Order). TookAtMost (most_of o) left rest) (sym is) r.most;
      notice = none_left_of_two c.args.tell c.args.order (λ p wanted same. (let no : order.Create c.in-Create.party c.in-Create.role ≡ order.Take p = sym is ∙ same in absurd cc)) mirror c.args.moment s left old;
    }

pub enter_mirrored-requires : goal.enter_mirrored-requires
enter_mirrored-requires g c = subst (λ (o : Order). IsOfTwo o c.args.mirror.now) c.in-Enter.is c.requires

pub returns-in-Enter : goal.returns-in-Enter
returns-in-Enter g c =
    let is = c.in-Enter.is in
    let mirror = c.args.mirror.now in
    let r = c.enter_mirrored.ensures in
    let s = c.enter_mirrored.result in
    let left = g.S.Source.left c.args.source.now in
    let rest = g.S.Source.left c.enter_mirrored.new.source in
    let before = g.K.Sink.written c.args.sink.now in
    let after = g.K.Sink.written c.enter_mirrored.new.sink in
    let old = g.H.Shelf.entry c.args.shelf.now in
    let new = g.H.Shelf.entry c.enter_mirrored.new.shelf in
    record {
      obeys = subst (λ (o : Order). ObeysMirrored o mirror c.args.moment s left rest before after old new) (sym is) r.obeys;
      others = subst (λ (o : Order). LeavesMirrored o mirror s (g.H.Shelf.is_back c.enter_mirrored.new.shelf) (c.enter_mirrored.new.source ≡ c.args.source.now) old new) (sym is) r.others;
      cause = r.cause;
      silent = r.silent;
      most = subst (λ (o : Order). TookAtMost (most_of o) left rest) (sym is) r.most;
      notice = none_left_of_two c.args.tell c.args.order (λ p wanted same. (let no : order.Enter c.in-Enter.party c.in-Enter.peer c.in-Enter.label c.in-Enter.side ≡ order.Take p = sym is ∙ same in absurd cc)) mirror c.args.moment s left old;
    }

pub returns-in-Show : goal.returns-in-Show
returns-in-Show g c =
    let is = c.in-Show.is in
    let party = c.in-Show.party in
    let mirror = c.args.mirror.now in
    let r = c.show_pair-outcome.ensures in
    let f = c.finish-in-Show.ensures in
    let s = c.finish-in-Show.result in
    let left = g.S.Source.left c.args.source.now in
    let reads = g.S.Source.faults c.args.source.now in
    let before = g.K.Sink.written c.args.sink.now in
    let after = g.K.Sink.written c.finish-in-Show.new.sink in
    let old = g.H.Shelf.entry c.args.shelf.now in
    let new = g.H.Shelf.entry c.show_pair-outcome.new.shelf in
    let done = finished_of_two c.args.order party mirror s (g.H.Shelf.is_back c.show_pair-outcome.new.shelf) (c.args.source.now ≡ c.args.source.now) old new c.show_pair-outcome.result [] before after
    (g.K.Sink.faults c.args.sink.now) (g.K.Sink.faults c.finish-in-Show.new.sink) (g.H.Shelf.faults c.args.shelf.now) (g.H.Shelf.faults c.show_pair-outcome.new.shelf)
    (ap party_of is) f.ends f.answered f.output.fault r.shelf (λ reading. refl) in
    record {
      obeys = subst (λ (o : Order). ObeysMirrored o mirror c.args.moment s left left before after old new) (sym is)
          (record { outcome = c.show_pair-outcome.result; made = r.shown; due = r.due; safe = r.safe; ends = f.ends });
      others = done.others;
      cause = done.cause reads reads;
      silent = f.output.silent;
      most = took_nothing (most_of c.args.order) left;
      notice = none_left_of_two c.args.tell c.args.order (λ p wanted same. (let no : order.Show c.in-Show.party ≡ order.Take p = sym is ∙ same in absurd cc)) mirror c.args.moment s left old;
    }

pub returns-in-Take : goal.returns-in-Take
returns-in-Take g c =
    let is = c.in-Take.is in
    let mirror = c.args.mirror.now in
    let r = c.take_mirrored.ensures in
    let s = c.take_mirrored.result in
    let left = g.S.Source.left c.args.source.now in
    let rest = g.S.Source.left c.take_mirrored.new.source in
    let before = g.K.Sink.written c.args.sink.now in
    let after = g.K.Sink.written c.take_mirrored.new.sink in
    let old = g.H.Shelf.entry c.args.shelf.now in
    let new = g.H.Shelf.entry c.take_mirrored.new.shelf in
    record {
      obeys = subst (λ (o : Order). ObeysMirrored o mirror c.args.moment s left rest before after old new) (sym is) r.obeys;
      others = subst (λ (o : Order). LeavesMirrored o mirror s (g.H.Shelf.is_back c.take_mirrored.new.shelf) (c.take_mirrored.new.source ≡ c.args.source.now) old new) (sym is) r.others;
      cause = r.cause;
      silent = r.silent;
      most = subst (λ (o : Order). TookAtMost (most_of o) left rest) (sym is) r.most;
      notice = subst (λ (o : Order). LeavesMirroredNotice c.args.tell o mirror c.args.moment s left old c.take_mirrored.new.notice) (sym is) r.notice;
    }

pub returns-in-Some : goal.returns-in-Some
returns-in-Some g c =
    let i = c.in-Some.is in
    let e = c.command_of.ensures in
    let is : command_of c.args.order ≡ Some c.in-Some.given = cc in
    let r = c.command_mirrored.ensures in
    let left = g.S.Source.left c.args.source.now in
    let reads = g.S.Source.faults c.args.source.now in
    let others = r.others c.args.order is in
    record {
      obeys = r.obeys c.args.order left c.requires is;
      others = record { back = others.back; others = others.others; unread = λ reading. refl };
      cause = r.cause reads reads;
      silent = r.silent;
      most = took_nothing (most_of c.args.order) left;
      notice = none_left_of_two c.args.tell c.args.order (λ p wanted same. c.in_default.not-Take p same) c.args.mirror.now c.args.moment c.command_mirrored.result left (g.H.Shelf.entry c.args.shelf.now);
    }

pub unreachable-requires : goal.unreachable-requires
unreachable-requires g c =
    let i = c.in-None.is in
    let e = c.command_of.ensures in
    let none : command_of c.args.order ≡ None = cc in
    commands_of_two c.args.order c.args.mirror.now c.requires c.in_default.not-Init c.in_default.not-Show c.in_default.not-Take c.in_default.not-Create c.in_default.not-Enter none
