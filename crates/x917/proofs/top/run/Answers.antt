use Rattle.std.proofs.Common.{◌≡◌, ◌∙◌, List, ℕ, Bool, Option, Some, None, Err, inl, inr, refl, sym, ap, subst}
use Rattle.x_disk.specs.Shelf.{alike_refl}
use Rattle.call_ends.specs.declared.status.Status.TheVariants as status
use Rattle.x_line.specs.declared.order.Order.{Order}
use Rattle.x_line.specs.declared.order.Order.TheVariants as order
use Rattle.x_line.specs.Line.{rows_of_line}
use Rattle.x_line.specs.Orders.{IsFault, IsGiven, IsOfTwo}
use Rattle.x_line.specs.Usage.{usage_of}
use Rattle.x_line.specs.declared.usage.LineFault.{LineFault}
use Rattle.x_line.specs.declared.usage.LineFault.TheVariants as fault
use Rattle.x_line.specs.declared.usage.UsageKind.{UsageKind}
use Rattle.x_line.specs.declared.usage.UsageKind.TheVariants.{Line}
use Rattle.party_calls.specs.Mirrored.{LeavesMirrored, ObeysMirrored}
use Rattle.party_calls.specs.Notice.{LeavesMirroredNotice, LeavesNotice}
use Rattle.party_calls.specs.Obeys.{Obeys, LeavesOthers, most_of}
use Rattle.x917.specs.Expects.{Expects, IsSilentOf}
use Rattle.call_ends.specs.Transfer.{TookAtMost}
use Rattle.x917.proofs.Audits.{without_memory}
use Rattle.x917.proofs.Forgetting.{forgets_order}
use Rattle.x917.proofs.HelpWritten.{no_order}
use Rattle.party_calls.proofs.Noticing.{none_of_two_without_memory, none_without_memory}
use Rattle.party_calls.proofs.Orders.{idle, leaves_all, faults_of, took_nothing, within_of}
use Rattle.x917.proofs.Played.{silent_of}
use Rattle.party_calls.proofs.Mirrors.{idle_mirrored, left_all, never_both, not_replay}
use Rattle.x917.specs.Deeds.{IsDeed}
use Rattle.x917.proofs.DeedsDone.{deed_idle, deed_of_one, deed_of_two}
use Rattle.x917.proofs.NetworkEvents.{network_event}
use Rattle.x917.proofs.top.run.Goals as goal

pub returns-in-None-clause-complete : goal.returns-in-None-clause-complete
returns-in-None-clause-complete g c = λ o is read_quiet put_quiet disk_quiet.
    subst (λ (x : Order). Expects x c.args.moment (g.S.Source.left c.args.source.now) (g.H.Shelf.entry c.args.shelf.now) c.carry_out.result)
    ((c.law_one_order.ensures c.args.words.now c.in-Ok.given.order o c.in-Ok.given.mirror None c.in-Ok.ensures.order is).0) (c.carry_out.ensures.expects read_quiet put_quiet disk_quiet)

pub returns-in-Err-NoMemory-clause-complete : goal.returns-in-Err-NoMemory-clause-complete
returns-in-Err-NoMemory-clause-complete g c = λ o is read_quiet put_quiet disk_quiet. forgets_order c.args.moment (g.H.Shelf.entry c.args.shelf.now) o (g.S.Source.left c.args.source.now)

pub returns-in-Err-NoMemory-clause-obeys : goal.returns-in-Err-NoMemory-clause-obeys
returns-in-Err-NoMemory-clause-obeys g c = λ o is.
    idle c.args.moment (g.S.Source.left c.args.source.now) (g.K.Sink.written c.args.sink.now) (g.H.Shelf.entry c.args.shelf.now) (λ name. g.met.H.Shelf.sound c.args.shelf.now name) o

pub returns-in-None-clause-others : goal.returns-in-None-clause-others
returns-in-None-clause-others g c = λ o is.
    subst (λ (x : Order). LeavesOthers x c.carry_out.result (g.H.Shelf.is_back c.carry_out.new.shelf) (c.carry_out.new.source ≡ c.args.source.now) (g.H.Shelf.entry c.args.shelf.now) (g.H.Shelf.entry c.carry_out.new.shelf))
    ((c.law_one_order.ensures c.args.words.now c.in-Ok.given.order o c.in-Ok.given.mirror None c.in-Ok.ensures.order is).0) c.carry_out.ensures.others

pub returns-in-None-clause-faults : goal.returns-in-None-clause-faults
returns-in-None-clause-faults g c =
    faults_of c.carry_out.result (g.S.Source.faults c.args.source.now) (g.S.Source.faults c.carry_out.new.source) (g.K.Sink.faults c.args.sink.now) (g.K.Sink.faults c.carry_out.new.sink)
    (g.H.Shelf.faults c.args.shelf.now) (g.H.Shelf.faults c.carry_out.new.shelf) c.carry_out.ensures.cause

pub returns-in-Err-NoMemory-clause-others : goal.returns-in-Err-NoMemory-clause-others
returns-in-Err-NoMemory-clause-others g c = λ o is.
    leaves_all o status.NoMemory (g.H.Shelf.is_back c.args.shelf.now) (c.args.source.now ≡ c.args.source.now) (g.H.Shelf.entry c.args.shelf.now) (λ of. of) refl

pub returns-in-None-clause-network : goal.returns-in-None-clause-network
returns-in-None-clause-network g c = λ o is.
    let laws = c.law_calls.ensures in
    let left = g.S.Source.left c.args.source.now in
    let rest = g.S.Source.left c.carry_out.new.source in
    let before = g.K.Sink.written c.args.sink.now in
    let after = g.K.Sink.written c.carry_out.new.sink in
    let old = g.H.Shelf.entry c.args.shelf.now in
    let new = g.H.Shelf.entry c.carry_out.new.shelf in
    let same = (c.law_one_order.ensures c.args.words.now c.in-Ok.given.order o c.in-Ok.given.mirror None c.in-Ok.ensures.order is).0 in
    network_event g.H.Shelf.entry laws.commands laws.arrivals laws.compactions laws.migrations c.args.moment c.carry_out.result left rest before after c.args.shelf.now c.carry_out.new.shelf (rows_of_line c.args.words.now) o is.1.1
    (subst (λ (x : Order). Obeys x c.args.moment c.carry_out.result left rest before after old new) same c.carry_out.ensures.obeys)

pub returns-in-Err-NoMemory-clause-network : goal.returns-in-Err-NoMemory-clause-network
returns-in-Err-NoMemory-clause-network g c = λ o is.
    let laws = c.law_calls.ensures in
    let entry = g.H.Shelf.entry c.args.shelf.now in
    let left = g.S.Source.left c.args.source.now in
    let written = g.K.Sink.written c.args.sink.now in
    network_event g.H.Shelf.entry laws.commands laws.arrivals laws.compactions laws.migrations c.args.moment status.NoMemory left left written written c.args.shelf.now c.args.shelf.now (rows_of_line c.args.words.now) o is.1.1
    (idle c.args.moment left written entry (λ name. g.met.H.Shelf.sound c.args.shelf.now name) o)

pub returns-in-None-clause-deeds : goal.returns-in-None-clause-deeds
returns-in-None-clause-deeds g c = λ o m is start mirrors.
    let left = g.S.Source.left c.args.source.now in
    let rest = g.S.Source.left c.carry_out.new.source in
    let before = g.K.Sink.written c.args.sink.now in
    let after = g.K.Sink.written c.carry_out.new.sink in
    let old = g.H.Shelf.entry c.args.shelf.now in
    let new = g.H.Shelf.entry c.carry_out.new.shelf in
    let is_back = g.H.Shelf.is_back c.carry_out.new.shelf in
    let unread = c.carry_out.new.source ≡ c.args.source.now in
    let s = c.carry_out.result in
    let both = c.law_one_order.ensures c.args.words.now c.in-Ok.given.order o c.in-Ok.given.mirror m c.in-Ok.ensures.order is in
    subst (λ (n : Option (List ℕ)). IsDeed start mirrors o n c.args.moment s left before after old new) (sym c.in-None.is ∙ both.1)
    (deed_of_one start mirrors old new (λ name. g.met.H.Shelf.sound c.args.shelf.now name) c.args.moment s left rest before after is_back unread (rows_of_line c.args.words.now) o is.1.1
    (subst (λ (x : Order). Obeys x c.args.moment s left rest before after old new) both.0 c.carry_out.ensures.obeys)
    (subst (λ (x : Order). LeavesOthers x s is_back unread old new) both.0 c.carry_out.ensures.others))

pub returns-in-Some-clause-deeds : goal.returns-in-Some-clause-deeds
returns-in-Some-clause-deeds g c = λ o m is start mirrors.
    let left = g.S.Source.left c.args.source.now in
    let rest = g.S.Source.left c.carry_out_mirrored.new.source in
    let before = g.K.Sink.written c.args.sink.now in
    let after = g.K.Sink.written c.carry_out_mirrored.new.sink in
    let old = g.H.Shelf.entry c.args.shelf.now in
    let new = g.H.Shelf.entry c.carry_out_mirrored.new.shelf in
    let is_back = g.H.Shelf.is_back c.carry_out_mirrored.new.shelf in
    let unread = c.carry_out_mirrored.new.source ≡ c.args.source.now in
    let s = c.carry_out_mirrored.result in
    let second = c.in-Some.mirror in
    let both = c.law_one_order.ensures c.args.words.now c.in-Ok.given.order o c.in-Ok.given.mirror m c.in-Ok.ensures.order is in
    let of = c.law_mirror_apart.ensures.mirrors c.args.words.now c.in-Ok.given.order second (subst (λ (m : Option (List ℕ)). IsGiven c.args.words.now c.in-Ok.given.order m) c.in-Some.is c.in-Ok.ensures.order) in
    subst (λ (n : Option (List ℕ)). IsDeed start mirrors o n c.args.moment s left before after old new) (sym c.in-Some.is ∙ both.1)
    (deed_of_two start mirrors old new (λ name. g.met.H.Shelf.sound c.args.shelf.now name) c.args.moment s left rest before after is_back unread (rows_of_line c.args.words.now) second o is.1.1
    (subst (λ (x : Order). IsOfTwo x second) both.0 of)
    (subst (λ (x : Order). ObeysMirrored x second c.args.moment s left rest before after old new) both.0 c.carry_out_mirrored.ensures.obeys)
    (subst (λ (x : Order). LeavesMirrored x second s is_back unread old new) both.0 c.carry_out_mirrored.ensures.others))

pub returns-in-Err-NoMemory-clause-deeds : goal.returns-in-Err-NoMemory-clause-deeds
returns-in-Err-NoMemory-clause-deeds g c = λ o m is start mirrors.
    deed_idle start mirrors (g.H.Shelf.entry c.args.shelf.now) (λ name. g.met.H.Shelf.sound c.args.shelf.now name) c.args.moment (g.S.Source.left c.args.source.now) (g.K.Sink.written c.args.sink.now) (rows_of_line c.args.words.now) o is.1.1
    m (λ second has. c.law_mirror_apart.ensures.mirrors c.args.words.now o second (subst (λ (n : Option (List ℕ)). IsGiven c.args.words.now o n) has is))

pub carry_out-requires-clause-within : goal.carry_out-requires-clause-within
carry_out-requires-clause-within g c =
    within_of c.law_few_events.ensures c.law_ledger_apart.ensures.pays c.law_ledger_apart.ensures.accepts c.law_mirror_apart.ensures.compares c.law_spool_apart.ensures c.args.words.now c.in-Ok.given.order
    (subst (λ (m : Option (List ℕ)). IsGiven c.args.words.now c.in-Ok.given.order m) c.in-None.is c.in-Ok.ensures.order)

pub returns-in-None-clause-silent : goal.returns-in-None-clause-silent
returns-in-None-clause-silent g c = λ o m is silent.
    c.carry_out.ensures.silent (subst (λ (x : Order). IsSilentOf x c.carry_out.result) (sym (c.law_one_order.ensures c.args.words.now c.in-Ok.given.order o c.in-Ok.given.mirror m c.in-Ok.ensures.order is).0) silent)

pub returns-in-None-clause-most : goal.returns-in-None-clause-most
returns-in-None-clause-most g c = λ o m is.
    subst (λ (x : Order). TookAtMost (most_of x) (g.S.Source.left c.args.source.now) (g.S.Source.left c.carry_out.new.source))
    (c.law_one_order.ensures c.args.words.now c.in-Ok.given.order o c.in-Ok.given.mirror m c.in-Ok.ensures.order is).0 c.carry_out.ensures.most

pub returns-in-None-clause-replays : goal.returns-in-None-clause-replays
returns-in-None-clause-replays g c = λ is. c.carry_out.ensures.replays ((c.law_one_order.ensures c.args.words.now c.in-Ok.given.order order.Replay c.in-Ok.given.mirror None c.in-Ok.ensures.order is).0)

pub returns-in-None-clause-drills : goal.returns-in-None-clause-drills
returns-in-None-clause-drills g c = λ seed events is.
    c.carry_out.ensures.drills seed events ((c.law_one_order.ensures c.args.words.now c.in-Ok.given.order (order.Drill seed events) c.in-Ok.given.mirror None c.in-Ok.ensures.order is).0)

pub returns-in-None-clause-audits : goal.returns-in-None-clause-audits
returns-in-None-clause-audits g c = λ is. c.carry_out.ensures.audits ((c.law_one_order.ensures c.args.words.now c.in-Ok.given.order order.Audit c.in-Ok.given.mirror None c.in-Ok.ensures.order is).0)

pub returns-in-Err-NoMemory-clause-audits : goal.returns-in-Err-NoMemory-clause-audits
returns-in-Err-NoMemory-clause-audits g c = λ is. ((without_memory (g.S.Source.left c.args.source.now), refl), refl)

pub returns-in-Err-NoMemory-clause-most : goal.returns-in-Err-NoMemory-clause-most
returns-in-Err-NoMemory-clause-most g c = λ o m is. took_nothing (most_of o) (g.S.Source.left c.args.source.now)

pub returns-in-Err-NoMemory-clause-replays : goal.returns-in-Err-NoMemory-clause-replays
returns-in-Err-NoMemory-clause-replays g c = λ is. inl (inl (inr refl), refl, λ name. alike_refl (g.H.Shelf.entry c.args.shelf.now name))

pub returns-in-Err-NoMemory-clause-drills : goal.returns-in-Err-NoMemory-clause-drills
returns-in-Err-NoMemory-clause-drills g c = λ seed events is. ((tt, refl), refl, refl)

pub returns-in-None-clause-obeys : goal.returns-in-None-clause-obeys
returns-in-None-clause-obeys g c = λ o is.
    subst (λ (x : Order). Obeys x c.args.moment c.carry_out.result (g.S.Source.left c.args.source.now) (g.S.Source.left c.carry_out.new.source) (g.K.Sink.written c.args.sink.now) (g.K.Sink.written c.carry_out.new.sink)
    (g.H.Shelf.entry c.args.shelf.now) (g.H.Shelf.entry c.carry_out.new.shelf))
    (c.law_one_order.ensures c.args.words.now c.in-Ok.given.order o c.in-Ok.given.mirror None c.in-Ok.ensures.order is).0 c.carry_out.ensures.obeys

pub returns-in-None-clause-mirrored : goal.returns-in-None-clause-mirrored
returns-in-None-clause-mirrored g c = λ o m is. never_both c.in-Ok.given.mirror m (c.law_one_order.ensures c.args.words.now c.in-Ok.given.order o c.in-Ok.given.mirror (Some m) c.in-Ok.ensures.order is).1 c.in-None.is

pub returns-in-None-clause-mirrors : goal.returns-in-None-clause-mirrors
returns-in-None-clause-mirrors g c = λ o m is. never_both c.in-Ok.given.mirror m (c.law_one_order.ensures c.args.words.now c.in-Ok.given.order o c.in-Ok.given.mirror (Some m) c.in-Ok.ensures.order is).1 c.in-None.is

pub carry_out_mirrored-requires : goal.carry_out_mirrored-requires
carry_out_mirrored-requires g c =
    c.law_mirror_apart.ensures.mirrors c.args.words.now c.in-Ok.given.order c.in-Some.mirror (subst (λ (m : Option (List ℕ)). IsGiven c.args.words.now c.in-Ok.given.order m) c.in-Some.is c.in-Ok.ensures.order)

pub returns-in-Some-clause-obeys : goal.returns-in-Some-clause-obeys
returns-in-Some-clause-obeys g c = λ o is. never_both c.in-Ok.given.mirror c.in-Some.mirror c.in-Some.is (c.law_one_order.ensures c.args.words.now c.in-Ok.given.order o c.in-Ok.given.mirror None c.in-Ok.ensures.order is).1

pub returns-in-Some-clause-complete : goal.returns-in-Some-clause-complete
returns-in-Some-clause-complete g c = λ o is read_quiet put_quiet disk_quiet. never_both c.in-Ok.given.mirror c.in-Some.mirror c.in-Some.is (c.law_one_order.ensures c.args.words.now c.in-Ok.given.order o c.in-Ok.given.mirror None c.in-Ok.ensures.order is).1

pub returns-in-Some-clause-network : goal.returns-in-Some-clause-network
returns-in-Some-clause-network g c = λ o is. never_both c.in-Ok.given.mirror c.in-Some.mirror c.in-Some.is (c.law_one_order.ensures c.args.words.now c.in-Ok.given.order o c.in-Ok.given.mirror None c.in-Ok.ensures.order is).1

pub returns-in-Some-clause-others : goal.returns-in-Some-clause-others
returns-in-Some-clause-others g c = λ o is. never_both c.in-Ok.given.mirror c.in-Some.mirror c.in-Some.is (c.law_one_order.ensures c.args.words.now c.in-Ok.given.order o c.in-Ok.given.mirror None c.in-Ok.ensures.order is).1

pub returns-in-Some-clause-replays : goal.returns-in-Some-clause-replays
returns-in-Some-clause-replays g c = λ is. never_both c.in-Ok.given.mirror c.in-Some.mirror c.in-Some.is (c.law_one_order.ensures c.args.words.now c.in-Ok.given.order order.Replay c.in-Ok.given.mirror None c.in-Ok.ensures.order is).1

pub returns-in-Some-clause-drills : goal.returns-in-Some-clause-drills
returns-in-Some-clause-drills g c = λ seed events is. never_both c.in-Ok.given.mirror c.in-Some.mirror c.in-Some.is (c.law_one_order.ensures c.args.words.now c.in-Ok.given.order (order.Drill seed events) c.in-Ok.given.mirror None c.in-Ok.ensures.order is).1

pub returns-in-Some-clause-audits : goal.returns-in-Some-clause-audits
returns-in-Some-clause-audits g c = λ is. never_both c.in-Ok.given.mirror c.in-Some.mirror c.in-Some.is (c.law_one_order.ensures c.args.words.now c.in-Ok.given.order order.Audit c.in-Ok.given.mirror None c.in-Ok.ensures.order is).1

pub returns-in-Some-clause-mirrored : goal.returns-in-Some-clause-mirrored
returns-in-Some-clause-mirrored g c = λ o m is.
    let both = c.law_one_order.ensures c.args.words.now c.in-Ok.given.order o c.in-Ok.given.mirror (Some m) c.in-Ok.ensures.order is in
    let one : c.in-Some.mirror ≡ m = (let same : Some c.in-Some.mirror ≡ Some m = sym c.in-Some.is ∙ both.1 in cc) in
    subst (λ (n : List ℕ). ObeysMirrored o n c.args.moment c.carry_out_mirrored.result (g.S.Source.left c.args.source.now) (g.S.Source.left c.carry_out_mirrored.new.source) (g.K.Sink.written c.args.sink.now)
    (g.K.Sink.written c.carry_out_mirrored.new.sink) (g.H.Shelf.entry c.args.shelf.now) (g.H.Shelf.entry c.carry_out_mirrored.new.shelf)) one
    (subst (λ (x : Order). ObeysMirrored x c.in-Some.mirror c.args.moment c.carry_out_mirrored.result (g.S.Source.left c.args.source.now) (g.S.Source.left c.carry_out_mirrored.new.source) (g.K.Sink.written c.args.sink.now)
    (g.K.Sink.written c.carry_out_mirrored.new.sink) (g.H.Shelf.entry c.args.shelf.now) (g.H.Shelf.entry c.carry_out_mirrored.new.shelf)) both.0 c.carry_out_mirrored.ensures.obeys)

pub returns-in-Some-clause-mirrors : goal.returns-in-Some-clause-mirrors
returns-in-Some-clause-mirrors g c = λ o m is.
    let both = c.law_one_order.ensures c.args.words.now c.in-Ok.given.order o c.in-Ok.given.mirror (Some m) c.in-Ok.ensures.order is in
    let one : c.in-Some.mirror ≡ m = (let same : Some c.in-Some.mirror ≡ Some m = sym c.in-Some.is ∙ both.1 in cc) in
    subst (λ (n : List ℕ). LeavesMirrored o n c.carry_out_mirrored.result (g.H.Shelf.is_back c.carry_out_mirrored.new.shelf) (c.carry_out_mirrored.new.source ≡ c.args.source.now) (g.H.Shelf.entry c.args.shelf.now) (g.H.Shelf.entry c.carry_out_mirrored.new.shelf)) one
    (subst (λ (x : Order). LeavesMirrored x c.in-Some.mirror c.carry_out_mirrored.result (g.H.Shelf.is_back c.carry_out_mirrored.new.shelf) (c.carry_out_mirrored.new.source ≡ c.args.source.now) (g.H.Shelf.entry c.args.shelf.now) (g.H.Shelf.entry c.carry_out_mirrored.new.shelf)) both.0
    c.carry_out_mirrored.ensures.others)

pub returns-in-Some-clause-faults : goal.returns-in-Some-clause-faults
returns-in-Some-clause-faults g c =
    faults_of c.carry_out_mirrored.result (g.S.Source.faults c.args.source.now) (g.S.Source.faults c.carry_out_mirrored.new.source) (g.K.Sink.faults c.args.sink.now) (g.K.Sink.faults c.carry_out_mirrored.new.sink)
    (g.H.Shelf.faults c.args.shelf.now) (g.H.Shelf.faults c.carry_out_mirrored.new.shelf) c.carry_out_mirrored.ensures.cause

pub returns-in-Some-clause-silent : goal.returns-in-Some-clause-silent
returns-in-Some-clause-silent g c = λ o m is silent.
    let both = c.law_one_order.ensures c.args.words.now c.in-Ok.given.order o c.in-Ok.given.mirror m c.in-Ok.ensures.order is in
    let of = c.law_mirror_apart.ensures.mirrors c.args.words.now c.in-Ok.given.order c.in-Some.mirror (subst (λ (m : Option (List ℕ)). IsGiven c.args.words.now c.in-Ok.given.order m) c.in-Some.is c.in-Ok.ensures.order) in
    c.carry_out_mirrored.ensures.silent (silent_of c.in-Ok.given.order c.carry_out_mirrored.result (not_replay c.in-Ok.given.order c.in-Some.mirror of) (subst (λ (x : Order). IsSilentOf x c.carry_out_mirrored.result) (sym both.0) silent))

pub returns-in-Some-clause-most : goal.returns-in-Some-clause-most
returns-in-Some-clause-most g c = λ o m is.
    subst (λ (x : Order). TookAtMost (most_of x) (g.S.Source.left c.args.source.now) (g.S.Source.left c.carry_out_mirrored.new.source)) (c.law_one_order.ensures c.args.words.now c.in-Ok.given.order o c.in-Ok.given.mirror m c.in-Ok.ensures.order is).0 c.carry_out_mirrored.ensures.most

pub returns-in-Err-NoMemory-clause-mirrored : goal.returns-in-Err-NoMemory-clause-mirrored
returns-in-Err-NoMemory-clause-mirrored g c = λ o m is.
    idle_mirrored c.args.moment (g.S.Source.left c.args.source.now) (g.K.Sink.written c.args.sink.now) (g.H.Shelf.entry c.args.shelf.now) (λ name. g.met.H.Shelf.sound c.args.shelf.now name) o m (c.law_mirror_apart.ensures.mirrors c.args.words.now o m is)

pub returns-in-Err-NoMemory-clause-mirrors : goal.returns-in-Err-NoMemory-clause-mirrors
returns-in-Err-NoMemory-clause-mirrors g c = λ o m is.
    left_all o m status.NoMemory (g.H.Shelf.is_back c.args.shelf.now) (c.args.source.now ≡ c.args.source.now) (g.H.Shelf.entry c.args.shelf.now) (λ of. of) (λ reading. refl)

pub returns-in-None-clause-notice : goal.returns-in-None-clause-notice
returns-in-None-clause-notice g c = λ o is.
    let left = g.S.Source.left c.args.source.now in
    let old = g.H.Shelf.entry c.args.shelf.now in
    let s = c.carry_out.result in
    let notice = c.carry_out.new.notice in
    subst (λ (wanted : Bool). LeavesNotice wanted o c.args.moment s left old notice) c.in-Ok.ensures.tell
    (subst (λ (x : Order). LeavesNotice c.in-Ok.given.tell x c.args.moment s left old notice)
    (c.law_one_order.ensures c.args.words.now c.in-Ok.given.order o c.in-Ok.given.mirror None c.in-Ok.ensures.order is).0 c.carry_out.ensures.notice)

pub returns-in-None-clause-mirrored_notice : goal.returns-in-None-clause-mirrored_notice
returns-in-None-clause-mirrored_notice g c = λ o m is. never_both c.in-Ok.given.mirror m (c.law_one_order.ensures c.args.words.now c.in-Ok.given.order o c.in-Ok.given.mirror (Some m) c.in-Ok.ensures.order is).1 c.in-None.is

pub returns-in-None-clause-no_order : goal.returns-in-None-clause-no_order
returns-in-None-clause-no_order g c = λ kind is. no_order c.args.words.now kind is c.in-Ok.ensures.order.0

pub returns-in-Some-clause-notice : goal.returns-in-Some-clause-notice
returns-in-Some-clause-notice g c = λ o is. never_both c.in-Ok.given.mirror c.in-Some.mirror c.in-Some.is (c.law_one_order.ensures c.args.words.now c.in-Ok.given.order o c.in-Ok.given.mirror None c.in-Ok.ensures.order is).1

pub returns-in-Some-clause-mirrored_notice : goal.returns-in-Some-clause-mirrored_notice
returns-in-Some-clause-mirrored_notice g c = λ o m is.
    let both = c.law_one_order.ensures c.args.words.now c.in-Ok.given.order o c.in-Ok.given.mirror (Some m) c.in-Ok.ensures.order is in
    let one : c.in-Some.mirror ≡ m = (let same : Some c.in-Some.mirror ≡ Some m = sym c.in-Some.is ∙ both.1 in cc) in
    let left = g.S.Source.left c.args.source.now in
    let old = g.H.Shelf.entry c.args.shelf.now in
    let s = c.carry_out_mirrored.result in
    let notice = c.carry_out_mirrored.new.notice in
    subst (λ (wanted : Bool). LeavesMirroredNotice wanted o m c.args.moment s left old notice) c.in-Ok.ensures.tell
    (subst (λ (n : List ℕ). LeavesMirroredNotice c.in-Ok.given.tell o n c.args.moment s left old notice) one
    (subst (λ (x : Order). LeavesMirroredNotice c.in-Ok.given.tell x c.in-Some.mirror c.args.moment s left old notice) both.0 c.carry_out_mirrored.ensures.notice))

pub returns-in-Some-clause-no_order : goal.returns-in-Some-clause-no_order
returns-in-Some-clause-no_order g c = λ kind is. no_order c.args.words.now kind is c.in-Ok.ensures.order.0

pub returns-in-Err-NoMemory-clause-mirrored_notice : goal.returns-in-Err-NoMemory-clause-mirrored_notice
returns-in-Err-NoMemory-clause-mirrored_notice g c = λ o m is. none_of_two_without_memory _ o m c.args.moment (g.S.Source.left c.args.source.now) (g.H.Shelf.entry c.args.shelf.now)

pub returns-in-Err-NoMemory-clause-notice : goal.returns-in-Err-NoMemory-clause-notice
returns-in-Err-NoMemory-clause-notice g c = λ o is. none_without_memory _ o c.args.moment (g.S.Source.left c.args.source.now) (g.H.Shelf.entry c.args.shelf.now)

pub returns-in-Err-NoMemory-clause-helps : goal.returns-in-Err-NoMemory-clause-helps
returns-in-Err-NoMemory-clause-helps g c = λ topic kind asks is. (inr (refl, refl), (refl, refl))

pub returns-in-Err-Usage : goal.returns-in-Err-Usage
returns-in-Err-Usage g c =
    let kind = c.in-Err-Usage.kind in
    let told : c.in-Err-Usage.field-0 ≡ fault.Usage kind = (let i = c.in-Err-Usage.field-0-is in cc) in
    let wrong : usage_of c.args.words.now ≡ Some kind = subst (λ (f : LineFault). IsFault c.args.words.now f) told c.in-Err-Usage.ensures.fault in
    let words = c.args.words.now in
    let r = c.help_or_fault.ensures in
    record {
      usage = record {
        usage = λ other is. (let u = r.usage other is in (wrong ∙ ap (λ (k : UsageKind). Some k) (sym u.0), u.1));
        wrong = λ other is asks. (let same : Some kind ≡ Some other = sym wrong ∙ is in let e : kind ≡ other = cc in inl ((r.wrong asks).0 ∙ ap (λ (k : UsageKind). status.Usage k) e));
        line = λ is. (let u = r.usage Line is in c.in-Err-Usage.ensures.line (ap (λ (f : LineFault). Err f) (told ∙ ap (λ (k : UsageKind). fault.Usage k) (sym u.0))));
        untouched = λ other is asks. (refl, (r.wrong asks).1, refl);
      };
      helps = λ topic other asks is. (r.helps topic asks, (refl, refl));
      obeys = λ o is. no_order words kind wrong is.0;
      complete = λ o is. no_order words kind wrong is.0;
      network = λ o is. no_order words kind wrong is.0;
      others = λ o is. no_order words kind wrong is.0;
      mirrored = λ o m is. no_order words kind wrong is.0;
      mirrors = λ o m is. no_order words kind wrong is.0;
      deeds = λ o m is. no_order words kind wrong is.0;
      replays = λ is. no_order words kind wrong is.0;
      drills = λ seed events is. no_order words kind wrong is.0;
      audits = λ is. no_order words kind wrong is.0;
      faults = r.faults (g.S.Source.faults c.args.source.now) (g.H.Shelf.faults c.args.shelf.now);
      silent = λ o m is. no_order words kind wrong is.0;
      most = λ o m is. no_order words kind wrong is.0;
      notice = λ o is. no_order words kind wrong is.0;
      mirrored_notice = λ o m is. no_order words kind wrong is.0;
      no_order = λ other is. refl;
    }
