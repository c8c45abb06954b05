use Rattle.std.proofs.Common.{◌≡◌, inr, ◌<◌, true, false, IfErr, sym, ◌∙◌, ap, subst, refl}
use Rattle.std.proofs.lemmas.Result.{err_from_is_err_and}
use Rattle.open_parties.specs.declared.failure.Failure.TheVariants as failure
use Rattle.replay.proofs.Leaving.{reopened, left_other, left_out, left_failed, left_begun}
use Rattle.x_disk.proofs.Runs.{began}
use Rattle.open_parties.specs.Crash.{disk_begun}
use Rattle.open_parties.specs.declared.open_party.PartyDisk.TheVariants.{Open, Closed, Away}
use Rattle.open_parties.proofs.HoldingAgain.{again_leaves, back_leaves, holds_again_begun}
use Rattle.open_parties.proofs.Surrounding.{empty_within, filled_faulty}
use Rattle.replay.proofs.restarting.reopen.Goals as goal

pub put_in-requires : goal.put_in-requires
put_in-requires g c = empty_within c.args.parties.now c.args.place c.requires.empty

pub put_in-requires-in-Ok-restart : goal.put_in-requires-in-Ok-restart
put_in-requires-in-Ok-restart g c = empty_within c.args.parties.now c.args.place c.requires.empty

pub put_in-requires-in-Err-restart : goal.put_in-requires-in-Err-restart
put_in-requires-in-Err-restart g c = empty_within c.args.parties.now c.args.place c.requires.empty

pub returns-else-not-is_expected-clause-stopped : goal.returns-else-not-is_expected-clause-stopped
returns-else-not-is_expected-clause-stopped g c = λ node i moment b.
    let told = g.H.Disk.Disk.told in
    reopened told c.args.parties.now c.put_in-in-Ok-restart.new.self c.args.place c.args.stop c.args.expected.now c.args.begun node i moment b c.in-Ok.disk c.in-Ok.is c.in_ok-disk.disk c.in-Ok-restart.node (g.H.Shelf.faults c.args.shelf.now) (g.H.Shelf.faults c.put_back_and_fetch.new.shelf)
    c.is_after-is_after.result c.in_ok-disk.ensures.alike c.in-Ok-restart.ensures.opened c.put_back_and_fetch.ensures.seen c.is_after-is_after.ensures c.put_in-in-Ok-restart.ensures (c.holds-is_expected.ensures.0 c.if-not-is_expected.false)

pub returns-then-not-is_expected-clause-left : goal.returns-then-not-is_expected-clause-left
returns-then-not-is_expected-clause-left g c = λ node i moment b.
    let told = g.H.Disk.Disk.told in
    left_other told c.args.parties.now c.put_in-in-Ok-restart.new.self c.args.place c.args.stop c.args.expected.now c.args.begun node i moment b c.in-Ok.disk c.in-Ok.is c.in_ok-disk.disk c.in-Ok-restart.node (g.H.Shelf.faults c.args.shelf.now) (g.H.Shelf.faults c.put_back_and_fetch.new.shelf)
    c.is_after-is_after.result c.in_ok-disk.ensures.alike c.in-Ok-restart.ensures.opened c.put_back_and_fetch.ensures.seen c.is_after-is_after.ensures (g.H.Shelf.entry c.put_back_and_fetch.new.shelf c.args.own.now) (failure.Damaged 0) c.put_in-in-Ok-restart.ensures
    (λ is. (let lie : false ≡ true = sym c.if-not-is_expected.true ∙ c.holds-is_expected.ensures.1 is in cc lie))

pub returns-in-Err-clause-left : goal.returns-in-Err-clause-left
returns-in-Err-clause-left g c = λ node i moment b.
    left_begun g.H.Disk.Disk.told c.args.parties.now c.put_in.new.self c.args.place c.args.stop c.args.expected.now c.args.begun node i moment b c.in-Err.field-0 c.in-Err.is (g.H.Shelf.entry c.args.shelf.now c.args.own.now) c.put_in.ensures

pub returns-in-Err-restart-clause-left : goal.returns-in-Err-restart-clause-left
returns-in-Err-restart-clause-left g c = λ node i moment b.
    left_failed g.H.Disk.Disk.told c.args.parties.now c.put_in-in-Err-restart.new.self c.args.place c.args.stop c.args.expected.now c.args.begun node i moment b c.in-Ok.disk c.in-Ok.is (g.H.Shelf.entry c.put_back_and_fetch.new.shelf c.args.own.now) c.in_ok-disk.disk c.in-Err-restart.field-0.disk c.in-Err-restart.field-0.why
    c.put_in-in-Err-restart.ensures c.in_ok-disk.ensures.alike c.in-Err-restart.ensures.failed_disk

pub returns-in_err-disk-clause-left : goal.returns-in_err-disk-clause-left
returns-in_err-disk-clause-left g c =
    let told = g.H.Disk.Disk.told in
    let p = err_from_is_err_and c.from_residual.result c.from_residual.ensures.1 in
    rw (p.1, p.2) (λ node i moment b.
    left_out told c.args.parties.now c.args.parties.now c.args.place c.args.stop c.args.expected.now c.args.begun node i moment b c.in-Ok.disk c.in-Ok.is (g.H.Shelf.entry c.put_back_and_fetch.new.shelf c.args.own.now) c.in_err-disk.field-0.0
    c.in_err-disk.ensures.failing (g.met.H.Disk.Disk.sound c.in-Ok.disk) c.in_err-disk.ensures.stays refl)

pub returns-in-Err-clause-fault : goal.returns-in-Err-clause-fault
returns-in-Err-clause-fault g c = λ is.
    let same : c.in-Err.field-0.why ≡ failure.Fault = cc is in
    inr (filled_faulty g.H.Disk.Disk.told c.args.parties.now c.put_in.new.self c.args.place c.in-Err.field-0.disk c.requires.empty c.put_in.ensures
    (subst (λ r. IfErr r (λ failed_disk. failed_disk.why ≡ failure.Fault → 0 < (g.H.Disk.Disk.told failed_disk.disk).faults)) c.in-Err.is c.requires.shown same))

pub returns-in-Err-restart-clause-fault : goal.returns-in-Err-restart-clause-fault
returns-in-Err-restart-clause-fault g c = λ is.
    let same : c.in-Err-restart.field-0.why ≡ failure.Fault = cc is in
    inr (filled_faulty g.H.Disk.Disk.told c.args.parties.now c.put_in-in-Err-restart.new.self c.args.place c.in-Err-restart.field-0.disk c.requires.empty c.put_in-in-Err-restart.ensures (c.in-Err-restart.ensures.fault same))

-- what a crash leaves

pub returns-in-Err-clause-crash : goal.returns-in-Err-clause-crash
returns-in-Err-clause-crash g c =
    let told = g.H.Disk.Disk.told in
    let disk = c.in-Err.field-0.disk in
    holds_again_begun told (g.H.Shelf.entry c.args.shelf.now c.args.own.now) c.args.parties.now c.put_in.new.self c.args.place c.args.begun disk (ap disk_begun c.in-Err.is) (Closed disk) c.put_in.ensures
    (began (told disk) (told disk).may_leave (g.met.H.Disk.Disk.sound disk) (λ image is. is))

pub returns-in_err-disk-clause-crash : goal.returns-in_err-disk-clause-crash
returns-in_err-disk-clause-crash g c =
    let told = g.H.Disk.Disk.told in
    let shelved = g.H.Shelf.entry c.put_back_and_fetch.new.shelf c.args.own.now in
    holds_again_begun told shelved c.args.parties.now c.args.parties.now c.args.place c.args.begun c.in-Ok.disk (ap disk_begun c.in-Ok.is) Away (λ front own back was size. was)
    (back_leaves (told c.in-Ok.disk) shelved (g.met.H.Disk.Disk.sound c.in-Ok.disk) c.in_err-disk.ensures.stays)

pub returns-then-not-is_expected-clause-crash : goal.returns-then-not-is_expected-clause-crash
returns-then-not-is_expected-clause-crash g c =
    let told = g.H.Disk.Disk.told in
    holds_again_begun told (g.H.Shelf.entry c.put_back_and_fetch.new.shelf c.args.own.now) c.args.parties.now c.put_in-in-Ok-restart.new.self c.args.place c.args.begun c.in-Ok.disk (ap disk_begun c.in-Ok.is) (Open c.in-Ok-restart.node) c.put_in-in-Ok-restart.ensures
    (again_leaves (told c.in-Ok.disk) (told c.in_ok-disk.disk) (told c.in-Ok-restart.node.disk) c.in_ok-disk.ensures.alike c.in-Ok-restart.ensures.crash)

pub returns-else-not-is_expected-clause-crash : goal.returns-else-not-is_expected-clause-crash
returns-else-not-is_expected-clause-crash g c =
    let told = g.H.Disk.Disk.told in
    holds_again_begun told (g.H.Shelf.entry c.put_back_and_fetch.new.shelf c.args.own.now) c.args.parties.now c.put_in-in-Ok-restart.new.self c.args.place c.args.begun c.in-Ok.disk (ap disk_begun c.in-Ok.is) (Open c.in-Ok-restart.node) c.put_in-in-Ok-restart.ensures
    (again_leaves (told c.in-Ok.disk) (told c.in_ok-disk.disk) (told c.in-Ok-restart.node.disk) c.in_ok-disk.ensures.alike c.in-Ok-restart.ensures.crash)

pub returns-in-Err-restart-clause-crash : goal.returns-in-Err-restart-clause-crash
returns-in-Err-restart-clause-crash g c =
    let told = g.H.Disk.Disk.told in
    holds_again_begun told (g.H.Shelf.entry c.put_back_and_fetch.new.shelf c.args.own.now) c.args.parties.now c.put_in-in-Err-restart.new.self c.args.place c.args.begun c.in-Ok.disk (ap disk_begun c.in-Ok.is) (Closed c.in-Err-restart.field-0.disk) c.put_in-in-Err-restart.ensures
    (again_leaves (told c.in-Ok.disk) (told c.in_ok-disk.disk) (told c.in-Err-restart.field-0.disk) c.in_ok-disk.ensures.alike c.in-Err-restart.ensures.crash)
