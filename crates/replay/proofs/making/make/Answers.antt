use Rattle.std.proofs.Common.{sym, subst}
use Rattle.std.proofs.lemmas.Result.{err_from_is_err_and}
use Rattle.key_store.specs.Store.{Stored}
use Rattle.course.specs.Parties.{new_member}
use Rattle.course.specs.Starts.{loads_of}
use Rattle.replay.specs.SettingUp.{BeginsOnly}
use Rattle.replay.proofs.Completed.{makes_only, failed_set_up_part}
use Rattle.replay.proofs.making.make.Goals as goal

pub returns-in_err-store-clause-failed_set_up : goal.returns-in_err-store-clause-failed_set_up
returns-in_err-store-clause-failed_set_up g c =
    let p = err_from_is_err_and c.from_residual.result c.from_residual.ensures.1 in
    rw (p.1, p.2) (c.in_err-store.ensures.failed_set_up (loads_of c.args.party.now.own c.args.lines.now))

pub returns-in-Ok-clause-any_moment : goal.returns-in-Ok-clause-any_moment
returns-in-Ok-clause-any_moment g c =
    let told = g.D.Disk.told in
    let party = c.args.party.now in
    let store = c.in_ok-store.store in
    let loads = loads_of party.own c.args.lines.now in
    let made = makes_only told store (told c.args.disk) party c.in_ok-store.ensures.begun loads (g.met.D.Disk.sound store.disk) (c.in_ok-store.ensures.any_moment loads) (told c.in-Ok.loaded.disk) c.in-Ok.ensures.loaded.any_moment in
    subst (λ (s : Stored _). BeginsOnly (told c.args.disk) (told s.disk) (new_member party) loads) (sym c.of.ensures) made

pub returns-in-Err-clause-failed_set_up : goal.returns-in-Err-clause-failed_set_up
returns-in-Err-clause-failed_set_up g c =
    let told = g.D.Disk.told in
    let party = c.args.party.now in
    let store = c.in_ok-store.store in
    let loads = loads_of party.own c.args.lines.now in
    let failed_disk = c.in-Err.field-0 in
    failed_set_up_part told store (told c.args.disk) party c.in_ok-store.ensures.begun loads (g.met.D.Disk.sound store.disk) (c.in_ok-store.ensures.any_moment loads) (told failed_disk.disk) failed_disk.why c.in-Err.ensures.failed_disk
