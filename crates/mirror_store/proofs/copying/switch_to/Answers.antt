use Rattle.std.proofs.Common.{◌≡◌, Err, sym, subst}
use Rattle.key_journal.specs.Causes.{cause_of}
use Rattle.key_journal.specs.declared.cause.Cause.TheVariants as cause
use Rattle.key_journal.specs.declared.cause.Unmade.{Unmade}
use Rattle.key_store.specs.Store.{StandsWith, space}
use Rattle.mirror_store.specs.Framing.{IsCopying}
use Rattle.mirror_store.specs.declared.uncopied.Uncopied.TheVariants as uncopied
use Rattle.mirror_store.proofs.Copies.{switched, switch_failed, switch_too_large, switch_no_memory}
use Rattle.mirror_store.proofs.copying.switch_to.Goals as goal

pub returns-in-Ok-replace : goal.returns-in-Ok-replace
returns-in-Ok-replace g c = switched g.D.Disk.told c.args.store c.in-Ok.framed c.args.state.now c.in-Ok.ensures.party c.in-Ok-replace.store c.in-Ok-replace.ensures c.in-Ok.ensures.fits

pub returns-in-Err : goal.returns-in-Err
returns-in-Err g c =
    let told = g.D.Disk.told in
    let b = c.in-Err.broken in
    let unmade : Unmade g.row.D.Denot = record { disk = b.disk; cause = cause_of b.cause } in
    let same : unmade ≡ c.give_up.result = (λ i. record { disk = sym c.give_up.ensures.disk i; cause = sym c.give_up.ensures.cause i }) in
    subst (λ u. IsCopying told c.args.store.disk (λ image. StandsWith image c.args.store.party (space c.args.store)) c.args.state.now (Err (uncopied.Failed u))) same
    (switch_failed told c.args.store c.in-Ok.framed c.args.state.now c.in-Ok.ensures.party b c.in-Err.ensures c.in-Ok.ensures.fits)

pub returns-in-Err-TooLarge : goal.returns-in-Err-TooLarge
returns-in-Err-TooLarge g c =
    let told = g.D.Disk.told in
    subst (λ d. IsCopying told c.args.store.disk (λ image. StandsWith image c.args.store.party (space c.args.store)) c.args.state.now (Err (uncopied.TooLarge d))) (sym c.into_disk.ensures.disk)
    (switch_too_large told c.args.store c.args.state.now (g.met.D.Disk.sound c.args.store.disk) c.view.ensures.stands (c.in-Err-TooLarge.ensures.too_large (cc c.in-Err-TooLarge.field-0-is)))

pub returns-in-Err-NoMemory : goal.returns-in-Err-NoMemory
returns-in-Err-NoMemory g c =
    let told = g.D.Disk.told in
    subst (λ d. IsCopying told c.args.store.disk (λ image. StandsWith image c.args.store.party (space c.args.store)) c.args.state.now (Err (uncopied.Failed (record { disk = d; cause = cause.NoMemory })))) (sym c.into_disk-in-Err-NoMemory.ensures.disk)
    (switch_no_memory told c.args.store c.args.state.now (g.met.D.Disk.sound c.args.store.disk) c.view.ensures.stands)
