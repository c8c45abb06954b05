use Rattle.std.proofs.Common.{◌≡◌, sym, subst}
use Rattle.key_journal.specs.Causes.{cause_of}
use Rattle.mirror_store.specs.Pairs.{Twin}
use Rattle.mirror_store.specs.Turns.{IsPairTurn}
use Rattle.mirror_store.specs.declared.pair.PairUnmade.{PairUnmade}
use Rattle.mirror_store.specs.declared.pair.PairCause.TheVariants.{First, Second}
use Rattle.mirror_store.specs.declared.mirror.PairTurn.TheVariants as turn
use Rattle.mirror_store.proofs.Turned.{done, second_failed, first_failed}
use Rattle.mirror_store.proofs.turning.write.Goals as goal

pub returns-in-Ok : goal.returns-in-Ok
returns-in-Ok g c =
    done g.D.Disk.told c.args.planned.node c.args.second (g.met.D.Disk.sound c.args.second.disk) c.view.ensures.stands c.requires.same c.args.planned.plan c.requires.changes c.requires.accepted c.args.framed c.requires.framed c.requires.own
    c.in-Done.node _ c.in-Done.reply c.in-Done.under c.in-Done.ensures.turn c.in-Ok.second c.in-Ok.ensures

pub returns-in-Err : goal.returns-in-Err
returns-in-Err g c =
    let told = g.D.Disk.told in
    let old : Twin g.row.D.Denot = record { first = c.args.planned.node; second = c.args.second } in
    let b = c.in-Err.broken in
    let made : PairUnmade g.row.D.Denot = record { disks = record { first = c.in-Done.node.disk; second = b.disk }; cause = Second (cause_of b.cause) } in
    let given : PairUnmade g.row.D.Denot = record { disks = record { first = c.into_disk.result; second = c.give_up-disk.result.disk }; cause = Second c.give_up-disk.result.cause } in
    let same : made ≡ given = (λ i. record { disks = record { first = sym c.into_disk.ensures.disk i; second = sym c.give_up-disk.ensures.disk i }; cause = Second (sym c.give_up-disk.ensures.cause i) }) in
    subst (λ u. IsPairTurn told old c.args.planned.plan (turn.Broken u)) same
    (second_failed told c.args.planned.node c.args.second (g.met.D.Disk.sound c.args.second.disk) c.view.ensures.stands c.requires.same c.args.planned.plan c.requires.changes c.requires.accepted c.args.framed c.requires.framed c.requires.own
    c.in-Done.node _ c.in-Done.reply c.in-Done.under c.in-Done.ensures.turn b c.in-Err.ensures)

pub returns-in-Broken : goal.returns-in-Broken
returns-in-Broken g c =
    let told = g.D.Disk.told in
    let old : Twin g.row.D.Denot = record { first = c.args.planned.node; second = c.args.second } in
    let b = c.in-Broken.broken in
    let made : PairUnmade g.row.D.Denot = record { disks = record { first = b.disk; second = c.args.second.disk }; cause = First (cause_of b.cause) } in
    let given : PairUnmade g.row.D.Denot = record { disks = record { first = c.give_up-disk-in-Broken.result.disk; second = c.into_disk-in-Broken.result }; cause = First c.give_up-disk-in-Broken.result.cause } in
    let same : made ≡ given = (λ i. record { disks = record { first = sym c.give_up-disk-in-Broken.ensures.disk i; second = sym c.into_disk-in-Broken.ensures.disk i }; cause = First (sym c.give_up-disk-in-Broken.ensures.cause i) }) in
    subst (λ u. IsPairTurn told old c.args.planned.plan (turn.Broken u)) same
    (first_failed told c.args.planned.node c.args.second (g.met.D.Disk.sound c.args.second.disk) c.view.ensures.stands c.requires.same c.args.planned.plan c.requires.changes c.requires.accepted c.args.framed c.requires.framed c.requires.own
    b c.in-Broken.ensures.turn)
