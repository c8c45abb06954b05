use Rattle.std.proofs.Common.{None, sym, subst}
use Rattle.x_base.specs.declared.verdict.Verdict.TheVariants.{JournalFull}
use Rattle.change_code.specs.declared.format.Format.TheVariants.{Two}
use Rattle.mirror_store.specs.Pairs.{Twin, IsTwin}
use Rattle.mirror_store.specs.Turns.{IsPairTurn, pair_plan}
use Rattle.mirror_store.specs.declared.mirror.PairTurn.TheVariants as turn
use Rattle.mirror_store.proofs.Turned.{as_planned, fits_none, fits_alone, refused, no_memory}
use Rattle.mirror_store.proofs.turning.carry_out.Goals as goal

pub write-requires-clause-accepted : goal.write-requires-clause-accepted
write-requires-clause-accepted g c = c.requires.accepted (c.has_edits.ensures.some c.if-not-has_edits.false)

pub returns-then-not-has_edits : goal.returns-then-not-has_edits
returns-then-not-has_edits g c =
    let old : Twin g.row.D.Denot = record { first = c.args.planned.node; second = c.args.second } in
    as_planned g.D.Disk.told old c.args.planned.plan c.answer.result (fits_none c.args.planned.node.party c.args.planned.plan.edits (c.has_edits.ensures.none c.if-not-has_edits.true)) c.answer.ensures

pub returns-in-Ok : goal.returns-in-Ok
returns-in-Ok g c =
    let old : Twin g.row.D.Denot = record { first = c.args.planned.node; second = c.args.second } in
    as_planned g.D.Disk.told old c.args.planned.plan c.write.result (fits_alone c.args.planned.node.party c.args.planned.plan.edits (c.law_can_compact.ensures.too_large Two) c.in-Ok.ensures.fits) c.write.ensures

pub returns-in-Err-TooLarge : goal.returns-in-Err-TooLarge
returns-in-Err-TooLarge g c =
    let told = g.D.Disk.told in
    let first = c.args.planned.node in
    let second = c.args.second in
    let plan = c.args.planned.plan in
    let old : Twin g.row.D.Denot = record { first = first; second = second } in
    let twin = subst (λ m. IsTwin told m) c.given_up.ensures.same c.given_up.ensures.stand in
    subst (λ m. IsPairTurn told old (pair_plan first.party plan) (turn.Refused m JournalFull None None)) (sym c.given_up.ensures.same)
    (refused told first second (g.met.D.Disk.sound second.disk) twin.second_stands twin.same (g.met.D.Disk.sound first.disk) twin.first_stands plan (c.has_edits.ensures.some c.if-not-has_edits.false) (c.law_can_compact.ensures.fits Two)
    (c.in-Err-TooLarge.ensures.too_large (cc c.in-Err-TooLarge.field-0-is)))

pub returns-in-Err-NoMemory : goal.returns-in-Err-NoMemory
returns-in-Err-NoMemory g c =
    let told = g.D.Disk.told in
    let first = c.args.planned.node in
    let second = c.args.second in
    let old : Twin g.row.D.Denot = record { first = first; second = second } in
    let given = c.given_up-in-Err-NoMemory in
    let twin = subst (λ m. IsTwin told m) given.ensures.same given.ensures.stand in
    subst (λ m. IsPairTurn told old (pair_plan first.party c.args.planned.plan) (turn.NoMemory m)) (sym given.ensures.same)
    (no_memory told first second (g.met.D.Disk.sound second.disk) twin.second_stands twin.same (g.met.D.Disk.sound first.disk) twin.first_stands (pair_plan first.party c.args.planned.plan))
