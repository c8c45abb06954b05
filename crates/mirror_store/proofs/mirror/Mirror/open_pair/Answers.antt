use Rattle.std.proofs.Common.{◌∙◌, Err, refl, sym, subst}
use Rattle.mirror_store.specs.Opening.{IsPairOpened}
use Rattle.mirror_store.specs.declared.pair.PairCause.TheVariants.{First}
use Rattle.mirror_store.proofs.Opened.{unmade_is, opened_beside, opened_over, opened_refused}
use Rattle.mirror_store.proofs.mirror.Mirror.open_pair.Goals as goal

pub returns-in-Stands : goal.returns-in-Stands
returns-in-Stands g c =
    opened_beside c.law_one_finding.ensures.party c.law_one_finding.ensures.not_blank g.D.Disk.told c.law_recovers.ensures.refused c.args.disks c.in-Stands.first c.in-Stands.ensures c.open_beside.result c.open_beside.ensures

pub open_over_blank-requires : goal.open_over_blank-requires
open_over_blank-requires g c = λ b now. c.in-Blank.ensures.refused b (sym c.in-Blank.ensures.now ∙ now)

pub returns-in-Blank : goal.returns-in-Blank
returns-in-Blank g c =
    opened_over c.law_one_finding.ensures.party c.law_one_finding.ensures.not_blank g.D.Disk.told c.law_recovers.ensures.refused c.args.disks c.in-Blank.disk c.in-Blank.ensures c.open_over_blank.result c.open_over_blank.ensures

pub returns-in-Refused : goal.returns-in-Refused
returns-in-Refused g c =
    let told = g.D.Disk.told in
    let u = c.in-Refused.field-0 in
    subst (λ v. IsPairOpened told c.args.disks (Err v)) (unmade_is c.unmade.result _ _ u.disk c.args.disks.second (First u.cause) c.unmade.ensures.disks c.unmade.ensures.cause refl refl)
    (opened_refused c.law_one_finding.ensures.party c.law_one_finding.ensures.not_blank told c.law_recovers.ensures.refused c.args.disks u c.in-Refused.ensures.0 c.in-Refused.ensures.1 (g.met.D.Disk.sound c.args.disks.second))
