use Rattle.std.proofs.Common.{Ok, Err, refl, sym, subst}
use Rattle.key_journal.specs.declared.cause.Cause.TheVariants as cause
use Rattle.party_state.specs.State.{Party}
use Rattle.mirror_store.specs.Beside.{IsOverBlank}
use Rattle.mirror_store.specs.Framing.{IsCopying, IsBlankOrBefore}
use Rattle.disk_pair.specs.declared.disks.Disks.{Disks}
use Rattle.mirror_store.specs.declared.pair.PairCause.TheVariants.{First, Second, TooLarge}
use Rattle.mirror_store.specs.declared.uncopied.Uncopied.TheVariants as uncopied
use Rattle.mirror_store.proofs.Opened.{unmade_is, over_copied, over_too_large, over_failed, over_blank, over_refused}
use Rattle.mirror_store.proofs.opening.open_over_blank.Goals as goal

pub returns-in-Ok : goal.returns-in-Ok
returns-in-Ok g c =
    let told = g.D.Disk.told in
    let old : Disks g.row.D.Denot = record { first = c.args.first; second = c.args.second } in
    subst (λ f. IsOverBlank told old (Ok (record { first = f; second = c.in-Stands.second }))) (sym c.of.ensures)
    (over_copied c.law_one_finding.ensures.party c.law_one_finding.ensures.not_blank told old c.in-Stands.second c.in-Stands.ensures c.requires c.in-Ok.first
    (subst (λ (p : Party). IsCopying told c.args.first (IsBlankOrBefore (told c.args.first)) p (Ok c.in-Ok.first)) c.view.ensures.party c.in-Ok.ensures))

pub returns-in-Err-TooLarge : goal.returns-in-Err-TooLarge
returns-in-Err-TooLarge g c =
    let told = g.D.Disk.told in
    let old : Disks g.row.D.Denot = record { first = c.args.first; second = c.args.second } in
    let new = c.in-Err-TooLarge.first in
    let copied : IsCopying told c.args.first (IsBlankOrBefore (told c.args.first)) c.view.result.now (Err (uncopied.TooLarge new)) = subst (λ e. IsCopying told c.args.first (IsBlankOrBefore (told c.args.first)) c.view.result.now (Err e)) c.in-Err-TooLarge.field-0-is c.in-Err-TooLarge.ensures in
    subst (λ u. IsOverBlank told old (Err u)) (unmade_is c.unmade.result _ _ new c.in-Stands.second.disk TooLarge c.unmade.ensures.disks c.unmade.ensures.cause refl c.into_disk.ensures.disk)
    (over_too_large c.law_one_finding.ensures.party c.law_one_finding.ensures.not_blank told old c.in-Stands.second c.in-Stands.ensures c.requires new
    (subst (λ (p : Party). IsCopying told c.args.first (IsBlankOrBefore (told c.args.first)) p (Err (uncopied.TooLarge new))) c.view.ensures.party copied))

pub returns-in-Err-Failed : goal.returns-in-Err-Failed
returns-in-Err-Failed g c =
    let told = g.D.Disk.told in
    let old : Disks g.row.D.Denot = record { first = c.args.first; second = c.args.second } in
    let u = c.in-Err-Failed.field-0-0 in
    let copied : IsCopying told c.args.first (IsBlankOrBefore (told c.args.first)) c.view.result.now (Err (uncopied.Failed u)) = subst (λ e. IsCopying told c.args.first (IsBlankOrBefore (told c.args.first)) c.view.result.now (Err e)) c.in-Err-Failed.field-0-is c.in-Err-Failed.ensures in
    subst (λ v. IsOverBlank told old (Err v)) (unmade_is c.unmade-in-Err-Failed.result _ _ u.disk c.in-Stands.second.disk (First u.cause) c.unmade-in-Err-Failed.ensures.disks c.unmade-in-Err-Failed.ensures.cause refl c.into_disk-in-Err-Failed.ensures.disk)
    (over_failed c.law_one_finding.ensures.party c.law_one_finding.ensures.not_blank told old c.in-Stands.second c.in-Stands.ensures c.requires u
    (subst (λ (p : Party). IsCopying told c.args.first (IsBlankOrBefore (told c.args.first)) p (Err (uncopied.Failed u))) c.view.ensures.party copied))

pub returns-in-Blank : goal.returns-in-Blank
returns-in-Blank g c =
    let told = g.D.Disk.told in
    let old : Disks g.row.D.Denot = record { first = c.args.first; second = c.args.second } in
    subst (λ u. IsOverBlank told old (Err u)) (unmade_is c.unmade-in-Blank.result _ _ c.args.first c.in-Blank.disk (First cause.Blank) c.unmade-in-Blank.ensures.disks c.unmade-in-Blank.ensures.cause refl refl)
    (over_blank c.law_one_finding.ensures.party c.law_one_finding.ensures.not_blank told old (g.met.D.Disk.sound c.args.first) c.in-Blank.disk c.in-Blank.ensures)

pub returns-in-Refused : goal.returns-in-Refused
returns-in-Refused g c =
    let told = g.D.Disk.told in
    let old : Disks g.row.D.Denot = record { first = c.args.first; second = c.args.second } in
    let u = c.in-Refused.field-0 in
    subst (λ v. IsOverBlank told old (Err v)) (unmade_is c.unmade-in-Refused.result _ _ c.args.first u.disk (Second u.cause) c.unmade-in-Refused.ensures.disks c.unmade-in-Refused.ensures.cause refl refl)
    (over_refused c.law_one_finding.ensures.party c.law_one_finding.ensures.not_blank told old (g.met.D.Disk.sound c.args.first) u c.in-Refused.ensures.0 c.in-Refused.ensures.1)
