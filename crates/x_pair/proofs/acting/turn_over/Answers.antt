use Rattle.std.proofs.Common.{None, sym, ◌∙◌, ap, refl, subst}
use Rattle.x_party.specs.Notices.{kept_notice}
use Rattle.x_party.specs.declared.outcome.Outcome.{Outcome}
use Rattle.x_pair.specs.Notices.{HasPairNotice}
use Rattle.x_pair.specs.Outcomes.{turning}
use Rattle.x_pair.specs.Steps.{HasActed}
use Rattle.x_pair.proofs.Acted.{not_displayed, other, turned}
use Rattle.node_core.proofs.ByName.{other_name, same_name}
use Rattle.x_pair.proofs.Noticed.{kept, unopened}
use Rattle.x_pair.proofs.Opened.{not_opened}
use Rattle.x_pair.proofs.acting.turn_over.Goals as goal

pub returns-then-ne : goal.returns-then-ne
returns-then-ne g c =
    let own = c.own-own.result in
    record {
      acted = other g.D.Disk.told c.args.disks c.args.name.now c.args.input.now c.args.moment c.in-Ok.mirror c.in-Ok.ensures c.into_disks.result c.into_disks.ensures
          own (c.own-own.ensures.own ∙ ap (λ p. p.own) c.view.ensures.party) (other_name own c.args.name.now c.ne.result c.ne.ensures c.if-ne.true);
      notice = λ a. λ arrived. λ named. refl;
    }

pub returns-in-Ok-notice_for : goal.returns-in-Ok-notice_for
returns-in-Ok-notice_for g c =
    let told = g.D.Disk.told in
    let m = c.in-Ok.mirror in
    let own = c.own-own.result in
    let is = c.own-own.ensures.own ∙ ap (λ p. p.own) c.view.ensures.party in
    let one_party = c.law_recovers.ensures.one_party in
    record {
      acted = turned told c.args.disks c.args.name.now c.args.input.now c.args.moment one_party c.law_one_finding.ensures.not_blank m c.in-Ok.ensures
          (sym is ∙ same_name own c.args.name.now c.ne.result c.ne.ensures c.if-ne.false) c.turn-turned.result c.turn-turned.ensures c.ended-disks.result c.ended-disks.ensures.disks c.ended-disks.ensures.outcome;
      notice = λ a. λ arrived. λ named.
          kept told c.args.disks m c.in-Ok.ensures one_party c.view-in-Ok.result.now c.view-in-Ok.ensures.party c.args.input.now _ c.args.moment c.in-Ok-notice_for.notice c.in-Ok-notice_for.ensures a arrived named
          c.ended-disks.result.1;
    }

pub returns-in-Err-notice_for : goal.returns-in-Err-notice_for
returns-in-Err-notice_for g c = record {
  acted = not_displayed g.D.Disk.told c.args.disks (turning c.args.name.now c.args.input.now c.args.moment) c.in-Ok.mirror c.in-Ok.ensures c.into_disks-in-Err-notice_for.result c.into_disks-in-Err-notice_for.ensures;
  notice = λ a. λ arrived. λ named. refl;
}

pub returns-in-Err : goal.returns-in-Err
returns-in-Err g c =
    let told = g.D.Disk.told in
    let disks = c.args.disks in
    let u = c.in-Err.field-0 in
    record {
      acted = subst (λ (o : Outcome). HasActed (turning c.args.name.now c.args.input.now c.args.moment) told disks u.disks o) (sym c.outcome_of.ensures)
          (not_opened told disks (turning c.args.name.now c.args.input.now c.args.moment) u c.in-Err.ensures);
      notice = λ a. λ arrived. λ named.
          subst (λ (o : Outcome). HasPairNotice (told disks.first) (told disks.second) a c.args.moment o (kept_notice o None)) (sym c.outcome_of.ensures)
          (unopened (told disks.first) (told disks.second) a c.args.moment u.cause);
    }
