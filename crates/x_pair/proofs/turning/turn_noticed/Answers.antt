use Rattle.std.proofs.Common.{List, ℕ, Option, sym, subst}
use Rattle.x_party.specs.Notices.{kept_notice}
use Rattle.x_party.specs.declared.outcome.Outcome.{Outcome}
use Rattle.x_pair.specs.Dues.{GivesDuePair, IsDueTurn}
use Rattle.x_pair.specs.Notices.{HasPairNotice}
use Rattle.x_pair.specs.Outcomes.{LeavesBoth, MakesPair, turning}
use Rattle.x_pair.proofs.Around.{all_makes, all_safe, all_shelf, failed, told_so, unfetched_makes, unfetched_safe, unfetched_shelf}
use Rattle.x_pair.proofs.Dues.{turn_due}
use Rattle.x_pair.proofs.Noticed.{closed, unfetched}
use Rattle.x_pair.proofs.turning.turn_noticed.Goals as goal

pub returns-in-Err : goal.returns-in-Err
returns-in-Err g c =
    let told = g.H.Disk.Disk.told in
    let first = g.met.H.Shelf.sound c.args.shelf.now c.args.name.now in
    let second = g.met.H.Shelf.sound c.args.shelf.now c.args.mirror.now in
    let entry = g.H.Shelf.entry in
    let law = c.law_one_finding.ensures in
    let recovering = c.law_recovers.ensures in
    let made = unfetched_makes told c.args.name.now c.args.mirror.now _ _ c.in-Err.cause c.failure.result c.failure.ensures c.in-Err.ensures first second (turning c.args.name.now c.args.input.now c.args.moment) in
    record {
      turned = made;
      due = turn_due law.party law.not_blank law.undamaged law.one_damage recovering.one_party recovering.refused (entry c.args.shelf.now c.args.name.now) (entry c.args.shelf.now c.args.mirror.now) (entry c.fetch_two.new.shelf c.args.name.now) (entry c.fetch_two.new.shelf c.args.mirror.now) c.failure.result c.law_one_space.ensures c.args.name.now c.args.input.now c.args.moment made;
      safe = unfetched_safe told c.args.name.now c.args.mirror.now _ _ c.in-Err.cause c.failure.result c.failure.ensures c.in-Err.ensures first second (turning c.args.name.now c.args.input.now c.args.moment);
      shelf = unfetched_shelf told c.args.name.now c.args.mirror.now _ _ c.in-Err.cause c.failure.result c.failure.ensures c.in-Err.ensures first second;
      notice = λ a. λ arrived. λ named. unfetched (entry c.args.shelf.now c.args.name.now) (entry c.args.shelf.now c.args.mirror.now) a c.args.moment c.failure.result _ _ (failed told c.args.name.now c.args.mirror.now _ _ c.in-Err.cause c.failure.result c.failure.ensures c.in-Err.ensures first second);
    }

pub returns : goal.returns
returns g c =
    let told = g.H.Disk.Disk.told in
    let name = c.args.name.now in
    let mirror = c.args.mirror.now in
    let moment = c.args.moment in
    let w = turning name c.args.input.now moment in
    let disks = c.in-Ok.disks in
    let did = c.turn_over-disks.result in
    let acted = c.turn_over-disks.ensures.acted in
    let outcome = c.closed-outcome.result in
    let told_as = c.closed-outcome.ensures in
    let back = c.put_back_two-put.ensures in
    let put = c.put_back_two-put.result in
    let is = sym c.of.ensures.outcome in
    let entry = g.H.Shelf.entry in
    let faults = g.H.Shelf.faults in
    let old = c.args.shelf.now in
    let new = c.put_back_two-put.new.shelf in
    let law = c.law_one_finding.ensures in
    let recovering = c.law_recovers.ensures in
    let made = all_makes told name mirror _ _ _ disks did.0 put did.1 outcome c.in-Ok.ensures back told_as w acted in
    record {
      turned = subst (λ (o : Outcome). MakesPair w (entry old name) (entry old mirror) (entry new name) (entry new mirror) o) is made;
      due = subst (λ (o : Outcome). GivesDuePair (entry old name) (entry old mirror) (IsDueTurn name c.args.input.now moment) o) is
          (turn_due law.party law.not_blank law.undamaged law.one_damage recovering.one_party recovering.refused (entry old name) (entry old mirror) (entry new name) (entry new mirror) outcome c.law_one_space.ensures name c.args.input.now moment made);
      safe = all_safe told name mirror _ _ _ disks did.0 put did.1 outcome c.in-Ok.ensures back told_as w acted;
      shelf = subst (λ (o : Outcome). LeavesBoth name mirror o (g.H.Shelf.is_back new name) (g.H.Shelf.is_back new mirror) (entry old) (entry new) (faults old) (faults new)) is
          (all_shelf told name mirror _ _ _ disks did.0 put did.1 outcome c.in-Ok.ensures back told_as acted.faults);
      notice = λ a. λ arrived. λ named.
          subst (λ (n : Option (List ℕ)). HasPairNotice (entry old name) (entry old mirror) a moment c.of.result.outcome n) (sym c.of.ensures.notice)
          (subst (λ (o : Outcome). HasPairNotice (entry old name) (entry old mirror) a moment o (kept_notice outcome did.2)) is
          (closed (entry old name) (entry old mirror) (told disks.first) (told disks.second) c.in-Ok.ensures.first c.in-Ok.ensures.second a moment did.2 did.1 outcome _ _ (told_so told name mirror _ _ _ disks did.0 put did.1 outcome c.in-Ok.ensures back told_as)
          (c.turn_over-disks.ensures.notice a arrived named)));
    }
