use Rattle.std.proofs.Common.{sym, subst}
use Rattle.x_pair.specs.Comparisons.{TellsLikeness}
use Rattle.x_pair.proofs.BetweenFetches.{all_back, no_fetch, not_back, nothing_told, tells_around}
use Rattle.x_pair.proofs.OneLikeness.{likeness_due}
use Rattle.x_pair.proofs.comparing.compare_pair.Goals as goal

pub returns-in-Err : goal.returns-in-Err
returns-in-Err g c =
    let law = c.law_one_finding.ensures in
    let entry = g.H.Shelf.entry in
    let name = c.args.name.now in
    let mirror = c.args.mirror.now in
    let tells = subst (λ x. TellsLikeness (entry c.args.shelf.now name) (entry c.args.shelf.now mirror) x) (sym c.failed.ensures) (nothing_told (entry c.args.shelf.now name) (entry c.args.shelf.now mirror) c.in-Err.cause) in
    record {
      tells = tells;
      due = likeness_due law.party law.not_blank law.undamaged law.one_damage (entry c.args.shelf.now name) (entry c.args.shelf.now mirror) c.failed.result tells;
      shelf = no_fetch g.H.Disk.Disk.told name mirror _ _ (g.met.H.Shelf.sound c.args.shelf.now name) (g.met.H.Shelf.sound c.args.shelf.now mirror) c.in-Err.cause c.in-Err.ensures c.failed.result c.failed.ensures;
    }

pub returns-in-Ok-put_back_two : goal.returns-in-Ok-put_back_two
returns-in-Ok-put_back_two g c =
    let told = g.H.Disk.Disk.told in
    let law = c.law_one_finding.ensures in
    let entry = g.H.Shelf.entry in
    let name = c.args.name.now in
    let mirror = c.args.mirror.now in
    let disks = c.in-Ok.disks in
    let did = c.compare_over-disks.result in
    let tells = tells_around (entry c.args.shelf.now name) (entry c.args.shelf.now mirror) (told disks.first) (told disks.second) did.1 c.in-Ok.ensures.first c.in-Ok.ensures.second c.compare_over-disks.ensures.tells in
    record {
      tells = tells;
      due = likeness_due law.party law.not_blank law.undamaged law.one_damage (entry c.args.shelf.now name) (entry c.args.shelf.now mirror) did.1 tells;
      shelf = all_back told name mirror _ _ _ disks did.0 did.1 c.in-Ok.ensures c.compare_over-disks.ensures _ c.in-Ok-put_back_two.ensures;
    }

pub returns-in-Err-put_back_two : goal.returns-in-Err-put_back_two
returns-in-Err-put_back_two g c =
    let told = g.H.Disk.Disk.told in
    let law = c.law_one_finding.ensures in
    let entry = g.H.Shelf.entry in
    let name = c.args.name.now in
    let mirror = c.args.mirror.now in
    let disks = c.in-Ok.disks in
    let did = c.compare_over-disks.result in
    let e = c.in-Err-put_back_two.cause in
    let o = c.failed-in-Err-put_back_two.result in
    let tells = subst (λ x. TellsLikeness (entry c.args.shelf.now name) (entry c.args.shelf.now mirror) x) (sym c.failed-in-Err-put_back_two.ensures) (nothing_told (entry c.args.shelf.now name) (entry c.args.shelf.now mirror) e) in
    record {
      tells = tells;
      due = likeness_due law.party law.not_blank law.undamaged law.one_damage (entry c.args.shelf.now name) (entry c.args.shelf.now mirror) o tells;
      shelf = not_back told name mirror _ _ _ disks did.0 did.1 c.in-Ok.ensures c.compare_over-disks.ensures e c.in-Err-put_back_two.ensures o c.failed-in-Err-put_back_two.ensures;
    }
