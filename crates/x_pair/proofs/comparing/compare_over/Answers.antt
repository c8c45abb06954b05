use Rattle.std.proofs.Common.{sym, subst}
use Rattle.x_pair.specs.Looking.{HasCompared, found_disk}
use Rattle.x_pair.proofs.Likenesses.{tells, told_fault}
use Rattle.x_pair.proofs.comparing.compare_over.Goals as goal

pub returns : goal.returns
returns g c =
    let told = g.D.Disk.told in
    let one = c.look-one.result in
    let two = c.look-two.result in
    let first = c.look-one.ensures in
    let second = c.look-two.ensures in
    let was = c.args.disks in
    let compared = c.told-compared.result in
    subst (λ d. HasCompared told was (record { first = d; second = c.disk_of-second.result }) compared) (sym c.disk_of-first.ensures)
    (subst (λ d. HasCompared told was (record { first = found_disk one; second = d }) compared) (sym c.disk_of-second.ensures)
    (record {
      tells = tells told was.first was.second one two compared first second c.told-compared.ensures;
      first = first.untouched;
      second = second.untouched;
      first_later = first.later;
      second_later = second.later;
      fault = told_fault (told was.first).faults (told (found_disk one)).faults (told was.second).faults (told (found_disk two)).faults one two compared c.told-compared.ensures first.fault second.fault;
    }))
