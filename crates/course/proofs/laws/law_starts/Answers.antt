use Rattle.course.proofs.StartLoads.{Known}
use Rattle.course.proofs.StartOrder.{have_loads}
use Rattle.course.proofs.StartWhole.{is_start}
use Rattle.course.proofs.laws.law_starts.Goals as goal

pub returns : goal.returns
returns c =
    let known : Known = record {
      put = c.law_put.ensures.link;
      same = c.law_same.ensures.link;
      found = c.law_found.ensures.link;
      begins = c.law_party.ensures.begins;
      stays = c.law_party.ensures.stays;
      odd = c.law_odd_stays.ensures;
    } in
    record { start = λ lines ranges rules. is_start known lines rules ranges; loads = λ lines rules. have_loads known lines rules }
