use Rattle.call_laws.proofs.Members.{Known}
use Rattle.call_laws.proofs.Disks.{all_new, all_on}
use Rattle.call_laws.proofs.Starts.{is_start}
use Rattle.call_laws.proofs.set_up.law_set_up.Goals as goal

pub returns : goal.returns
returns g c =
    let known : Known = record {
      put = c.law_put.ensures.link;
      same = c.law_same.ensures.link;
      found = c.law_found.ensures.link;
      begins = c.law_party.ensures.begins;
      stays = c.law_party.ensures.stays;
      odd = c.law_odd_stays.ensures;
    } in
    record {
      start = λ keys calls shelves rules tell is. is_start known keys calls rules (all_new c.law_loads.ensures.exactly c.law_one_space.ensures c.law_one_finding.ensures.not_blank calls (λ k. g.H.Shelf.entry (shelves k)) tell is);
      stands = λ calls shelves tell is. all_on c.law_loads.ensures.exactly c.law_one_space.ensures c.law_one_finding.ensures.not_blank calls (λ k. g.H.Shelf.entry (shelves k)) tell is;
    }
