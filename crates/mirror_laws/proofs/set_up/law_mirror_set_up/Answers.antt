use Rattle.call_laws.proofs.Members as members
use Rattle.call_laws.proofs.Starts.{is_start}
use Rattle.mirror_laws.proofs.Images.{Known}
use Rattle.mirror_laws.proofs.FromNothing.{set_up}
use Rattle.mirror_laws.proofs.set_up.law_mirror_set_up.Goals as goal

pub returns : goal.returns
returns g c =
    let images : Known = record { not_blank = c.law_one_finding.ensures.not_blank; one_space = c.law_one_space.ensures; large = c.law_can_compact.ensures.too_large } in
    let parties : members.Known = record {
      put = c.law_put.ensures.link;
      same = c.law_same.ensures.link;
      found = c.law_found.ensures.link;
      begins = c.law_party.ensures.begins;
      stays = c.law_party.ensures.stays;
      odd = c.law_odd_stays.ensures;
    } in
    record {
      start = λ keys mirror calls shelves rules apart tell is. is_start parties keys calls rules (set_up images c.law_loads.ensures.exactly mirror calls apart (λ k. g.H.Shelf.entry (shelves k)) tell is).are_new;
      stands = λ mirror calls shelves apart tell is. (set_up images c.law_loads.ensures.exactly mirror calls apart (λ k. g.H.Shelf.entry (shelves k)) tell is).on;
    }
