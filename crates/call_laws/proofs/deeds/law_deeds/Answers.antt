use Rattle.call_laws.proofs.Session.{session_is_done}
use Rattle.call_laws.proofs.deeds.law_deeds.Goals as goal

pub returns : goal.returns
returns g c = λ start deeds shelves ends.
    session_is_done c.law_one_space.ensures c.law_one_finding.ensures.not_blank c.law_one_finding.ensures.undamaged start (λ k. g.H.Shelf.entry (shelves k)) (λ k. g.H.Shelf.entry (ends k)) (λ k q. g.met.H.Shelf.sound (shelves k) q) deeds
