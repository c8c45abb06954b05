use Rattle.mirror_laws.proofs.Session.{session_is_done}
use Rattle.mirror_laws.proofs.deeds.law_mirror_deeds.Goals as goal

pub returns : goal.returns
returns g c = λ start mirror deeds shelves ends s apart on done.
    session_is_done (record { not_blank = c.law_one_finding.ensures.not_blank; one_space = c.law_one_space.ensures; large = c.law_can_compact.ensures.too_large }) c.law_inputs.ensures c.law_refusal.ensures
    c.law_recovers.ensures.one_party c.law_recovers.ensures.refused c.law_one_finding.ensures.undamaged start mirror apart (λ k. g.H.Shelf.entry (shelves k)) (λ k. g.H.Shelf.entry (ends k)) (λ k q. g.met.H.Shelf.sound (shelves k) q)
    (record { counts = c.law_mirror.ensures.counts; once = c.law_mirror.ensures.once; agreement = c.law_mirror.ensures.agreement; ended = c.law_mirror.ensures.ended }) deeds s on done
