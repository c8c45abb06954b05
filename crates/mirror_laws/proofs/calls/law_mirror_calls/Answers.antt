use Rattle.mirror_laws.proofs.Called.{is_call}
use Rattle.mirror_laws.proofs.calls.law_mirror_calls.Goals as goal

pub returns : goal.returns
returns g c = λ old new name mirror bytes i moment o makes safe was_first was_second party space read recovers left own.
    is_call c.law_inputs.ensures c.law_refusal.ensures c.law_one_finding.ensures.not_blank c.law_one_space.ensures c.law_recovers.ensures.one_party c.law_recovers.ensures.refused
    name bytes i moment (g.H.Shelf.entry new name) (g.H.Shelf.entry new mirror) was_first was_second party space recovers left own
    (g.H.Shelf.entry old name) (g.H.Shelf.entry old mirror) o read makes safe
