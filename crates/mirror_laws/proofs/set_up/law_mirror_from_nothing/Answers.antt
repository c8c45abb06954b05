use Rattle.std.proofs.Common.{arith, ◌≡◌, ℕ, ◌+◌, length, subst}
use Rattle.call_laws.specs.SetUp.{network_of}
use Rattle.mirror_laws.specs.Sessions.{AllStandOnOwn, AreDeedsDone}
use Rattle.mirror_laws.proofs.FromNothing.{shifted}
use Rattle.mirror_laws.proofs.set_up.law_mirror_from_nothing.Goals as goal

pub returns : goal.returns
returns g c = λ keys mirror calls deeds shelves ends rules apart tell is done.
    let n : ℕ = length calls in
    let none : n ≡ n + 0 = omega arith in
    c.law_mirror_deeds.ensures (network_of calls) mirror deeds (λ k. shelves (n + k)) (λ k. ends (n + k)) (c.law_mirror_set_up.ensures.start keys mirror calls shelves rules apart tell is) apart
    (subst (λ (m : ℕ). AllStandOnOwn mirror (g.H.Shelf.entry (shelves m)) (network_of calls)) none (c.law_mirror_set_up.ensures.stands mirror calls shelves apart tell is))
    (shifted (network_of calls) mirror deeds n 0 (λ k. g.H.Shelf.entry (shelves k)) (λ k. g.H.Shelf.entry (ends k))
    (subst (λ (m : ℕ). AreDeedsDone (network_of calls) mirror deeds m (λ k. g.H.Shelf.entry (shelves k)) (λ k. g.H.Shelf.entry (ends k))) none done))
