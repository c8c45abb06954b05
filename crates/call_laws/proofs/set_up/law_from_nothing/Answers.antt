use Rattle.std.proofs.Common.{arith, ◌≡◌, ℕ, ◌+◌, length, subst}
use Rattle.call_laws.specs.Sessions.{StandsOn, AreDone}
use Rattle.call_laws.specs.SetUp.{network_of}
use Rattle.call_laws.proofs.Later.{shifted}
use Rattle.call_laws.proofs.set_up.law_from_nothing.Goals as goal

pub returns : goal.returns
returns g c = λ keys calls deeds shelves ends rules tell is done.
    let n : ℕ = length calls in
    let none : n ≡ n + 0 = omega arith in
    c.law_deeds.ensures (network_of calls) deeds (λ k. shelves (n + k)) (λ k. ends (n + k)) (c.law_set_up.ensures.start keys calls shelves rules tell is)
    (subst (λ (m : ℕ). StandsOn (g.H.Shelf.entry (shelves m)) (network_of calls)) none (c.law_set_up.ensures.stands calls shelves tell is))
    (shifted (network_of calls) deeds n 0 (λ k. g.H.Shelf.entry (shelves k)) (λ k. g.H.Shelf.entry (ends k)) (subst (λ (m : ℕ). AreDone (network_of calls) deeds m (λ k. g.H.Shelf.entry (shelves k)) (λ k. g.H.Shelf.entry (ends k))) none done))
