use Rattle.call_laws.proofs.Left.{made_left}
use Rattle.call_laws.proofs.failing.law_failed.Goals as goal

pub returns : goal.returns
returns g c = λ name x action moment o old new own failed made tells stood.
    made_left name (g.H.Shelf.entry old name) (g.H.Shelf.entry new name)
    (λ k m p. c.law_calls.ensures.commands old new name k m p)
    (λ bytes a m p. c.law_calls.ensures.arrivals old new name bytes a m p)
    (λ m p. c.law_calls.ensures.compactions old new name m p)
    (λ m p. c.law_calls.ensures.migrations old new name m p)
    x action moment o own made (g.met.H.Shelf.sound new name) tells stood
