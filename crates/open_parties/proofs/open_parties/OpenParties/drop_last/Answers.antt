use Rattle.std.proofs.Common.{take, ◌-◌, sym, ◌∙◌, ap}
use Rattle.open_parties.proofs.Naming.{names_dropped}
use Rattle.open_parties.proofs.open_parties.OpenParties.drop_last.Goals as goal

pub invariant_of-self : goal.invariant_of-self
invariant_of-self g c =
    c.truncate.ensures.keys
    ∙ names_dropped c.self.inside.open_parties.items c.pop.new.self.items c.self.inside.names.keys c.saturating_sub.result c.len.result c.self.invariant (c.pop.ensures.rest ∙ ap (λ n. take (n - 1) c.self.inside.open_parties.items) (sym c.len.ensures)) c.saturating_sub.ensures
