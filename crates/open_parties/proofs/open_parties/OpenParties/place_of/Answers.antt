use Rattle.std.proofs.Common.{◌∙◌, ap}
use Rattle.open_parties.specs.OpenParties.{owners}
use Rattle.open_parties.proofs.Places.{placed, nowhere}
use Rattle.open_parties.proofs.Results.{if_some, if_none}
use Rattle.open_parties.proofs.open_parties.OpenParties.place_of.Goals as goal

pub returns-clause-within : goal.returns-clause-within
returns-clause-within g c = if_some c.index_of.result _ _ (λ place is. (placed c.args.self.now c.args.own.now c.self.inside.names.keys place (c.self.invariant ∙ ap owners c.self.view_is) is).0) c.index_of.ensures.some

pub returns-clause-placed : goal.returns-clause-placed
returns-clause-placed g c = if_some c.index_of.result _ _ (λ place is. (placed c.args.self.now c.args.own.now c.self.inside.names.keys place (c.self.invariant ∙ ap owners c.self.view_is) is).1) c.index_of.ensures.some

pub returns-clause-none : goal.returns-clause-none
returns-clause-none g c = if_none c.index_of.result _ _ (λ is. nowhere c.args.self.now c.args.own.now c.self.inside.names.keys (c.self.invariant ∙ ap owners c.self.view_is) is) c.index_of.ensures.none
