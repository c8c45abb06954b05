use Rattle.std.proofs.Common.{List, set, sym, ◌∙◌, subst}
use Rattle.open_parties.specs.OpenParties.{open_party, Fills}
use Rattle.open_parties.specs.declared.open_party.OpenParty.{OpenParty}
use Rattle.open_parties.proofs.PuttingIn.{fills, owners_set}
use Rattle.open_parties.proofs.open_parties.OpenParties.put_in.Goals as goal

pub returns : goal.returns
returns g c = subst (λ (l : List (OpenParty _)). Fills l (set c.self.inside.open_parties.items c.args.place (open_party c.index_mut.result.now.own c.args.held)) c.args.place c.args.held) c.self.view_is (fills c.self.inside.open_parties.items c.args.place c.index_mut.result.now c.args.held c.index_mut.ensures.value)

pub invariant_of-self : goal.invariant_of-self
invariant_of-self g c = c.self.invariant ∙ sym (owners_set c.self.inside.open_parties.items c.args.place c.index_mut.result.now c.args.held c.index_mut.ensures.value)
