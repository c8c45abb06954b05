use Rattle.std.proofs.Common.{List, [], ◌∷◌, ◌++◌, sym, ◌∙◌, ap, subst}
use Rattle.open_parties.specs.OpenParties.{open_party, owners, NoneOf}
use Rattle.open_parties.specs.declared.open_party.PartyDisk.TheVariants.{Away}
use Rattle.open_parties.specs.declared.open_party.OpenParty.{OpenParty}
use Rattle.open_parties.proofs.Naming.{names_added}
use Rattle.open_parties.proofs.open_parties.OpenParties.add.Goals as goal

pub invariant_of-self-2 : goal.invariant_of-self-2
invariant_of-self-2 g c =
    names_added c.self.inside.open_parties.items c.self.inside.names.keys c.insert.new.self.keys c.args.own (subst (λ (l : List (OpenParty _)). NoneOf l c.args.own) (sym c.self.view_is) c.requires) c.self.invariant c.in-Ok.ensures.keys
    ∙ sym (ap owners (c.in-Ok-push.ensures.items ∙ ap (λ (l : List (OpenParty _)). l ++ open_party c.args.own Away ∷ []) c.in_ok-reserve.ensures.items))
