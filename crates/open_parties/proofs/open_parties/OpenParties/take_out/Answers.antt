use Rattle.std.proofs.Common.{◌≡◌, ◌<◌, sym, ◌∙◌, subst, List, length, set}
use Rattle.open_parties.specs.OpenParties.{open_party, AreOpen, IsTakenOut, IsOpen}
use Rattle.open_parties.specs.declared.open_party.PartyDisk.TheVariants.{Open}
use Rattle.open_parties.specs.declared.open_party.OpenParty.{OpenParty}
use Rattle.open_parties.proofs.PuttingIn.{is_in, not_open, takes_out, owners_set}
use Rattle.open_parties.proofs.open_parties.OpenParties.take_out.Goals as goal

pub unreachable-requires : goal.unreachable-requires
unreachable-requires g c =
    let open_parties = c.self.inside.open_parties.items in
    let s = c.index_mut.result.now in
    let within : c.args.place < length open_parties = subst (λ (l : List (OpenParty _)). c.args.place < length l) (sym c.self.view_is) c.requires.within in
    not_open c.replace.result c.in-Closed.is
    (subst IsOpen (sym c.replace.ensures.value) (is_in open_parties c.args.place s within c.index_mut.ensures.value (subst AreOpen (sym c.self.view_is) c.requires.all_open)))

pub returns : goal.returns
returns g c =
    let open_parties = c.self.inside.open_parties.items in
    let s = c.index_mut.result.now in
    let within : c.args.place < length open_parties = subst (λ (l : List (OpenParty _)). c.args.place < length l) (sym c.self.view_is) c.requires.within in
    let opened : s.held ≡ Open c.in-Open.node = sym c.replace.ensures.value ∙ c.in-Open.is in
    subst (λ (l : List (OpenParty _)). IsTakenOut l (set open_parties c.args.place (open_party s.own c.replace.new.dest)) c.args.place c.in-Open.node) c.self.view_is
    (takes_out open_parties c.args.place s c.replace.new.dest c.in-Open.node within c.index_mut.ensures.value opened c.replace.ensures.after)

pub invariant_of-self : goal.invariant_of-self
invariant_of-self g c = c.self.invariant ∙ sym (owners_set c.self.inside.open_parties.items c.args.place c.index_mut.result.now c.replace.new.dest c.index_mut.ensures.value)
