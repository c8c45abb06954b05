use Rattle.std.proofs.Common.{List, length, ◌<◌, sym, subst}
use Rattle.open_parties.specs.OpenParties.{AreOpen}
use Rattle.open_parties.specs.declared.open_party.OpenParty.{OpenParty}
use Rattle.open_parties.proofs.PuttingIn.{is_in, not_open}
use Rattle.open_parties.proofs.open_parties.OpenParties.view_at.Goals as goal

pub unreachable-requires : goal.unreachable-requires
unreachable-requires g c =
    let open_parties = c.self.inside.open_parties.items in
    let s = c.index.result.now in
    let within : c.args.place < length open_parties = subst (λ (l : List (OpenParty _)). c.args.place < length l) (sym c.self.view_is) c.requires.within in
    not_open s.held c.in-Closed.is (is_in open_parties c.args.place s within c.index.ensures (subst AreOpen (sym c.self.view_is) c.requires.all_open))
