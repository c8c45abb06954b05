use Rattle.std.proofs.Common.{◌≡◌, Some, None, sym, ◌∙◌, ap}
use Rattle.member.specs.Member.{Member}
use Rattle.audit_check.proofs.HeldMembers.{read_at}
use Rattle.audit_check.proofs.parties.Parties.view_at.Goals as goal

pub unreachable-requires : goal.unreachable-requires
unreachable-requires c =
    let t = read_at c.args.self.now c.requires.holds_each.0 c.args.place c.index.result.now c.requires.holds_each.1 c.requires.within c.index.ensures in
    let lie : None ≡ Some t.0 = sym c.in-None.is ∙ t.1 in
    cc lie

pub returns : goal.returns
returns c = λ members holds_each.
    let t = read_at c.args.self.now members c.args.place c.index.result.now holds_each c.requires.within c.index.ensures in
    let both : Some t.0 ≡ Some c.in-Some.held = sym t.1 ∙ c.in-Some.is in
    let same : t.0 ≡ c.in-Some.held = cc both in
    (t.0, t.2, c.view.ensures ∙ ap (λ (m : Member). m.party) (sym same))
