-- A compaction and a migration change no party.
use Rattle.std.proofs.Common.{◌≡◌, ℕ, Some, List, [], inl, inr, refl, sym, ◌∙◌, subst}
use Rattle.std.proofs.lemmas.List.Elements.{All-weaker}
use Rattle.party_tables.specs.Keys.{sends}
use Rattle.party_state.specs.State.{link_with}
use Rattle.member.specs.Member.{Member}
use Rattle.world_laws.specs.World.{World, KkUse, member_at}
use Rattle.world_laws.specs.Steps.{world_with_space}
use Rattle.world_laws.proofs.Lists.Members.{own_is, member_back, each_on}
use Rattle.world_laws.proofs.Links.Found.{HasLinks}
use Rattle.world_laws.proofs.Links.Waiting.{Waits}
use Rattle.world_laws.proofs.Links.Taking.{takes_stay}
use Rattle.world_laws.proofs.Counting.Accepting.{AcceptedBelow, ksm_on}
use Rattle.world_laws.proofs.Counting.Counts.{UseBelow, CountedAt}
use Rattle.change_code.specs.declared.space.Space.{Space}

module _ (n : ℕ) (w : World) (p : List ℕ) (x : Member) (space : Space) (found : member_at p w.members ≡ Some x) where
  use_same : (u : KkUse) → UseBelow n w.births w.members u → UseBelow n w.births (world_with_space w x space).members u
  use_same u b = record {
    born = b.born;
    below = λ z l h now j. elim (member_back w.members p x (record { party = x.party; space = space }) found refl u.kk.originator z h) [
      | inl t ↦ (let at : member_at u.kk.originator w.members ≡ Some x = subst (λ (a : List ℕ). member_at a w.members ≡ Some x) (own_is w.members p x (record { party = x.party; space = space }) found refl ∙ sym t.0) found in
          b.below x l at now (subst (λ (v : Member). link_with (sends u.kk.recipient u.kk.label) v.party ≡ Some l) t.1 j))
      | inr t ↦ b.below z l t now j
    ];
  }

  pub space_counted : CountedAt n w → CountedAt n (world_with_space w x space)
  space_counted i = record {
    positive = i.positive;
    links = each_on w.members p x (record { party = x.party; space = space }) found refl (λ v. HasLinks v.party) i.links (λ d. d);
    waits = each_on w.members p x (record { party = x.party; space = space }) found refl (λ v. Waits v.party) i.waits (λ d. d);
    births = i.births;
    below = All-weaker (UseBelow n w.births w.members) (UseBelow n w.births (world_with_space w x space).members) use_same w.uses i.below;
    apart = i.apart;
    accepted = All-weaker (AcceptedBelow w.members) (AcceptedBelow (world_with_space w x space).members) (ksm_on w.members p x (record { party = x.party; space = space }) [] found (takes_stay x.party x.party refl refl)) w.acceptances i.accepted;
    once = i.once;
  }
