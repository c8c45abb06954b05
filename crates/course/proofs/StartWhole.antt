-- The start of a scenario, as the laws of networks need it.
use Rattle.std.proofs.Common.{arith, ◌≡◌, ℕ, inl, inr, List, Some, refl, sym, subst}
use Rattle.x_mac.specs.declared.pair.Pair.{Pair}
use Rattle.party_tables.specs.declared.link.LinkRec.{LinkRec}
use Rattle.party_tables.specs.Ranges.{IsLink, IsPair}
use Rattle.party_state.specs.Ranges.{IsParty}
use Rattle.role_base.specs.Load.{odd_pair}
use Rattle.scenario.specs.declared.line.Line.{Line}
use Rattle.scenario.specs.declared.line.Line.TheVariants as line
use Rattle.scenario.specs.Behind.{EachBehind}
use Rattle.scenario.specs.Rules.{may_follow}
use Rattle.member.specs.Member.{Member}
use Rattle.world_laws.specs.World.{member_at}
use Rattle.world_laws.specs.Starts.{HasOnlyLinks, IsStart, IsUnused, LinksUnused}
use Rattle.course.specs.Starts.{AreLinesInRange, IsLineInRange, IsLinkInRange, IsPartyInRange, first_member, generator_of, loads_of, start_members, start_world}
use Rattle.course.proofs.StartEnds.{found_loaded, pairs_apart, sends_ends, takes_ends}
use Rattle.course.proofs.StartLists.{all_among}
use Rattle.course.proofs.StartLoads.{Known, only_links, party_stays}
use Rattle.course.proofs.StartMembers.{IsLoaded, IsMember, is_loaded, is_member, members_apart, members_distinct}

module _ (known : Known) (lines : List Line) where
  odd_is : (pair : Pair) → IsPair (odd_pair pair)
  odd_is pair = record { left = (known.odd pair.left).below; right = (known.odd pair.right).below }

  link_is : (ranges : AreLinesInRange lines) (own : List ℕ) (l : LinkRec) → IsLoaded lines own l → IsLink l
  link_is ranges own l (inl s) =
      let r : IsLinkInRange own l.peer l.label s.pair = all_among IsLineInRange lines (line.Link own l.peer l.label s.pair) ranges s.stands in
      subst IsLink (sym s.is) (record { peer = r.recipient_is; label = r.label_is; pair = odd_is s.pair; next = record { low = omega arith; high = omega arith } })
  link_is ranges own l (inr t) =
      let r : IsLinkInRange l.peer own l.label t.pair = all_among IsLineInRange lines (line.Link l.peer own l.label t.pair) ranges t.stands in
      subst IsLink (sym t.is) (record { peer = r.origin_is; label = r.label_is; pair = odd_is t.pair; next = record { low = omega arith; high = omega arith } })

  party_is : (ranges : AreLinesInRange lines) (p : List ℕ) (x : Member) → member_at p (start_members lines) ≡ Some x → IsParty x.party
  party_is ranges p x at =
      let m : IsMember lines p x = is_member lines p x at in
      let r : IsPartyInRange p m.pair m.v = all_among IsLineInRange lines (line.Party p m.role m.pair m.v) ranges m.stands in
      subst (λ (y : Member). IsParty y.party) (sym m.is) (party_stays known (first_member p m.role (generator_of m.pair m.v)) (loads_of p lines)
      (known.begins p m.role (generator_of m.pair m.v) r.name_is (record { key = r.pair_is; v = r.v_is }))
      (λ l a. link_is ranges p l (is_loaded lines p l a)))

  only : (p : List ℕ) (x : Member) → member_at p (start_members lines) ≡ Some x → HasOnlyLinks x.party
  only p x at =
      let m : IsMember lines p x = is_member lines p x at in
      subst (λ (y : Member). HasOnlyLinks y.party) (sym m.is) (only_links (first_member p m.role (generator_of m.pair m.v)) (loads_of p lines) (record { keys = refl; exchanges = refl; answers = refl }))

  unused_is : (own : List ℕ) (l : LinkRec) → IsLoaded lines own l → IsUnused l
  unused_is own l (inl s) = subst IsUnused (sym s.is) (record { ready = refl; next = refl })
  unused_is own l (inr t) = subst IsUnused (sym t.is) (record { ready = refl; next = refl })

  module _ (ordered : EachBehind may_follow lines) where
    unused : (p : List ℕ) (x : Member) → member_at p (start_members lines) ≡ Some x → LinksUnused x.party
    unused p x at = λ k l found. unused_is p l (found_loaded known lines ordered p x k l at found)

    pub is_start : AreLinesInRange lines → IsStart (start_world lines)
    is_start ranges = record {
      members = members_distinct lines ordered;
      apart = members_apart lines ordered;
      parties = party_is ranges;
      only_links = only;
      unused = unused;
      sends_ends = sends_ends known lines ordered;
      takes_ends = takes_ends known lines ordered;
      pairs = pairs_apart known lines ordered;
      no_history = record { texts = refl; facts = refl; births = refl; uses = refl; acceptances = refl };
    }
