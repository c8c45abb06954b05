-- Each link of a start stands at both its ends, and no two have the same pair.
use Rattle.std.proofs.Common.{◌≡◌, ℕ, inl, inr, false, List, Some, refl, sym, ◌∙◌, ap, subst, bytes_eq}
use Rattle.std.proofs.lemmas.Bool.{both_ways, false_from_ne_true}
use Rattle.std.proofs.lemmas.Slice.Eq.{bytes_eq-Decides}
use Rattle.x_base.specs.declared.party.Side.TheVariants.{Sends, Takes}
use Rattle.x_mac.specs.declared.pair.Pair.{Pair}
use Rattle.party_tables.specs.declared.link.LinkKey.{LinkKey}
use Rattle.party_tables.specs.declared.link.LinkRec.{LinkRec}
use Rattle.party_tables.specs.Keys.{link_key, sends, takes}
use Rattle.party_state.specs.State.{link_with}
use Rattle.role_base.specs.Load.{odd_pair}
use Rattle.scenario.specs.declared.line.Line.{Line}
use Rattle.scenario.specs.declared.line.Line.TheVariants as line
use Rattle.scenario.specs.Behind.{EachBehind}
use Rattle.scenario.specs.Rules.{may_follow}
use Rattle.scenario.specs.Rules as rules
use Rattle.member.specs.Member.{Member}
use Rattle.world_laws.specs.World.{member_at}
use Rattle.world_laws.specs.Starts.{SendsEnds, TakesEnds, PairsApart}
use Rattle.course.specs.Starts.{first_member, generator_of, link_of, loads_of, start_members}
use Rattle.course.proofs.Tests.{same_yes}
use Rattle.course.proofs.StartLists.{Among}
use Rattle.course.proofs.StartLines.{AreEnds, are_ends, one_load, one_line}
use Rattle.course.proofs.StartLoads.{Known, first_found, stands_loaded}
use Rattle.course.proofs.StartMembers.{IsLoaded, IsMember, IsSent, IsTaken, has_member, is_loaded, is_member, sent_load, taken_load}

differ_other : (a b : List ℕ) → bytes_eq a b ≡ false → bytes_eq b a ≡ false
differ_other a b h = false_from_ne_true (bytes_eq b a) (λ same. both_ways (bytes_eq a b) h (same_yes a b (sym ((bytes_eq-Decides b a).0 same))))

module _ (known : Known) (lines : List Line) (ordered : EachBehind may_follow lines) where
  -- ---- the line of a link that is found

  pub found_loaded : (p : List ℕ) (x : Member) (k : LinkKey) (l : LinkRec) → member_at p (start_members lines) ≡ Some x → link_with k x.party ≡ Some l → IsLoaded lines p l
  found_loaded p x k l at found =
      let m : IsMember lines p x = is_member lines p x at in
      is_loaded lines p l (first_found known p m.role (generator_of m.pair m.v) k l (loads_of p lines) (subst (λ (y : Member). link_with k y.party ≡ Some l) m.is found))

  sent_from : (p : List ℕ) (x : Member) (peer label : List ℕ) (l : LinkRec) → member_at p (start_members lines) ≡ Some x → link_with (sends peer label) x.party ≡ Some l → IsSent lines p peer label l
  sent_from p x peer label l at found = go (found_loaded p x (sends peer label) l at found)
    where
      key : sends peer label ≡ link_key l
      key = known.found (sends peer label) l x.party found

      go : IsLoaded lines p l → IsSent lines p peer label l
      go (inl s) = subst (λ (k : LinkKey). IsSent lines p k.peer k.label l) (sym key) s
      go (inr t) = let side : l.side ≡ Takes = ap (λ (m : LinkRec). m.side) t.is in let other : Sends ≡ l.side = ap (λ (k : LinkKey). k.side) key in absurd (cc)

  taken_from : (p : List ℕ) (x : Member) (peer label : List ℕ) (l : LinkRec) → member_at p (start_members lines) ≡ Some x → link_with (takes peer label) x.party ≡ Some l → IsTaken lines p peer label l
  taken_from p x peer label l at found = go (found_loaded p x (takes peer label) l at found)
    where
      key : takes peer label ≡ link_key l
      key = known.found (takes peer label) l x.party found

      go : IsLoaded lines p l → IsTaken lines p peer label l
      go (inl s) = let side : l.side ≡ Sends = ap (λ (m : LinkRec). m.side) s.is in let other : Takes ≡ l.side = ap (λ (k : LinkKey). k.side) key in absurd (cc)
      go (inr t) = subst (λ (k : LinkKey). IsTaken lines p k.peer k.label l) (sym key) t

  -- ---- the link of a line

  one_sent : (p peer label : List ℕ) (pair : Pair) → Among lines (line.Link p peer label pair) → (m : LinkRec) → Among (loads_of p lines) m → link_key m ≡ sends peer label → m ≡ link_of peer label Sends pair
  one_sent p peer label pair stands m a key = go (is_loaded lines p m a)
    where
      same : IsSent lines p peer label m → m ≡ link_of peer label Sends pair
      same s = s.is ∙ ap (λ (q : Pair). link_of peer label Sends q) (one_load lines ordered p peer label s.pair pair s.stands stands)

      go : IsLoaded lines p m → m ≡ link_of peer label Sends pair
      go (inl s) = same (subst (λ (k : LinkKey). IsSent lines p k.peer k.label m) key s)
      go (inr t) = let side : m.side ≡ Takes = ap (λ (n : LinkRec). n.side) t.is in let other : m.side ≡ Sends = ap (λ (k : LinkKey). k.side) key in absurd (cc)

  one_taken : (p peer label : List ℕ) (pair : Pair) → Among lines (line.Link peer p label pair) → (m : LinkRec) → Among (loads_of p lines) m → link_key m ≡ takes peer label → m ≡ link_of peer label Takes pair
  one_taken p peer label pair stands m a key = go (is_loaded lines p m a)
    where
      same : IsTaken lines p peer label m → m ≡ link_of peer label Takes pair
      same t = t.is ∙ ap (λ (q : Pair). link_of peer label Takes q) (one_load lines ordered peer p label t.pair pair t.stands stands)

      go : IsLoaded lines p m → m ≡ link_of peer label Takes pair
      go (inl s) = let side : m.side ≡ Sends = ap (λ (n : LinkRec). n.side) s.is in let other : m.side ≡ Takes = ap (λ (k : LinkKey). k.side) key in absurd (cc)
      go (inr t) = same (subst (λ (k : LinkKey). IsTaken lines p k.peer k.label m) key t)

  sent_at : (p : List ℕ) (x : Member) (peer label : List ℕ) (pair : Pair) → member_at p (start_members lines) ≡ Some x → Among lines (line.Link p peer label pair) → link_with (sends peer label) x.party ≡ Some (link_of peer label Sends pair)
  sent_at p x peer label pair at stands =
      let m : IsMember lines p x = is_member lines p x at in
      let l : LinkRec = link_of peer label Sends pair in
      subst (λ (y : Member). link_with (sends peer label) y.party ≡ Some l) (sym m.is) (stands_loaded known (sends peer label) l (first_member p m.role (generator_of m.pair m.v)) (loads_of p lines) (one_sent p peer label pair stands) refl (sent_load lines p peer label pair stands))

  taken_at : (p : List ℕ) (x : Member) (peer label : List ℕ) (pair : Pair) → member_at p (start_members lines) ≡ Some x → Among lines (line.Link peer p label pair) → link_with (takes peer label) x.party ≡ Some (link_of peer label Takes pair)
  taken_at p x peer label pair at stands =
      let m : IsMember lines p x = is_member lines p x at in
      let l : LinkRec = link_of peer label Takes pair in
      let e : AreEnds lines peer p = are_ends lines ordered peer p label pair stands in
      subst (λ (y : Member). link_with (takes peer label) y.party ≡ Some l) (sym m.is) (stands_loaded known (takes peer label) l (first_member p m.role (generator_of m.pair m.v)) (loads_of p lines) (one_taken p peer label pair stands) refl (taken_load lines p peer label pair (differ_other peer p e.differ) stands))

  -- ---- both ends

  pub sends_ends : SendsEnds (start_members lines)
  sends_ends p x peer label l at found =
      let s : IsSent lines p peer label l = sent_from p x peer label l at found in
      let e : AreEnds lines p peer = are_ends lines ordered p peer label s.pair s.stands in
      let y = has_member lines peer e.recipient_is in
      record { member = y.0; at = y.1; link = link_of p label Takes s.pair; found = taken_at peer y.0 p label s.pair y.1 s.stands; pair = ap (λ (m : LinkRec). m.pair) (sym s.is) }

  pub takes_ends : TakesEnds (start_members lines)
  takes_ends p x peer label l at found =
      let t : IsTaken lines p peer label l = taken_from p x peer label l at found in
      let e : AreEnds lines peer p = are_ends lines ordered peer p label t.pair t.stands in
      let y = has_member lines peer e.origin_is in
      record { member = y.0; at = y.1; link = link_of p label Sends t.pair; found = sent_at peer y.0 p label t.pair y.1 t.stands; pair = ap (λ (m : LinkRec). m.pair) (sym t.is) }

  -- ---- the pairs

  sending : (k : LinkKey) → k.side ≡ Sends → k ≡ sends k.peer k.label
  sending k side = λ i. record { peer = k.peer; label = k.label; side = side i }

  same_halves : (p q : Pair) → odd_pair p ≡ odd_pair q → rules.odd_pair p ≡ rules.odd_pair q
  same_halves p q same = λ i. ((same i).left, (same i).right)

  pub pairs_apart : PairsApart (start_members lines)
  pairs_apart p q x y j k l m at_p at_q found_l found_m side_j side_k same =
      let s : IsSent lines p j.peer j.label l = sent_from p x j.peer j.label l at_p (subst (λ (z : LinkKey). link_with z x.party ≡ Some l) (sending j side_j) found_l) in
      let t : IsSent lines q k.peer k.label m = sent_from q y k.peer k.label m at_q (subst (λ (z : LinkKey). link_with z y.party ≡ Some m) (sending k side_k) found_m) in
      let pairs : odd_pair s.pair ≡ odd_pair t.pair = ap (λ (z : LinkRec). z.pair) (sym s.is) ∙ (same ∙ ap (λ (z : LinkRec). z.pair) t.is) in
      let one : line.Link p j.peer j.label s.pair ≡ line.Link q k.peer k.label t.pair = one_line lines ordered p j.peer j.label s.pair q k.peer k.label t.pair s.stands t.stands (same_halves s.pair t.pair pairs) in
      let owner : p ≡ q = cc (one) in
      let peer : j.peer ≡ k.peer = cc (one) in
      let label : j.label ≡ k.label = cc (one) in
      let side : j.side ≡ k.side = side_j ∙ sym side_k in
      (owner, λ i. record { peer = peer i; label = label i; side = side i })
