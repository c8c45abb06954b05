-- A network that is set up by the rules is a start.
use Rattle.std.proofs.Common.{arith, ◌≡◌, ◌≢◌, ℕ, inl, inr, false, Some, List, [], map, length, get_or, refl, sym, ◌∙◌, ap, subst, Contains, AllPairs}
use Rattle.std.proofs.lemmas.List.{get_or-map, get_or_default, length-map}
use Rattle.std.proofs.lemmas.Bool.{cases_lt}
use Rattle.x_base.specs.declared.party.Side.TheVariants.{Sends, Takes}
use Rattle.party_tables.specs.declared.link.LinkKey.{LinkKey}
use Rattle.party_tables.specs.declared.link.LinkRec.{LinkRec}
use Rattle.party_tables.specs.Keys.{sends, takes}
use Rattle.party_state.specs.State.{link_with, expands_alike}
use Rattle.role_base.specs.Load.{odd_pair}
use Rattle.member.specs.Member.{Member}
use Rattle.world_laws.specs.World.{own_of, member_at}
use Rattle.world_laws.specs.Starts.{HasOtherEnd, SendsEnds, TakesEnds, PairsApart, IsStart}
use Rattle.call_laws.specs.SetUp.{End, SetUp, link_at, members_by, names_in, ends_in, network_of}
use Rattle.call_laws.specs.Rules.{SharedKey, sending_end, taking_end, IsEndOf, KeepsRules}
use Rattle.call_laws.proofs.Members.{Known}
use Rattle.call_laws.proofs.Disks.{AreNew}
use Rattle.call_laws.proofs.Found.{IsLoaded, StoodAt, are_first, comes_from, are_distinct}
use Rattle.call_laws.proofs.Stays.{all_load, all_names}

-- the key of which a link is the end for sending, or for taking
record IsSent (keys : List SharedKey) (own peer label : List ℕ) (l : LinkRec) : Type 0 where
  shared : SharedKey
  stands : Contains keys shared
  own_is : own ≡ shared.originator
  peer_is : peer ≡ shared.recipient
  label_is : label ≡ shared.label
  pair_is : l.pair ≡ odd_pair shared.pair

record IsTaken (keys : List SharedKey) (own peer label : List ℕ) (l : LinkRec) : Type 0 where
  shared : SharedKey
  stands : Contains keys shared
  own_is : own ≡ shared.recipient
  peer_is : peer ≡ shared.originator
  label_is : label ≡ shared.label
  pair_is : l.pair ≡ odd_pair shared.pair

-- of elements that differ by a mark, two with one mark are one
one_of_two : {X Y : Type 0} (f : X → Y) (xs : List X) → AllPairs (λ x y. f x ≢ f y) xs → (x y : X) → Contains xs x → Contains xs y → f x ≡ f y → x ≡ y
one_of_two {X} f xs apart x y a b same = elim (cases_lt a.0 b.0) [
  | inl low ↦ absurd (apart a.0 b.0 x low b.1 (ap f (at x a) ∙ (same ∙ sym (ap f (at y b)))))
  | inr high ↦ elim (cases_lt b.0 a.0) [
    | inl low ↦ absurd (apart b.0 a.0 x low a.1 (ap f (at y b) ∙ (sym same ∙ sym (ap f (at x a)))))
    | inr low ↦ (let is : a.0 ≡ b.0 = omega (arith, high, low) in sym (at x a) ∙ (ap (λ (k : ℕ). get_or xs k x) is ∙ at y b))
  ]
]
  where
    at : (z : X) (c : Contains xs z) → get_or xs c.0 x ≡ z
    at z c = get_or_default xs c.0 x z c.1 ∙ c.2

module _ (known : Known) (keys : List SharedKey) (ss : List SetUp) (rules : KeepsRules keys ss) (new : AreNew [] ss) where
  -- ---- the key of a link that stands

  loaded : (p : List ℕ) (x : Member) (k : LinkKey) (l : LinkRec) → member_at p (members_by ss []) ≡ Some x → link_with k x.party ≡ Some l → IsLoaded (ends_in ss) p k l
  loaded p x k l at found = elim (comes_from known [] ss new p k l (record { member = x; at = at; found = found })) [
    | inl l ↦ l
    | inr t ↦ (let none : member_at p [] ≡ Some t.member = t.at in absurd (cc (none)))
  ]

  sent_from : (p peer label : List ℕ) (l : LinkRec) → IsLoaded (ends_in ss) p (sends peer label) l → IsSent keys p peer label l
  sent_from p peer label l i = go (rules.only i.end i.among)
    where
      go : IsEndOf keys i.end → IsSent keys p peer label l
      go o = elim o.end [
        | inl e ↦ (let key : sends peer label ≡ sends o.shared.recipient o.shared.label = i.key_is ∙ ap (λ (d : End). d.key) e in
            record {
              shared = o.shared;
              stands = o.stands;
              own_is = i.own_is ∙ ap (λ (d : End). d.own) e;
              peer_is = ap (λ (k : LinkKey). k.peer) key;
              label_is = ap (λ (k : LinkKey). k.label) key;
              pair_is = ap (λ (m : LinkRec). m.pair) i.is ∙ ap (λ (d : End). odd_pair d.pair) e;
            })
        | inr e ↦ (let side : Sends ≡ Takes = ap (λ (k : LinkKey). k.side) (i.key_is ∙ ap (λ (d : End). d.key) e) in absurd (cc (side)))
      ]

  taken_from : (p peer label : List ℕ) (l : LinkRec) → IsLoaded (ends_in ss) p (takes peer label) l → IsTaken keys p peer label l
  taken_from p peer label l i = go (rules.only i.end i.among)
    where
      go : IsEndOf keys i.end → IsTaken keys p peer label l
      go o = elim o.end [
        | inl e ↦ (let side : Takes ≡ Sends = ap (λ (k : LinkKey). k.side) (i.key_is ∙ ap (λ (d : End). d.key) e) in absurd (cc (side)))
        | inr e ↦ (let key : takes peer label ≡ takes o.shared.originator o.shared.label = i.key_is ∙ ap (λ (d : End). d.key) e in
            record {
              shared = o.shared;
              stands = o.stands;
              own_is = i.own_is ∙ ap (λ (d : End). d.own) e;
              peer_is = ap (λ (k : LinkKey). k.peer) key;
              label_is = ap (λ (k : LinkKey). k.label) key;
              pair_is = ap (λ (m : LinkRec). m.pair) i.is ∙ ap (λ (d : End). odd_pair d.pair) e;
            })
      ]

  -- ---- both ends

  other_end : (e : End) (l : LinkRec) → Contains (ends_in ss) e → l.pair ≡ odd_pair e.pair → HasOtherEnd (members_by ss []) e.own e.key l
  other_end e l among pair =
      let t : StoodAt (members_by ss []) e.own e.key (link_at e) = all_load known [] ss new e among in
      record { member = t.member; at = t.at; link = link_at e; found = t.found; pair = sym pair }

  sends_ends : SendsEnds (members_by ss [])
  sends_ends p x peer label l at found =
      let s : IsSent keys p peer label l = sent_from p peer label l (loaded p x (sends peer label) l at found) in
      let there : HasOtherEnd (members_by ss []) s.shared.recipient (takes s.shared.originator s.shared.label) l = other_end (taking_end s.shared) l (rules.both s.shared s.stands).1 s.pair_is in
      subst (λ (q : List ℕ). HasOtherEnd (members_by ss []) q (takes p label) l) (sym s.peer_is)
      (subst (λ (q : List ℕ). HasOtherEnd (members_by ss []) s.shared.recipient (takes q label) l) (sym s.own_is)
      (subst (λ (q : List ℕ). HasOtherEnd (members_by ss []) s.shared.recipient (takes s.shared.originator q) l) (sym s.label_is) there))

  takes_ends : TakesEnds (members_by ss [])
  takes_ends p x peer label l at found =
      let t : IsTaken keys p peer label l = taken_from p peer label l (loaded p x (takes peer label) l at found) in
      let there : HasOtherEnd (members_by ss []) t.shared.originator (sends t.shared.recipient t.shared.label) l = other_end (sending_end t.shared) l (rules.both t.shared t.stands).0 t.pair_is in
      subst (λ (q : List ℕ). HasOtherEnd (members_by ss []) q (sends p label) l) (sym t.peer_is)
      (subst (λ (q : List ℕ). HasOtherEnd (members_by ss []) t.shared.originator (sends q label) l) (sym t.own_is)
      (subst (λ (q : List ℕ). HasOtherEnd (members_by ss []) t.shared.originator (sends t.shared.recipient q) l) (sym t.label_is) there))

  -- ---- the pairs

  sending : (k : LinkKey) → k.side ≡ Sends → k ≡ sends k.peer k.label
  sending k side = λ i. record { peer = k.peer; label = k.label; side = side i }

  pairs_apart : PairsApart (members_by ss [])
  pairs_apart p q x y j k l m at_p at_q found_l found_m side_j side_k same =
      let s : IsSent keys p j.peer j.label l = sent_from p j.peer j.label l (loaded p x (sends j.peer j.label) l at_p (subst (λ (z : LinkKey). link_with z x.party ≡ Some l) (sending j side_j) found_l)) in
      let t : IsSent keys q k.peer k.label m = sent_from q k.peer k.label m (loaded q y (sends k.peer k.label) m at_q (subst (λ (z : LinkKey). link_with z y.party ≡ Some m) (sending k side_k) found_m)) in
      let one : s.shared ≡ t.shared = one_of_two (λ (c : SharedKey). odd_pair c.pair) keys rules.pairs s.shared t.shared s.stands t.stands (sym s.pair_is ∙ (same ∙ t.pair_is)) in
      let peer : j.peer ≡ k.peer = s.peer_is ∙ (ap (λ (c : SharedKey). c.recipient) one ∙ sym t.peer_is) in
      let label : j.label ≡ k.label = s.label_is ∙ (ap (λ (c : SharedKey). c.label) one ∙ sym t.label_is) in
      let side : j.side ≡ k.side = side_j ∙ sym side_k in
      (s.own_is ∙ (ap (λ (c : SharedKey). c.originator) one ∙ sym t.own_is), λ i. record { peer = peer i; label = label i; side = side i })

  -- ---- the names

  names_are : map own_of (members_by ss []) ≡ names_in ss
  names_are = all_names [] ss new

  apart : AllPairs (λ x y. expands_alike x.party.own y.party.own ≡ false) (members_by ss [])
  apart i j d low high =
      let ms : List Member = members_by ss [] in
      let long : length (map own_of ms) ≡ length ms = length-map ms own_of in
      let names : AllPairs (λ p q. expands_alike p q ≡ false) (map own_of ms) = subst (AllPairs (λ p q. expands_alike p q ≡ false)) (sym names_are) rules.names in
      let is : expands_alike (get_or (map own_of ms) i d.party.own) (get_or (map own_of ms) j d.party.own) ≡ false = names i j d.party.own low (omega (arith, long, high)) in
      subst (λ (q : List ℕ). expands_alike (get_or ms i d).party.own q ≡ false) (get_or-map own_of ms j d d.party.own high)
      (subst (λ (p : List ℕ). expands_alike p (get_or (map own_of ms) j d.party.own) ≡ false) (get_or-map own_of ms i d d.party.own (omega (arith, low, high))) is)

  -- ---- the start

  pub is_start : IsStart (network_of ss)
  is_start =
      let first = are_first known [] ss new rules.ranges (λ p x at. absurd (cc (at))) in
      record {
        members = are_distinct [] ss new tt;
        apart = apart;
        parties = λ p x at. (first p x at).party;
        only_links = λ p x at. (first p x at).links;
        unused = λ p x at. (first p x at).unused;
        sends_ends = sends_ends;
        takes_ends = takes_ends;
        pairs = pairs_apart;
        no_history = record { texts = refl; facts = refl; births = refl; uses = refl; acceptances = refl };
      }
