-- What holds of the PARTY and LINK lines of a scenario.
use Rattle.std.proofs.Common.{◌≡◌, ◌==◌, ℕ, ◌⊎◌, inl, inr, Bool, true, false, not, List, [], ◌∷◌, Some, is_some, count_by, length, codes, cond, refl, sym, ap, subst, bytes_eq, eq-eqb}
use Rattle.std.specs.Prelude.{◌&&◌, ◌||◌, nat_lt}
use Rattle.std.specs.List.{filter_map, list_all, list_any}
use Rattle.std.specs.Map.{lookup}
use Rattle.std.proofs.lemmas.Bool.{and_from, and_parts, both_ways, not-true}
use Rattle.std.proofs.lemmas.Slice.Eq.{bytes_eq-Decides}
use Rattle.x_base.specs.Ident.{expanded}
use Rattle.x_base.specs.declared.party.Role.{Role}
use Rattle.x_mac.specs.declared.pair.Pair.{Pair}
use Rattle.scenario.specs.declared.line.Line.{Line}
use Rattle.scenario.specs.declared.line.Line.TheVariants as line
use Rattle.scenario.specs.Behind.{EachBehind}
use Rattle.scenario.specs.Rules.{both_or_neither, declared, ends, expansion, is_centre, is_declared, is_end, is_party, is_party_or_link, loaded, may_declare, may_follow, may_load, odd_pair, same_ends, same_two}
use Rattle.course.proofs.Tests.{same_yes}
use Rattle.course.proofs.StartLists.{Among, Ordered, Parted, GivenBy, parted, among_whole, none_among, ordered_by, two_among, map_among, among_map}

-- ---- each line against those before it

-- the later of two lines has other ends, another pair and another expansion
pub record AreApart (x y : Line) : Type 0 where
  pub ends_apart : (u v : List ℕ × List ℕ × List ℕ) → ends x ≡ Some u → ends y ≡ Some v → same_ends v u ≡ false
  pub pairs_apart : (u v : ℕ × ℕ) → loaded x ≡ Some u → loaded y ≡ Some v → same_two v u ≡ false
  pub expansions_apart : (u v : ℕ × ℕ) → expansion x ≡ Some u → expansion y ≡ Some v → same_two v u ≡ false

-- what the rule of a LINK line says
pub record MayLoad (before : List Line) (origin recipient label : List ℕ) (pair : Pair) : Type 0 where
  pub origin_declared : is_declared before origin ≡ true
  pub recipient_declared : is_declared before recipient ≡ true
  pub differ : bytes_eq origin recipient ≡ false
  pub pair_apart : list_any (same_two (odd_pair pair)) (filter_map loaded before) ≡ false
  pub ends_apart : list_any (same_ends (origin, recipient, label)) (filter_map ends before) ≡ false

rule_of : (before : List Line) (origin recipient label : List ℕ) (pair : Pair) → may_load before origin recipient label pair ≡ true → MayLoad before origin recipient label pair
rule_of before origin recipient label pair ok =
    let both : Bool = is_declared before origin && is_declared before recipient in
    let differ : Bool = not (bytes_eq origin recipient) in
    let of_centre : Bool = both_or_neither (bytes_eq label (codes "C")) (is_centre before origin || is_centre before recipient) in
    let pairs : Bool = list_any (same_two (odd_pair pair)) (filter_map loaded before) in
    let lines : Bool = list_any (same_ends (origin, recipient, label)) (filter_map ends before) in
    let few : Bool = nat_lt (count_by (is_end origin) before) 64 && nat_lt (count_by (is_end recipient) before) 64 in
    let behind = (and_parts (list_all is_party_or_link before) (both && (differ && (of_centre && (not pairs && (not lines && few))))) ok).1 in
    let first = and_parts both (differ && (of_centre && (not pairs && (not lines && few)))) behind in
    let second = and_parts differ (of_centre && (not pairs && (not lines && few))) first.1 in
    let fourth = and_parts (not pairs) (not lines && few) (and_parts of_centre (not pairs && (not lines && few)) second.1).1 in
    record {
      origin_declared = (and_parts (is_declared before origin) (is_declared before recipient) first.0).0;
      recipient_declared = (and_parts (is_declared before origin) (is_declared before recipient) first.0).1;
      differ = not-true (bytes_eq origin recipient) second.0;
      pair_apart = not-true pairs fourth.0;
      ends_apart = not-true lines (and_parts (not lines) few fourth.1).0;
    }

party_apart : (before : List Line) (x : Line) (name : List ℕ) (role : Role) (pair : Pair) (v : ℕ) → Among before x → may_declare before name ≡ true → AreApart x (line.Party name role pair v)
party_apart before x name role pair v m ok =
    let alone : list_any (same_two (expanded name)) (filter_map expansion before) ≡ false = not-true (list_any (same_two (expanded name)) (filter_map expansion before)) (and_parts (nat_lt (length (filter_map declared before)) 64) (not (list_any (same_two (expanded name)) (filter_map expansion before))) (and_parts (list_all is_party before) (nat_lt (length (filter_map declared before)) 64 && not (list_any (same_two (expanded name)) (filter_map expansion before))) ok).1).1 in
    record {
      ends_apart = λ u w e f. absurd (cc (f));
      pairs_apart = λ u w e f. absurd (cc (f));
      expansions_apart = λ u w e f.
          let is : expanded name ≡ w = cc (f) in
          subst (λ (z : ℕ × ℕ). same_two z u ≡ false) is (none_among (same_two (expanded name)) (filter_map expansion before) u alone (map_among expansion before x u m e));
    }

link_apart : (before : List Line) (x : Line) (origin recipient label : List ℕ) (pair : Pair) → Among before x → MayLoad before origin recipient label pair → AreApart x (line.Link origin recipient label pair)
link_apart before x origin recipient label pair m rule = record {
  ends_apart = λ u w e f.
      let is : (origin, recipient, label) ≡ w = cc (f) in
      subst (λ (z : List ℕ × List ℕ × List ℕ). same_ends z u ≡ false) is (none_among (same_ends (origin, recipient, label)) (filter_map ends before) u rule.ends_apart (map_among ends before x u m e));
  pairs_apart = λ u w e f.
      let is : odd_pair pair ≡ w = cc (f) in
      subst (λ (z : ℕ × ℕ). same_two z u ≡ false) is (none_among (same_two (odd_pair pair)) (filter_map loaded before) u rule.pair_apart (map_among loaded before x u m e));
  expansions_apart = λ u w e f. absurd (cc (f));
}

later_apart : (before : List Line) (x y : Line) → Among before x → may_follow before y ≡ true → AreApart x y
later_apart before x (line.Party name role pair v) m ok = party_apart before x name role pair v m ok
later_apart before x (line.Link origin recipient label pair) m ok = link_apart before x origin recipient label pair m (rule_of before origin recipient label pair ok)
later_apart before x y m ok = record {
  ends_apart = λ u w e f. absurd (cc (f));
  pairs_apart = λ u w e f. absurd (cc (f));
  expansions_apart = λ u w e f. absurd (cc (f));
}

-- ---- the parties that are declared

-- a PARTY line of this name
pub record IsDeclared (lines : List Line) (name : List ℕ) : Type 0 where
  pub role : Role
  pub pair : Pair
  pub v : ℕ
  pub stands : Among lines (line.Party name role pair v)

pub record IsPartyLine (l : Line) (name : List ℕ) : Type 0 where
  pub role : Role
  pub pair : Pair
  pub v : ℕ
  pub is : l ≡ line.Party name role pair v

party_line : (l : Line) (e : List ℕ × Role) → declared l ≡ Some e → IsPartyLine l e.0
party_line (line.Party name role pair v) e h =
    let is : (name, role) ≡ e = cc (h) in
    subst (λ (z : List ℕ × Role). IsPartyLine (line.Party name role pair v) z.0) is (record { role = role; pair = pair; v = v; is = refl })
party_line l e h = absurd (cc (h))

-- an entry under which the look-up came to an end
among_entries : (name : List ℕ) (es : List (List ℕ × Role)) → is_some (lookup (bytes_eq name) es) ≡ true → (e : List ℕ × Role) × Among es e × (bytes_eq name e.0 ≡ true)
among_entries name [] h = absurd (cc (h))
among_entries name (f ∷ es) h = go (bytes_eq name f.0) refl h (among_entries name es)
  where
    go : (b : Bool) → bytes_eq name f.0 ≡ b → is_some (cond b (Some f.1) (lookup (bytes_eq name) es)) ≡ true
        → (is_some (lookup (bytes_eq name) es) ≡ true → (e : List ℕ × Role) × Among es e × (bytes_eq name e.0 ≡ true))
        → (e : List ℕ × Role) × ((f ≡ e) ⊎ Among es e) × (bytes_eq name e.0 ≡ true)
    go true is h ih = (f, inl refl, is)
    go false is h ih = let r = ih h in (r.0, inr r.1, r.2)

declared_before : (before : List Line) (name : List ℕ) → is_declared before name ≡ true → IsDeclared before name
declared_before before name h =
    let r = among_entries name (filter_map declared before) h in
    let g : GivenBy declared before r.0 = among_map declared before r.0 r.1 in
    let p : IsPartyLine g.by r.0.0 = party_line g.by r.0 g.gives in
    let same : name ≡ r.0.0 = (bytes_eq-Decides name r.0.0).0 r.2 in
    subst (λ (n : List ℕ). IsDeclared before n) (sym same) (record { role = p.role; pair = p.pair; v = p.v; stands = subst (λ (l : Line). Among before l) p.is g.stands })

-- the ends of a LINK line are two parties
pub record AreEnds (lines : List Line) (origin recipient : List ℕ) : Type 0 where
  pub origin_is : IsDeclared lines origin
  pub recipient_is : IsDeclared lines recipient
  pub differ : bytes_eq origin recipient ≡ false

pub ends_same : (u : List ℕ × List ℕ × List ℕ) → same_ends u u ≡ true
ends_same u = and_from (bytes_eq u.0 u.0 && bytes_eq u.1 u.1) (bytes_eq u.2 u.2) (and_from (bytes_eq u.0 u.0) (bytes_eq u.1 u.1) (same_yes u.0 u.0 refl) (same_yes u.1 u.1 refl)) (same_yes u.2 u.2 refl)

-- ---- the lines of a scenario

module _ (lines : List Line) (rules : EachBehind may_follow lines) where
  pub each_apart : Ordered AreApart lines
  each_apart = ordered_by may_follow AreApart later_apart lines rules

  pub are_ends : (origin recipient label : List ℕ) (pair : Pair) → Among lines (line.Link origin recipient label pair) → AreEnds lines origin recipient
  are_ends origin recipient label pair m =
      let p : Parted lines (line.Link origin recipient label pair) = parted lines (line.Link origin recipient label pair) m in
      let rule : MayLoad p.before origin recipient label pair = rule_of p.before origin recipient label pair (rules p.before p.after (line.Link origin recipient label pair) p.whole) in
      record {
        origin_is = whole p origin (declared_before p.before origin rule.origin_declared);
        recipient_is = whole p recipient (declared_before p.before recipient rule.recipient_declared);
        differ = rule.differ;
      }
    where
      whole : (p : Parted lines (line.Link origin recipient label pair)) (name : List ℕ) → IsDeclared p.before name → IsDeclared lines name
      whole p name d = record { role = d.role; pair = d.pair; v = d.v; stands = among_whole lines (line.Link origin recipient label pair) p (line.Party name d.role d.pair d.v) d.stands }

  -- two LINK lines are one, or have other ends and another pair
  two_links : (x y : Line) (u w : List ℕ × List ℕ × List ℕ) (p q : ℕ × ℕ) → Among lines x → Among lines y → ends x ≡ Some u → ends y ≡ Some w → loaded x ≡ Some p → loaded y ≡ Some q
      → (x ≡ y) ⊎ (((same_ends u w ≡ false) × (same_two p q ≡ false)) ⊎ ((same_ends w u ≡ false) × (same_two q p ≡ false)))
  two_links x y u w p q m n e f g h = go (two_among AreApart lines each_apart x y m n)
    where
      go : (x ≡ y) ⊎ (AreApart x y ⊎ AreApart y x) → (x ≡ y) ⊎ (((same_ends u w ≡ false) × (same_two p q ≡ false)) ⊎ ((same_ends w u ≡ false) × (same_two q p ≡ false)))
      go (inl is) = inl is
      go (inr (inl a)) = inr (inr (a.ends_apart u w e f, a.pairs_apart p q g h))
      go (inr (inr a)) = inr (inl (a.ends_apart w u f e, a.pairs_apart q p h g))

  two_same : (u w : ℕ × ℕ) → u ≡ w → same_two u w ≡ true
  two_same u w is = and_from (u.0 == w.0) (u.1 == w.1) (eq-eqb u.0 w.0 (ap (λ (z : ℕ × ℕ). z.0) is)) (eq-eqb u.1 w.1 (ap (λ (z : ℕ × ℕ). z.1) is))

  -- one pair for the same ends
  pub one_load : (origin recipient label : List ℕ) (p q : Pair) → Among lines (line.Link origin recipient label p) → Among lines (line.Link origin recipient label q) → p ≡ q
  one_load origin recipient label p q m n = go (two_links (line.Link origin recipient label p) (line.Link origin recipient label q) u u (odd_pair p) (odd_pair q) m n refl refl refl refl)
    where
      u : List ℕ × List ℕ × List ℕ
      u = (origin, recipient, label)

      go : (line.Link origin recipient label p ≡ line.Link origin recipient label q) ⊎ (((same_ends u u ≡ false) × (same_two (odd_pair p) (odd_pair q) ≡ false)) ⊎ ((same_ends u u ≡ false) × (same_two (odd_pair q) (odd_pair p) ≡ false))) → p ≡ q
      go (inl is) = cc
      go (inr (inl a)) = absurd (both_ways (same_ends u u) a.0 (ends_same u))
      go (inr (inr a)) = absurd (both_ways (same_ends u u) a.0 (ends_same u))

  -- one line for the same pair
  pub one_line : (o r l : List ℕ) (p : Pair) (s t m : List ℕ) (q : Pair) → Among lines (line.Link o r l p) → Among lines (line.Link s t m q) → odd_pair p ≡ odd_pair q → line.Link o r l p ≡ line.Link s t m q
  one_line o r l p s t m q a b same = go (two_links (line.Link o r l p) (line.Link s t m q) (o, r, l) (s, t, m) (odd_pair p) (odd_pair q) a b refl refl refl refl)
    where
      go : (line.Link o r l p ≡ line.Link s t m q) ⊎ (((same_ends (o, r, l) (s, t, m) ≡ false) × (same_two (odd_pair p) (odd_pair q) ≡ false)) ⊎ ((same_ends (s, t, m) (o, r, l) ≡ false) × (same_two (odd_pair q) (odd_pair p) ≡ false))) → line.Link o r l p ≡ line.Link s t m q
      go (inl is) = is
      go (inr (inl d)) = absurd (both_ways (same_two (odd_pair p) (odd_pair q)) d.1 (two_same (odd_pair p) (odd_pair q) same))
      go (inr (inr d)) = absurd (both_ways (same_two (odd_pair q) (odd_pair p)) d.1 (two_same (odd_pair q) (odd_pair p) (sym same)))
