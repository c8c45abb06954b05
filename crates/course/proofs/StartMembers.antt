-- The members of a start, and their links.
use Rattle.std.proofs.Common.{◌≡◌, ◌==◌, ℕ, ◌⊎◌, inl, inr, Bool, true, false, cond, List, Some, None, AllPairs, refl, sym, ◌∙◌, ap, subst, subst₂, bytes_eq, eq-eqb, eqb-true}
use Rattle.std.specs.Prelude.{◌&&◌}
use Rattle.std.proofs.lemmas.Bool.{and_from, and_parts, both_ways, false_from_ne_true}
use Rattle.std.proofs.lemmas.Slice.Eq.{bytes_eq-Decides}
use Rattle.x_base.specs.Ident.{expanded}
use Rattle.x_base.specs.declared.party.Role.{Role}
use Rattle.x_base.specs.declared.party.Side.TheVariants.{Sends, Takes}
use Rattle.x_mac.specs.declared.pair.Pair.{Pair}
use Rattle.party_tables.specs.declared.link.LinkRec.{LinkRec}
use Rattle.party_state.specs.State.{expands_alike}
use Rattle.party_tables.specs.Tables.{Distinct}
use Rattle.scenario.specs.declared.line.Line.{Line}
use Rattle.scenario.specs.declared.line.Line.TheVariants as line
use Rattle.scenario.specs.Behind.{EachBehind}
use Rattle.scenario.specs.Rules.{expansion, may_follow}
use Rattle.member.specs.Member.{Member}
use Rattle.world_laws.specs.World.{own_of, member_at}
use Rattle.course.specs.Starts.{first_member, generator_of, link_of, load_at, loads_of, start_member, start_members, with_loads}
use Rattle.course.proofs.Tests.{cond_yes, cond_not, same_yes}
use Rattle.course.proofs.StartLists.{Among, Ordered, GivenBy, map_among, among_map, map_ordered, ordered_weaker, ordered_pairs, ordered_distinct, found_among, among_found}
use Rattle.course.proofs.StartLines.{AreApart, IsDeclared, each_apart}
use Rattle.course.proofs.StartLoads.{own_stays}

-- ---- what lines load at a party

-- a LINK line from this party to that one, and the link that it loads at the first
pub record IsSent (lines : List Line) (own peer label : List ℕ) (l : LinkRec) : Type 0 where
  pub pair : Pair
  pub stands : Among lines (line.Link own peer label pair)
  pub is : l ≡ link_of peer label Sends pair

-- and at the second
pub record IsTaken (lines : List Line) (own peer label : List ℕ) (l : LinkRec) : Type 0 where
  pub pair : Pair
  pub stands : Among lines (line.Link peer own label pair)
  pub is : l ≡ link_of peer label Takes pair

abbrev pub IsLoaded : List Line → List ℕ → LinkRec → Type 0
IsLoaded lines own l = IsSent lines own l.peer l.label l ⊎ IsTaken lines own l.peer l.label l

-- the line itself, from the party or to it
pub record SentBy (own : List ℕ) (x : Line) (l : LinkRec) : Type 0 where
  pub pair : Pair
  pub line_is : x ≡ line.Link own l.peer l.label pair
  pub is : l ≡ link_of l.peer l.label Sends pair

pub record TakenBy (own : List ℕ) (x : Line) (l : LinkRec) : Type 0 where
  pub pair : Pair
  pub line_is : x ≡ line.Link l.peer own l.label pair
  pub is : l ≡ link_of l.peer l.label Takes pair

pub loaded_by : (own : List ℕ) (l : LinkRec) (x : Line) → load_at own x ≡ Some l → SentBy own x l ⊎ TakenBy own x l
loaded_by own l (line.Link origin recipient label pair) h = go (bytes_eq own origin) (bytes_eq own recipient) refl refl h
  where
    x : Line
    x = line.Link origin recipient label pair

    go : (a b : Bool) → bytes_eq own origin ≡ a → bytes_eq own recipient ≡ b → cond a (Some (link_of recipient label Sends pair)) (cond b (Some (link_of origin label Takes pair)) None) ≡ Some l → SentBy own x l ⊎ TakenBy own x l
    go true b is other e =
        let same : own ≡ origin = (bytes_eq-Decides own origin).0 is in
        let link : link_of recipient label Sends pair ≡ l = cc (e) in
        subst (λ (k : LinkRec). SentBy own x k ⊎ TakenBy own x k) link (inl (record { pair = pair; line_is = ap (λ (o : List ℕ). line.Link o recipient label pair) (sym same); is = refl }))
    go false true other is e =
        let same : own ≡ recipient = (bytes_eq-Decides own recipient).0 is in
        let link : link_of origin label Takes pair ≡ l = cc (e) in
        subst (λ (k : LinkRec). SentBy own x k ⊎ TakenBy own x k) link (inr (record { pair = pair; line_is = ap (λ (o : List ℕ). line.Link origin o label pair) (sym same); is = refl }))
    go false false other neither e = absurd (cc (e))
loaded_by own l x h = absurd (cc (h))

pub is_loaded : (lines : List Line) (own : List ℕ) (l : LinkRec) → Among (loads_of own lines) l → IsLoaded lines own l
is_loaded lines own l m = let g : GivenBy (load_at own) lines l = among_map (load_at own) lines l m in go g (loaded_by own l g.by g.gives)
  where
    go : (g : GivenBy (load_at own) lines l) → SentBy own g.by l ⊎ TakenBy own g.by l → IsLoaded lines own l
    go g (inl s) = inl (record { pair = s.pair; stands = subst (λ (x : Line). Among lines x) s.line_is g.stands; is = s.is })
    go g (inr t) = inr (record { pair = t.pair; stands = subst (λ (x : Line). Among lines x) t.line_is g.stands; is = t.is })

pub sent_load : (lines : List Line) (own peer label : List ℕ) (pair : Pair) → Among lines (line.Link own peer label pair) → Among (loads_of own lines) (link_of peer label Sends pair)
sent_load lines own peer label pair m = map_among (load_at own) lines (line.Link own peer label pair) (link_of peer label Sends pair) m (cond_yes (bytes_eq own own) (Some (link_of peer label Sends pair)) _ (same_yes own own refl))

pub taken_load : (lines : List Line) (own peer label : List ℕ) (pair : Pair) → bytes_eq own peer ≡ false → Among lines (line.Link peer own label pair) → Among (loads_of own lines) (link_of peer label Takes pair)
taken_load lines own peer label pair differ m = map_among (load_at own) lines (line.Link peer own label pair) (link_of peer label Takes pair) m (cond_not (bytes_eq own peer) _ _ differ ∙ cond_yes (bytes_eq own own) (Some (link_of peer label Takes pair)) None (same_yes own own refl))

-- ---- the members

-- a PARTY line of this name, and the member that begins so
pub record IsMember (lines : List Line) (own : List ℕ) (x : Member) : Type 0 where
  pub role : Role
  pub pair : Pair
  pub v : ℕ
  pub stands : Among lines (line.Party own role pair v)
  pub is : x ≡ with_loads (first_member own role (generator_of pair v)) (loads_of own lines)

record IsStarted (lines : List Line) (l : Line) (x : Member) : Type 0 where
  pub name : List ℕ
  pub role : Role
  pub pair : Pair
  pub v : ℕ
  pub line_is : l ≡ line.Party name role pair v
  pub is : x ≡ with_loads (first_member name role (generator_of pair v)) (loads_of name lines)

is_started : (lines : List Line) (l : Line) (x : Member) → start_member lines l ≡ Some x → IsStarted lines l x
is_started lines (line.Party name role pair v) x h = record { name = name; role = role; pair = pair; v = v; line_is = refl; is = cc (h) }
is_started lines l x h = absurd (cc (h))

own_is : (lines : List Line) (l : Line) (x : Member) (s : IsStarted lines l x) → x.party.own ≡ s.name
own_is lines l x s = ap (λ (y : Member). y.party.own) s.is ∙ own_stays (first_member s.name s.role (generator_of s.pair s.v)) (loads_of s.name lines)

pub is_member : (lines : List Line) (p : List ℕ) (x : Member) → member_at p (start_members lines) ≡ Some x → IsMember lines p x
is_member lines p x h =
    let at = found_among own_of bytes_eq p (start_members lines) x h in
    let g : GivenBy (start_member lines) lines x = among_map (start_member lines) lines x at.0 in
    let s : IsStarted lines g.by x = is_started lines g.by x g.gives in
    let same : p ≡ s.name = (bytes_eq-Decides p x.party.own).0 at.1 ∙ own_is lines g.by x s in
    subst (λ (n : List ℕ). IsMember lines n x) (sym same) (record { role = s.role; pair = s.pair; v = s.v; stands = subst (λ (l : Line). Among lines l) s.line_is g.stands; is = s.is })

-- a party that is declared has a member
pub has_member : (lines : List Line) (p : List ℕ) → IsDeclared lines p → (x : Member) × (member_at p (start_members lines) ≡ Some x)
has_member lines p d =
    let x : Member = with_loads (first_member p d.role (generator_of d.pair d.v)) (loads_of p lines) in
    among_found own_of bytes_eq p (start_members lines) x (map_among (start_member lines) lines (line.Party p d.role d.pair d.v) x d.stands refl) (same_yes p x.party.own (sym (own_stays (first_member p d.role (generator_of d.pair d.v)) (loads_of p lines))))

-- ---- no two members are alike

differ_back : (a b : List ℕ) → ((expanded b).0 == (expanded a).0 && (expanded b).1 == (expanded a).1) ≡ false → expands_alike a b ≡ false
differ_back a b h = false_from_ne_true (expands_alike a b) (λ alike. both_ways ((expanded b).0 == (expanded a).0 && (expanded b).1 == (expanded a).1) h (back alike))
  where
    back : expands_alike a b ≡ true → ((expanded b).0 == (expanded a).0 && (expanded b).1 == (expanded a).1) ≡ true
    back alike =
        let parts = and_parts ((expanded a).0 == (expanded b).0) ((expanded a).1 == (expanded b).1) alike in
        and_from ((expanded b).0 == (expanded a).0) ((expanded b).1 == (expanded a).1) (eq-eqb (expanded b).0 (expanded a).0 (sym (eqb-true (expanded a).0 (expanded b).0 parts.0))) (eq-eqb (expanded b).1 (expanded a).1 (sym (eqb-true (expanded a).1 (expanded b).1 parts.1)))

same_alike : (a b : List ℕ) → a ≡ b → expands_alike a b ≡ true
same_alike a b is = and_from ((expanded a).0 == (expanded b).0) ((expanded a).1 == (expanded b).1) (eq-eqb (expanded a).0 (expanded b).0 (ap (λ (c : List ℕ). (expanded c).0) is)) (eq-eqb (expanded a).1 (expanded b).1 (ap (λ (c : List ℕ). (expanded c).1) is))

abbrev Differ : Member → Member → Type 0
Differ x y = expands_alike x.party.own y.party.own ≡ false

module _ (lines : List Line) (rules : EachBehind may_follow lines) where
  step_apart : (l m : Line) (x y : Member) → AreApart l m → start_member lines l ≡ Some x → start_member lines m ≡ Some y → Differ x y
  step_apart l m x y apart e f =
      let s : IsStarted lines l x = is_started lines l x e in
      let t : IsStarted lines m y = is_started lines m y f in
      let differ = apart.expansions_apart (expanded s.name) (expanded t.name) (expands l s.name s.role s.pair s.v s.line_is) (expands m t.name t.role t.pair t.v t.line_is) in
      subst₂ (λ (a b : List ℕ). expands_alike a b ≡ false) (sym (own_is lines l x s)) (sym (own_is lines m y t)) (differ_back s.name t.name differ)
    where
      expands : (k : Line) (name : List ℕ) (role : Role) (pair : Pair) (v : ℕ) → k ≡ line.Party name role pair v → expansion k ≡ Some (expanded name)
      expands k name role pair v is = ap expansion is

  differing : Ordered Differ (start_members lines)
  differing = map_ordered (start_member lines) AreApart Differ step_apart lines (each_apart lines rules)

  pub members_apart : AllPairs Differ (start_members lines)
  members_apart = ordered_pairs Differ (start_members lines) differing

  pub members_distinct : Distinct own_of bytes_eq (start_members lines)
  members_distinct = ordered_distinct own_of bytes_eq (start_members lines) (ordered_weaker Differ (λ (x y : Member). bytes_eq x.party.own y.party.own ≡ false) names_differ (start_members lines) differing)
    where
      names_differ : (x y : Member) → Differ x y → bytes_eq x.party.own y.party.own ≡ false
      names_differ x y differ = false_from_ne_true (bytes_eq x.party.own y.party.own) (λ same. both_ways (expands_alike x.party.own y.party.own) differ (same_alike x.party.own y.party.own ((bytes_eq-Decides x.party.own y.party.own).0 same)))
