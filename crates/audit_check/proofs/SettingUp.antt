-- The parties of a scenario are set up, line after line.
use Rattle.std.proofs.Common.{◌≡◌, ℕ, ◌+◌, ◌<◌, Bool, true, false, List, [], ◌∷◌, ◌++◌, length, get_or, take, drop, Option, Some, None, bytes_eq, refl, sym, ◌∙◌, ap, subst, take-append-drop, append_assoc}
use Rattle.std.specs.Prelude.{option_to_list, option_map}
use Rattle.std.specs.List.{filter_map, cons_option}
use Rattle.std.proofs.lemmas.List.{take_more, append-nil}
use Rattle.std.proofs.lemmas.List.Elements.{filter_map-append}
use Rattle.std.proofs.lemmas.Slice.Eq.{bytes_eq-Decides}
use Rattle.party_tables.specs.declared.link.LinkRec.{LinkRec}
use Rattle.party_tables.specs.Tables.{Distinct}
use Rattle.scenario.specs.declared.line.Line.{Line}
use Rattle.scenario.specs.declared.line.Line.TheVariants as line
use Rattle.member.specs.Member.{Member}
use Rattle.world_laws.specs.World.{own_of, member_at}
use Rattle.course.specs.Parties.{full_member, new_party}
use Rattle.course.specs.Starts.{load_at, loads_of, with_load, with_loads, start_member, members_by, start_members}
use Rattle.course.specs.declared.declaring.NewParty.{NewParty}
use Rattle.audit_check.proofs.HeldMembers.{cond_yes, cond_not}

-- ---- one line more

more_of : {Y : Type 0} (h : Line → Option Y) (lines : List Line) (i : ℕ) (l : Line) → i < length lines → l ≡ get_or lines i l → filter_map h (take (i + 1) lines) ≡ filter_map h (take i lines) ++ option_to_list (h l)
more_of h lines i l lt is =
    ap (filter_map h) (take_more lines i l lt ∙ ap (λ (y : Line). take i lines ++ y ∷ []) (sym is)) ∙ (filter_map-append h (take i lines) (l ∷ []) ∙ ap (λ (ys : List _). filter_map h (take i lines) ++ ys) (one (h l)))
  where
    one : {Y : Type 0} (o : Option Y) → cons_option o [] ≡ option_to_list o
    one None = refl
    one (Some k) = refl

loads_append : (x : Member) (ls ks : List LinkRec) → with_loads x (ls ++ ks) ≡ with_loads (with_loads x ls) ks
loads_append x [] ks = refl
loads_append x (l ∷ ls) ks = loads_append (with_load x l) ls ks

pub loads_more : (x : Member) (own : List ℕ) (lines : List Line) (i : ℕ) (l : Line) → i < length lines → l ≡ get_or lines i l → with_loads x (loads_of own (take (i + 1) lines)) ≡ with_loads (with_loads x (loads_of own (take i lines))) (option_to_list (load_at own l))
loads_more x own lines i l lt is = ap (with_loads x) (more_of (load_at own) lines i l lt is) ∙ loads_append x (loads_of own (take i lines)) (option_to_list (load_at own l))

start_is : (lines : List Line) (l : Line) → start_member lines l ≡ option_map (full_member lines) (new_party l)
start_is lines (line.Party name role pair v) = refl
start_is lines l = refl

module _ (lines : List Line) (i : ℕ) (l : Line) (lt : i < length lines) (is : l ≡ get_or lines i l) where
  members_by_more : (o : Option NewParty) → new_party l ≡ o → members_by lines (take (i + 1) lines) ≡ members_by lines (take i lines) ++ option_to_list (option_map (full_member lines) o)
  members_by_more o at = more_of (start_member lines) lines i l lt is
      ∙ ap (λ (m : Option Member). members_by lines (take i lines) ++ option_to_list m) (start_is lines l ∙ ap (option_map (full_member lines)) at)

  pub no_member_more : new_party l ≡ None → members_by lines (take (i + 1) lines) ≡ members_by lines (take i lines)
  no_member_more at = members_by_more None at ∙ append-nil (members_by lines (take i lines))

  module _ (p : NewParty) (at : new_party l ≡ Some p) where
    pub member_more : members_by lines (take (i + 1) lines) ≡ members_by lines (take i lines) ++ full_member lines p ∷ []
    member_more = members_by_more (Some p) at

    all_members : start_members lines ≡ members_by lines (take i lines) ++ full_member lines p ∷ members_by lines (drop (i + 1) lines)
    all_members = ap (members_by lines) (sym (take-append-drop (i + 1) lines))
        ∙ (filter_map-append (start_member lines) (take (i + 1) lines) (drop (i + 1) lines)
        ∙ (ap (λ (ms : List Member). ms ++ members_by lines (drop (i + 1) lines)) member_more ∙ append_assoc (members_by lines (take i lines)) (full_member lines p ∷ []) (members_by lines (drop (i + 1) lines))))

    -- no party before it has its identity
    pub no_member_before : Distinct own_of bytes_eq (start_members lines) → member_at (full_member lines p).party.own (members_by lines (take i lines)) ≡ None
    no_member_before distinct = apart (members_by lines (take i lines)) (full_member lines p) (members_by lines (drop (i + 1) lines)) (subst (Distinct own_of bytes_eq) all_members distinct)
      where
        not_same : (own : List ℕ) (m x : Member) (back : List Member) → member_at (own_of m) (x ∷ back) ≡ None → own ≡ own_of x → bytes_eq own (own_of m) ≡ false
        not_same own m x back none is = go (bytes_eq own (own_of m)) refl
          where
            go : (t : Bool) → bytes_eq own (own_of m) ≡ t → bytes_eq own (own_of m) ≡ false
            go false other = other
            go true same_name =
                let same : own_of m ≡ own_of x = sym ((bytes_eq-Decides own (own_of m)).0 same_name) ∙ is in
                let lie : Some x ≡ None = sym (cond_yes (bytes_eq (own_of m) (own_of x)) (Some x) (member_at (own_of m) back) ((bytes_eq-Decides (own_of m) (own_of x)).1 same)) ∙ none in
                absurd (cc lie)

        skipped : (own : List ℕ) (front back : List Member) → member_at own (front ++ back) ≡ None → member_at own back ≡ None
        skipped own [] back none = none
        skipped own (m ∷ front) back none = go (bytes_eq own (own_of m)) refl (skipped own front back)
          where
            go : (t : Bool) → bytes_eq own (own_of m) ≡ t → (member_at own (front ++ back) ≡ None → member_at own back ≡ None) → member_at own back ≡ None
            go true same rest = let lie : Some m ≡ None = sym (cond_yes (bytes_eq own (own_of m)) (Some m) (member_at own (front ++ back)) same) ∙ none in absurd (cc lie)
            go false other rest = rest (sym (cond_not (bytes_eq own (own_of m)) (Some m) (member_at own (front ++ back)) other) ∙ none)

        apart : (front : List Member) (x : Member) (back : List Member) → Distinct own_of bytes_eq (front ++ x ∷ back) → member_at x.party.own front ≡ None
        apart [] x back distinct = refl
        apart (m ∷ front) x back distinct =
            cond_not (bytes_eq x.party.own (own_of m)) (Some m) (member_at x.party.own front) (not_same x.party.own m x back (skipped (own_of m) front (x ∷ back) distinct.0) refl) ∙ apart front x back distinct.1
