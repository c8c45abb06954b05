-- Each end that is loaded stands in the end, and the members have the names that were created.
use Rattle.std.proofs.Common.{arith, ◌≡◌, ℕ, inl, inr, Bool, true, false, cond, Some, None, List, [], ◌∷◌, ◌++◌, map, refl, sym, ◌∙◌, ap, subst, bytes_eq, Contains, append_assoc, append-nil}
use Rattle.std.proofs.lemmas.List.Elements.{Contains-append_cases}
use Rattle.party_tables.specs.declared.link.LinkKey.{LinkKey}
use Rattle.party_tables.specs.declared.link.LinkRec.{LinkRec}
use Rattle.party_tables.specs.Keys.{same_link, link_key}
use Rattle.party_tables.specs.Tables.{put_row}
use Rattle.party_tables.proofs.Keys.{test_idents}
use Rattle.party_tables.proofs.Tables.{one_found}
use Rattle.party_state.specs.State.{Party, link_with}
use Rattle.member.specs.Member.{Member}
use Rattle.world_laws.specs.World.{own_of, member_at}
use Rattle.world_laws.proofs.Lists.Among.{of_one}
use Rattle.call_laws.specs.SetUp.{End, SetUp, Creates, Loads, LosesPower, link_at, first_member, with_link, members_after, members_by, name_in, names_in, end_in, ends_in}
use Rattle.call_laws.proofs.Members.{Known, names_differ, put_here, put_there}
use Rattle.call_laws.proofs.Disks.{IsNew, AreNew}
use Rattle.call_laws.proofs.Found.{StoodAt, after_load, own_of_found}

module _ (known : Known) where
  -- what stands in the party behind a load
  loaded_stands : (e : End) (p : Party) → link_with e.key (record p { links = put_row link_key same_link (link_at e) p.links }) ≡ Some (link_at e)
  loaded_stands e p = go (same_link e.key (link_key (link_at e))) ((known.same e.key (link_key (link_at e))).1 refl) (known.put e.key (link_at e) p)
    where
      go : (b : Bool) → b ≡ true → link_with e.key (record p { links = put_row link_key same_link (link_at e) p.links }) ≡ cond b (Some (link_at e)) (link_with e.key p)
          → link_with e.key (record p { links = put_row link_key same_link (link_at e) p.links }) ≡ Some (link_at e)
      go true is h = h
      go false is h = absurd (cc (is))

  other_stands : (k : LinkKey) (l : LinkRec) (e : End) (p : Party) → link_with e.key p ≡ None → link_with k p ≡ Some l → link_with k (record p { links = put_row link_key same_link (link_at e) p.links }) ≡ Some l
  other_stands k l e p free found = go (same_link k (link_key (link_at e))) refl (known.put k (link_at e) p)
    where
      go : (b : Bool) → same_link k (link_key (link_at e)) ≡ b → link_with k (record p { links = put_row link_key same_link (link_at e) p.links }) ≡ cond b (Some (link_at e)) (link_with k p)
          → link_with k (record p { links = put_row link_key same_link (link_at e) p.links }) ≡ Some l
      go true is h =
          let key : k ≡ e.key = (known.same k (link_key (link_at e))).0 is in
          let none : link_with k p ≡ None = subst (λ (j : LinkKey). link_with j p ≡ None) (sym key) free in
          absurd (cc (none, found))
      go false is h = h ∙ found

  step_stays : (ms : List Member) (s : SetUp) → IsNew ms s → (own : List ℕ) (k : LinkKey) (l : LinkRec) → StoodAt ms own k l → StoodAt (members_after s ms) own k l
  step_stays ms (Creates name role g) new own k l t = elim (names_differ own name) [
    | inl is ↦ (let none : member_at own ms ≡ None = subst (λ (q : List ℕ). member_at q ms ≡ None) (sym is) new in let some : member_at own ms ≡ Some t.member = t.at in absurd (cc (none, some)))
    | inr ne ↦ record { member = t.member; at = put_there (first_member name role g) ms own ne ∙ t.at; found = t.found }
  ]
  step_stays ms (Loads e moment) new own k l t =
      subst (λ (zs : List Member). StoodAt zs own k l) (sym (after_load e moment ms new.member new.at)) (elim (names_differ own new.member.party.own) [
        | inl is ↦ (let at : member_at own ms ≡ Some new.member = subst (λ (q : List ℕ). member_at q ms ≡ Some new.member) (own_of_found e.own new.member ms new.at ∙ sym is) new.at in
            let same : t.member ≡ new.member = one_found t.member new.member t.at at in
            record {
              member = with_link new.member (link_at e);
              at = put_here (with_link new.member (link_at e)) ms own is;
              found = other_stands k l e new.member.party new.free (subst (λ (y : Member). link_with k y.party ≡ Some l) same t.found);
            })
        | inr ne ↦ record { member = t.member; at = put_there (with_link new.member (link_at e)) ms own ne ∙ t.at; found = t.found }
      ])
  step_stays ms LosesPower new own k l t = t

  pub all_stay : (ms : List Member) (ss : List SetUp) → AreNew ms ss → (own : List ℕ) (k : LinkKey) (l : LinkRec) → StoodAt ms own k l → StoodAt (members_by ss ms) own k l
  all_stay ms [] new own k l t = t
  all_stay ms (s ∷ ss) new own k l t = all_stay (members_after s ms) ss new.1 own k l (step_stays ms s new.0 own k l t)

  step_loads : (ms : List Member) (s : SetUp) → IsNew ms s → (e : End) → Contains (end_in s) e → StoodAt (members_after s ms) e.own e.key (link_at e)
  step_loads ms (Creates own role g) new e among = absurd (omega (arith, among.1))
  step_loads ms (Loads f moment) new e among =
      let is : f ≡ e = of_one f e among in
      subst (λ (d : End). StoodAt (members_after (Loads f moment) ms) d.own d.key (link_at d)) is
      (subst (λ (zs : List Member). StoodAt zs f.own f.key (link_at f)) (sym (after_load f moment ms new.member new.at)) (record {
        member = with_link new.member (link_at f);
        at = put_here (with_link new.member (link_at f)) ms f.own (own_of_found f.own new.member ms new.at);
        found = loaded_stands f new.member.party;
      }))
  step_loads ms LosesPower new e among = absurd (omega (arith, among.1))

  pub all_load : (ms : List Member) (ss : List SetUp) → AreNew ms ss → (e : End) → Contains (ends_in ss) e → StoodAt (members_by ss ms) e.own e.key (link_at e)
  all_load ms [] new e among = absurd (omega (arith, among.1))
  all_load ms (s ∷ ss) new e among = elim (Contains-append_cases (end_in s) (ends_in ss) e among) [
    | inl here ↦ all_stay (members_after s ms) ss new.1 e.own e.key (link_at e) (step_loads ms s new.0 e here)
    | inr later ↦ all_load (members_after s ms) ss new.1 e later
  ]

-- ---- the names

put_new : (y : Member) (ms : List Member) → member_at y.party.own ms ≡ None → map own_of (put_row own_of bytes_eq y ms) ≡ map own_of ms ++ y.party.own ∷ []
put_new y [] none = refl
put_new y (m ∷ ms) none = go (bytes_eq y.party.own m.party.own) none (put_new y ms)
  where
    go : (b : Bool) → cond b (Some m) (member_at y.party.own ms) ≡ None → (member_at y.party.own ms ≡ None → map own_of (put_row own_of bytes_eq y ms) ≡ map own_of ms ++ y.party.own ∷ [])
        → map own_of (cond b (y ∷ ms) (m ∷ put_row own_of bytes_eq y ms)) ≡ m.party.own ∷ (map own_of ms ++ y.party.own ∷ [])
    go true h ih = absurd (cc (h))
    go false h ih = ap (λ (names : List (List ℕ)). m.party.own ∷ names) (ih h)

put_old : (y x : Member) (ms : List Member) → member_at y.party.own ms ≡ Some x → map own_of (put_row own_of bytes_eq y ms) ≡ map own_of ms
put_old y x [] some = absurd (cc (some))
put_old y x (m ∷ ms) some = go (bytes_eq y.party.own m.party.own) refl some (put_old y x ms)
  where
    go : (b : Bool) → bytes_eq y.party.own m.party.own ≡ b → cond b (Some m) (member_at y.party.own ms) ≡ Some x → (member_at y.party.own ms ≡ Some x → map own_of (put_row own_of bytes_eq y ms) ≡ map own_of ms)
        → map own_of (cond b (y ∷ ms) (m ∷ put_row own_of bytes_eq y ms)) ≡ m.party.own ∷ map own_of ms
    go true is h ih = ap (λ (name : List ℕ). name ∷ map own_of ms) ((test_idents.decides y.party.own m.party.own).0 is)
    go false is h ih = ap (λ (names : List (List ℕ)). m.party.own ∷ names) (ih h)

step_names : (ms : List Member) (s : SetUp) → IsNew ms s → map own_of (members_after s ms) ≡ map own_of ms ++ name_in s
step_names ms (Creates own role g) new = put_new (first_member own role g) ms new
step_names ms (Loads e moment) new =
    let at : member_at new.member.party.own ms ≡ Some new.member = subst (λ (q : List ℕ). member_at q ms ≡ Some new.member) (own_of_found e.own new.member ms new.at) new.at in
    ap (map own_of) (after_load e moment ms new.member new.at) ∙ (put_old (with_link new.member (link_at e)) new.member ms at ∙ sym (append-nil (map own_of ms)))
step_names ms LosesPower new = sym (append-nil (map own_of ms))

pub all_names : (ms : List Member) (ss : List SetUp) → AreNew ms ss → map own_of (members_by ss ms) ≡ map own_of ms ++ names_in ss
all_names ms [] new = sym (append-nil (map own_of ms))
all_names ms (s ∷ ss) new =
    all_names (members_after s ms) ss new.1 ∙ (ap (λ (names : List (List ℕ)). names ++ names_in ss) (step_names ms s new.0) ∙ append_assoc (map own_of ms) (name_in s) (names_in ss))
