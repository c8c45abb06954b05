-- What holds of each member of a network that is set up, and where its links come from.
use Rattle.std.proofs.Common.{arith, ◌≡◌, ◌⊎◌, ℕ, inl, inr, Bool, true, false, cond, Option, Some, List, [], ◌∷◌, refl, sym, ◌∙◌, ap, subst, bytes_eq, Contains}
use Rattle.std.specs.List.{All}
use Rattle.std.proofs.lemmas.List.Elements.{All-head, All-tail, All-nil, All-cons, Contains-append_left, Contains-append_right}
use Rattle.x_base.specs.Names.{IsIdent}
use Rattle.x_base.specs.declared.party.Role.{Role}
use Rattle.x_gen.specs.declared.generator.Gen.{Gen}
use Rattle.party_tables.specs.declared.link.LinkKey.{LinkKey}
use Rattle.party_tables.specs.declared.link.LinkRec.{LinkRec}
use Rattle.party_tables.specs.Keys.{same_link, link_key}
use Rattle.party_tables.specs.Ranges.{IsLink}
use Rattle.party_tables.specs.Tables.{Distinct, put_row}
use Rattle.party_tables.proofs.Keys.{test_idents}
use Rattle.party_tables.proofs.Distinct.{distinct_put}
use Rattle.party_tables.proofs.Tables.{find_key}
use Rattle.party_state.specs.declared.edit.Edit.TheVariants.{PutLink}
use Rattle.party_state.specs.Ranges.{InRange, IsGen, IsParty}
use Rattle.party_state.specs.State.{Party, begun, link_with}
use Rattle.member.specs.Member.{Member}
use Rattle.world_laws.specs.World.{own_of, member_at}
use Rattle.world_laws.specs.Starts.{Each, HasOnlyLinks, IsUnused, LinksUnused}
use Rattle.world_laws.proofs.Lists.Among.{first_in}
use Rattle.call_laws.specs.SetUp.{End, SetUp, Creates, Loads, LosesPower, link_at, first_member, with_link, load_into, members_after, members_by, end_in, ends_in}
use Rattle.call_laws.specs.Rules.{IsInRange}
use Rattle.call_laws.proofs.Members.{Known, put_cases}
use Rattle.call_laws.proofs.Disks.{IsNew, AreNew}

-- what each member is
pub record IsFirst (p : Party) : Type 0 where
  pub party : IsParty p
  pub links : HasOnlyLinks p
  pub unused : LinksUnused p

-- who loads a link that stands
pub record IsLoaded (es : List End) (own : List ℕ) (k : LinkKey) (l : LinkRec) : Type 0 where
  pub end : End
  pub among : Contains es end
  pub own_is : own ≡ end.own
  pub key_is : k ≡ end.key
  pub is : l ≡ link_at end

pub record StoodAt (ms : List Member) (own : List ℕ) (k : LinkKey) (l : LinkRec) : Type 0 where
  pub member : Member
  pub at : member_at own ms ≡ Some member
  pub found : link_with k member.party ≡ Some l

pub after_load : (e : End) (moment : ℕ) (ms : List Member) (x : Member) → member_at e.own ms ≡ Some x → members_after (Loads e moment) ms ≡ put_row own_of bytes_eq (with_link x (link_at e)) ms
after_load e moment ms x at = ap (λ (o : Option Member). load_into o (link_at e) ms) at

pub own_of_found : (name : List ℕ) (x : Member) (ms : List Member) → member_at name ms ≡ Some x → name ≡ x.party.own
own_of_found name x ms at = find_key own_of bytes_eq test_idents name x ms at

module _ (known : Known) where
  -- ---- a link of the party behind a load

  pub link_behind : (k : LinkKey) (e : End) (p : Party) → (l : LinkRec) → link_with k (record p { links = put_row link_key same_link (link_at e) p.links }) ≡ Some l → ((k ≡ e.key) × (l ≡ link_at e)) ⊎ (link_with k p ≡ Some l)
  link_behind k e p l h = go (same_link k (link_key (link_at e))) refl (sym (known.put k (link_at e) p) ∙ h)
    where
      go : (b : Bool) → same_link k (link_key (link_at e)) ≡ b → cond b (Some (link_at e)) (link_with k p) ≡ Some l → ((k ≡ e.key) × (l ≡ link_at e)) ⊎ (link_with k p ≡ Some l)
      go true is h = inl ((known.same k (link_key (link_at e))).0 is, cc (h))
      go false is h = inr h

  -- ---- each member

  begins_first : (own : List ℕ) (role : Role) (g : Gen) → IsIdent own → IsGen g → IsFirst (begun own role g)
  begins_first own role g own_is g_is = record {
    party = known.begins own role g own_is g_is;
    links = record { keys = refl; exchanges = refl; answers = refl };
    unused = λ k l found. absurd (cc (found));
  }

  link_is : (e : End) → IsInRange (Loads e 0) → IsLink (link_at e)
  link_is e r = record { peer = r.0; label = r.1; pair = record { left = (known.odd e.pair.left).below; right = (known.odd e.pair.right).below }; next = record { low = omega arith; high = omega arith } }

  loads_first : (x : Member) (e : End) → IsInRange (Loads e 0) → IsFirst x.party → IsFirst (with_link x (link_at e)).party
  loads_first x e r f = record {
    party = known.stays (PutLink (link_at e) ∷ []) x.party (All-cons InRange (PutLink (link_at e)) [] (link_is e r) (All-nil InRange)) f.party;
    links = record { keys = f.links.keys; exchanges = f.links.exchanges; answers = f.links.answers };
    unused = λ k l found. elim (link_behind k e x.party l found) [
      | inl here ↦ subst IsUnused (sym here.1) (record { ready = refl; next = refl })
      | inr there ↦ f.unused k l there
    ];
  }

  step_first : (ms : List Member) (s : SetUp) → IsNew ms s → IsInRange s → Each (λ x. IsFirst x.party) ms → Each (λ x. IsFirst x.party) (members_after s ms)
  step_first ms (Creates own role g) new r each = λ name z at. elim (put_cases (first_member own role g) ms name z at) [
    | inl here ↦ subst (λ (y : Member). IsFirst y.party) (sym here.1) (begins_first own role g r.0 r.1)
    | inr there ↦ each name z there.1
  ]
  step_first ms (Loads e moment) new r each =
      subst (λ (zs : List Member). Each (λ x. IsFirst x.party) zs) (sym (after_load e moment ms new.member new.at)) (λ name z at. elim (put_cases (with_link new.member (link_at e)) ms name z at) [
        | inl here ↦ subst (λ (y : Member). IsFirst y.party) (sym here.1) (loads_first new.member e r (each e.own new.member new.at))
        | inr there ↦ each name z there.1
      ])
  step_first ms LosesPower new r each = each

  pub are_first : (ms : List Member) (ss : List SetUp) → AreNew ms ss → All IsInRange ss → Each (λ x. IsFirst x.party) ms → Each (λ x. IsFirst x.party) (members_by ss ms)
  are_first ms [] new r each = each
  are_first ms (s ∷ ss) new r each = are_first (members_after s ms) ss new.1 (All-tail IsInRange s ss r) (step_first ms s new.0 (All-head IsInRange s ss r) each)

  -- ---- where a link comes from

  step_from : (ms : List Member) (s : SetUp) → IsNew ms s → (own : List ℕ) (k : LinkKey) (l : LinkRec) → StoodAt (members_after s ms) own k l → IsLoaded (end_in s) own k l ⊎ StoodAt ms own k l
  step_from ms (Creates name role g) new own k l t = elim (put_cases (first_member name role g) ms own t.member t.at) [
    | inl here ↦ (let none : link_with k (begun name role g) ≡ Some l = subst (λ (y : Member). link_with k y.party ≡ Some l) here.1 t.found in absurd (cc (none)))
    | inr there ↦ inr (record { member = t.member; at = there.1; found = t.found })
  ]
  step_from ms (Loads e moment) new own k l t =
      let at : member_at own (put_row own_of bytes_eq (with_link new.member (link_at e)) ms) ≡ Some t.member = subst (λ (zs : List Member). member_at own zs ≡ Some t.member) (after_load e moment ms new.member new.at) t.at in
      elim (put_cases (with_link new.member (link_at e)) ms own t.member at) [
        | inl here ↦ elim (link_behind k e new.member.party l (subst (λ (y : Member). link_with k y.party ≡ Some l) here.1 t.found)) [
          | inl loaded ↦ inl (record { end = e; among = first_in e []; own_is = here.0 ∙ sym (own_of_found e.own new.member ms new.at); key_is = loaded.0; is = loaded.1 })
          | inr stood ↦ inr (record { member = new.member; at = subst (λ (q : List ℕ). member_at q ms ≡ Some new.member) (own_of_found e.own new.member ms new.at ∙ sym here.0) new.at; found = stood })
        ]
        | inr there ↦ inr (record { member = t.member; at = there.1; found = t.found })
      ]
  step_from ms LosesPower new own k l t = inr t

  pub comes_from : (ms : List Member) (ss : List SetUp) → AreNew ms ss → (own : List ℕ) (k : LinkKey) (l : LinkRec) → StoodAt (members_by ss ms) own k l → IsLoaded (ends_in ss) own k l ⊎ StoodAt ms own k l
  comes_from ms [] new own k l t = inr t
  comes_from ms (s ∷ ss) new own k l t = elim (comes_from (members_after s ms) ss new.1 own k l t) [
    | inl later ↦ inl (record { end = later.end; among = Contains-append_right (end_in s) (ends_in ss) later.end later.among; own_is = later.own_is; key_is = later.key_is; is = later.is })
    | inr before ↦ elim (step_from ms s new.0 own k l before) [
      | inl here ↦ inl (record { end = here.end; among = Contains-append_left (end_in s) (ends_in ss) here.end here.among; own_is = here.own_is; key_is = here.key_is; is = here.is })
      | inr stood ↦ inr stood
    ]
  ]

-- ---- no two members have one name

step_distinct : (ms : List Member) (s : SetUp) → IsNew ms s → Distinct own_of bytes_eq ms → Distinct own_of bytes_eq (members_after s ms)
step_distinct ms (Creates own role g) new d = distinct_put own_of bytes_eq test_idents (first_member own role g) ms d
step_distinct ms (Loads e moment) new d = subst (Distinct own_of bytes_eq) (sym (after_load e moment ms new.member new.at)) (distinct_put own_of bytes_eq test_idents (with_link new.member (link_at e)) ms d)
step_distinct ms LosesPower new d = d

pub are_distinct : (ms : List Member) (ss : List SetUp) → AreNew ms ss → Distinct own_of bytes_eq ms → Distinct own_of bytes_eq (members_by ss ms)
are_distinct ms [] new d = d
are_distinct ms (s ∷ ss) new d = are_distinct (members_after s ms) ss new.1 (step_distinct ms s new.0 d)
