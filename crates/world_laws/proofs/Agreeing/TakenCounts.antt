-- The rows that raise the count that a link expects: what comes is honest, so the sending end is past that count.
use Rattle.party_tables.specs.Names.{full_behind}
use Rattle.bank_keys.specs.Ksm.{body_twin, body_next, body_value, second_value, next_behind, body_second}
use Rattle.world_laws.proofs.Sound.Keys.{taking_edits}
use Rattle.world_laws.proofs.Agreeing.Facts.{at_peer, as_first, as_second}
use Rattle.std.proofs.Common.{arith, ◌≡◌, ◌≢◌, ◌⊎◌, inl, inr, ℕ, ◌+◌, Bool, true, false, Option, Some, None, List, refl, sym, ◌∙◌, ap, subst, bytes_eq}
use Rattle.std.proofs.lemmas.List.Elements.{All-contains}
use Rattle.x_base.specs.declared.key_name.FullName.{FullName}
use Rattle.x_base.specs.declared.party.Side.TheVariants.{Sends, Takes}
use Rattle.csm_grammar.specs.declared.arrival.Arrival.{Arrival}
use Rattle.csm_grammar.specs.declared.message.Ksm.{Ksm}
use Rattle.csm_grammar.specs.declared.message.KsmBody.{KsmBody}
use Rattle.csm_grammar.specs.declared.message.KsmBody.TheVariants as body
use Rattle.csm_grammar.specs.declared.message.Message.TheVariants as message
use Rattle.csm_grammar.specs.declared.message.NewKk.{NewKk}
use Rattle.csm_grammar.specs.declared.message.Rfs.{Rfs}
use Rattle.csm_grammar.specs.declared.message.Rtr.{Rtr}
use Rattle.csm_grammar.specs.Spelling.{Says}
use Rattle.party_tables.specs.declared.key.KeyRec.{KeyRec}
use Rattle.party_tables.specs.declared.link.LinkKey.{LinkKey}
use Rattle.party_tables.specs.declared.link.LinkRec.{LinkRec}
use Rattle.party_tables.specs.Tables.{find_row, put_row}
use Rattle.party_tables.specs.Keys.{same_link, link_key, sends, takes}
use Rattle.party_state.specs.State.{Party, centre_label, link_with, apply}
use Rattle.party_state.specs.Verdicts.{TestsHold as TestsHold, is_accept, tests_pass}
use Rattle.party_tables.proofs.Keys.{test_idents}
use Rattle.party_tables.proofs.Tables.{find_key}
use Rattle.party_state.proofs.Verdicts.{held}
use Rattle.role_base.specs.Conditions.{body_issuer}
use Rattle.csm_grammar.specs.Arrivals.{authenticated_text}
use Rattle.role_base.specs.Texts.{lead_under}
use Rattle.bank_keys.specs.Ksm.{body_link, body_count, body_name, body_new, body_value, body_front, body_tests, body_record, taken_link, key_row, key_found, key_lead_with}
use Rattle.bank_keys.specs.Rtr.{brought_front, brought_value, brought_tests, brought, brought_under, brought_lead}
use Rattle.translation_role.specs.Service.{rfs_front, rfs_value, rfs_under, rfs_tests, rfs_between, rfs_lead_between}
use Rattle.member.specs.Member.{Member}
use Rattle.world_laws.specs.World.{own_of, member_at}
use Rattle.world_laws.specs.Honest.{HasFact}
use Rattle.world_laws.specs.Starts.{HasOtherEnd}
use Rattle.world_laws.proofs.Links.Found.{HasLinks, LinkAt, link_at}
use Rattle.world_laws.proofs.Sound.Keys.{key_held, key_absent, key_link}
use Rattle.world_laws.proofs.Agreeing.Lists.{Lists, to_peer}
use Rattle.world_laws.proofs.Agreeing.Known.{counted, issued, Mine}
use Rattle.world_laws.proofs.Agreeing.Facts.{ksm_key, KsmFact, RfsFact, RtrFact, RtrForm, FactOk, kdu_value}
use Rattle.world_laws.proofs.Agreeing.Agreed.{Agreed}
use Rattle.world_laws.proofs.Agreeing.AnswerRows.{HonestAs}
use Rattle.world_laws.proofs.Agreeing.Steps.{other_of, fact_says, here}
use Rattle.world_laws.proofs.Agreeing.MeetingCounts.{IsReached, IsUnready, IsMet, CountsMove, put_cases, sending_counts}
use Rattle.change_code.specs.declared.space.Space.{Space}

-- a link after keys were taken
taken_cases : (s : Party) (originator : List ℕ) (l : LinkRec) (count up : ℕ) (n : Option (List ℕ × NewKk)) (r : KeyRec) (o : Option KeyRec) (k : LinkKey) (z : LinkRec) → link_with k (apply (taking_edits originator l count up n r o) s) ≡ Some z
    → (link_with k s ≡ Some z) ⊎ (((k ≡ link_key l) × (z.next ≡ up)) ⊎ ((kk : List ℕ × NewKk) × (n ≡ Some kk) × (k ≡ takes originator kk.0) × (z.next ≡ 2)))
taken_cases s originator l count up n r o k z h = by_new n (links_of n o h)
  where
    -- the links that its edits leave
    left : Option (List ℕ × NewKk) → List LinkRec
    left None = put_row link_key same_link (record l { next = up }) s.links
    left (Some n) = put_row link_key same_link (taken_link originator l count n) (put_row link_key same_link (record l { next = up }) s.links)

    links_of : (n : Option (List ℕ × NewKk)) (o : Option KeyRec) → link_with k (apply (taking_edits originator l count up n r o) s) ≡ Some z → find_row link_key same_link k (left n) ≡ Some z
    links_of None None h = h
    links_of None (Some j) h = h
    links_of (Some n) None h = h
    links_of (Some n) (Some j) h = h

    by_new : (n : Option (List ℕ × NewKk)) → find_row link_key same_link k (left n) ≡ Some z → (link_with k s ≡ Some z) ⊎ (((k ≡ link_key l) × (z.next ≡ up)) ⊎ ((kk : List ℕ × NewKk) × (n ≡ Some kk) × (k ≡ takes originator kk.0) × (z.next ≡ 2)))
    by_new None h = elim (put_cases (record l { next = up }) s.links k z h) [
      | inl a ↦ inr (inl (a.0, ap (λ (y : LinkRec). y.next) (sym a.1)))
      | inr a ↦ inl a
    ]
    by_new (Some n) h = elim (put_cases (taken_link originator l count n) (put_row link_key same_link (record l { next = up }) s.links) k z h) [
      | inl a ↦ inr (inr (n, refl, a.0, ap (λ (y : LinkRec). y.next) (sym a.1)))
      | inr b ↦ elim (put_cases (record l { next = up }) s.links k z b) [
        | inl a ↦ inr (inl (a.0, ap (λ (y : LinkRec). y.next) (sym a.1)))
        | inr a ↦ inl a
      ]
    ]

module _ (v : Lists) (p : List ℕ) (x : Member) (space : Space) (at : member_at p v.members ≡ Some x) (i : Agreed v) where
  -- the sending end of the link of this key here is past the count
  abbrev ReachedBy : LinkKey → ℕ → Type 0
  ReachedBy k n = IsReached v.members k.peer (sends x.party.own k.label) n

  met_by : (peer label : List ℕ) (j : LinkKey) (m n : ℕ) → takes peer label ≡ j → m ≡ n → ReachedBy j n → IsMet v.members peer (sends x.party.own label) m
  met_by peer label j m n key count e = inl (subst (λ (k : LinkKey). ReachedBy k m) (sym key) (subst (ReachedBy j) (sym count) e))

  module _ (links : HasLinks x.party) (a : Arrival) (m : Ksm) (b : KsmBody) (l : LinkRec) (said : Says (authenticated_text a) (message.Ksm m)) (is : m.body ≡ b) (found : body_link x.party m.originator b ≡ Some l) (honest : HonestAs v.facts a (key_lead_with x.party a m b (Some l))) (h : is_accept (key_row x.party a m b (Some l)).verdict ≡ true) where
    t : TestsHold (body_tests x.party a m b l)
    t = key_held x.party a m b l links is found h

    mine_is : (m.receiver ≡ x.party.own) × (m.originator ≢ x.party.own)
    mine_is = other_of x.party m.receiver m.originator t.0

    front : tests_pass (body_front x.party m b (Some l)) ≡ true
    front = rw (t.0, t.1.0) refl

    fact : HasFact v.facts (body_name x.party m.originator b l) (authenticated_text a)
    fact = honest (key_found x.party a m b l) (rw front refl) t.1.1.1.0

    f : KsmFact v fact.fact m
    f = fact_says v p x space at i (body_name x.party m.originator b l) (authenticated_text a) fact (message.Ksm m) said

    name : body_name x.party m.originator b l ≡ to_peer (ksm_key m f.label)
    name = sym fact.under_is ∙ f.under

    issuer : (body_name x.party m.originator b l).name.issuer ≡ body_issuer m.originator m.body
    issuer = ap (λ (z : FullName). z.name.issuer) name

    label : (body_name x.party m.originator b l).name.label ≡ f.label
    label = ap (λ (z : FullName). z.name.label) name

    count : body_count b ≡ body_count m.body
    count = ap body_count (sym is)

    own_f : m.originator ≡ f.party.party.own
    own_f = find_key own_of bytes_eq test_idents m.originator f.party v.members f.at

    -- a key that the text brings, by its name at the sending end
    module _ (u : FullName) (recipient : u.recipient ≡ m.receiver) (label_u : u.name.label ≡ f.label) (issuer_u : u.name.issuer ≡ body_issuer m.originator m.body) (last : body_next b ≡ u.name.count + 1) where
      by_mine : Mine v.facts f.party.party (at_peer u) → IsReached v.members (body_issuer m.originator m.body) (sends x.party.own f.label) (body_next b)
      by_mine (counted own j g ready below) = record {
        member = f.party;
        at = subst (λ (q : List ℕ). member_at q v.members ≡ Some f.party) (own_f ∙ (sym own ∙ issuer_u)) f.at;
        link = j;
        found = subst (λ (q : LinkKey). link_with q f.party.party ≡ Some j) (λ h. sends ((recipient ∙ mine_is.0) h) (label_u h)) g;
        ready = ready;
        next = omega (arith, below, last);
      }
      by_mine (issued other j) = by_body b is
        where
          b_rtr : RtrFact v.members j.fact j.rtr
          b_rtr = All-contains (FactOk v) v.facts j.fact i.facts j.stands (message.Rtr j.rtr) j.said

          by_body : (c : KsmBody) → m.body ≡ c → IsReached v.members (body_issuer m.originator m.body) (sends x.party.own f.label) (body_next b)
          by_body (body.Direct idk2 new kd ctp) e = absurd (other (issuer_u ∙ (ap (body_issuer m.originator) e ∙ own_f)))
          by_body (body.Twin idk2 first second ctp) e = absurd (other (issuer_u ∙ (ap (body_issuer m.originator) e ∙ own_f)))
          by_body (body.Centre centre kdu ctb) e =
              let central : centre_label ≡ f.label = sym (ap (λ (c : KsmBody). (body_name x.party m.originator c l).name.label) (sym is ∙ e)) ∙ label in
              let low = b_rtr.below in
              let same = j.count in
              record {
                member = b_rtr.party;
                at = subst (λ (q : List ℕ). member_at q v.members ≡ Some b_rtr.party) (j.centre ∙ issuer_u) b_rtr.at;
                link = b_rtr.link;
                found = subst (λ (k : List ℕ). link_with (sends x.party.own k) b_rtr.party.party ≡ Some b_rtr.link) central (subst (λ (q : List ℕ). link_with (sends q centre_label) b_rtr.party.party ≡ Some b_rtr.link) (j.ultimate ∙ (recipient ∙ mine_is.0)) b_rtr.found);
                ready = b_rtr.ready;
                next = omega (arith, low, same, last);
              }

    -- the count of the last of its keys is past there
    by_last : (o : Option ℕ) → body_twin b ≡ o → IsReached v.members (body_issuer m.originator m.body) (sends x.party.own f.label) (body_next b)
    by_last None e = by_mine fact.fact.under (ap (λ (z : FullName). z.recipient) f.under) (ap (λ (z : FullName). z.name.label) f.under) (ap (λ (z : FullName). z.name.issuer) f.under) (ap (next_behind (body_count b)) e ∙ ap (λ (n : ℕ). n + 1) (count ∙ sym (ap (λ (z : FullName). z.name.count) f.under))) (f.past fact.fact.under (body_value f.link.pair m.originator m.receiver m.body) (as_first refl refl))
    by_last (Some kd) e = by_mine (full_behind fact.fact.under) (ap (λ (z : FullName). z.recipient) f.under) (ap (λ (z : FullName). z.name.label) f.under) (ap (λ (z : FullName). z.name.issuer) f.under)
        (let next : body_next b ≡ body_count b + 2 = ap (next_behind (body_count b)) e in let under : fact.fact.under.name.count ≡ body_count m.body = ap (λ (z : FullName). z.name.count) f.under in omega (arith, next, under, count))
        (f.past (full_behind fact.fact.under) (second_value f.link.pair m.body kd) (as_second kd (ap body_twin is ∙ e) refl refl))

    reached : ReachedBy (takes (body_name x.party m.originator b l).name.issuer (body_name x.party m.originator b l).name.label) (body_next b)
    reached = subst (λ (q : List ℕ). IsReached v.members q (sends x.party.own (body_name x.party m.originator b l).name.label) (body_next b)) (sym issuer) (subst (λ (k : List ℕ). IsReached v.members (body_issuer m.originator m.body) (sends x.party.own k) (body_next b)) (sym label) (by_last (body_twin b) refl))

    la : LinkAt x.party (takes (body_name x.party m.originator b l).name.issuer (body_name x.party m.originator b l).name.label) l
    la = link_at x.party (takes (body_name x.party m.originator b l).name.issuer (body_name x.party m.originator b l).name.label) l (key_link x.party a m b l links is found h)

    -- a new key-encrypting key has no ready link where it comes from
    unready : (kk : List ℕ × NewKk) → body_new b ≡ Some kk → IsUnready v.members m.originator (sends x.party.own kk.0)
    unready kk e y j at_y g = go j.ready refl
      where
        go : (d : Bool) → j.ready ≡ d → j.ready ≡ false
        go false r = r
        go true r =
            let ends : HasOtherEnd v.members x.party.own (takes m.originator kk.0) j = i.ends m.originator y x.party.own kk.0 j at_y g r in
            let same : ends.member ≡ x = here v p x space at i x.party.own ends.member refl ends.at in
            let stands : link_with (takes m.originator kk.0) x.party ≡ Some ends.link = subst (λ (z : Member). link_with (takes m.originator kk.0) z.party ≡ Some ends.link) same ends.found in
            let none : link_with (takes m.originator kk.0) x.party ≡ None = key_absent x.party a m b l links is found h kk e in
            absurd (cc)

    pub taken_counts : CountsMove v.members x.party (key_row x.party a m b (Some l))
    taken_counts = record { takes_on = moved; begun = λ mk e z g. absurd (cc) }
      where
        moved : (peer label : List ℕ) (z : LinkRec) → link_with (takes peer label) (apply (key_row x.party a m b (Some l)).edits x.party) ≡ Some z → ((y : LinkRec) × (link_with (takes peer label) x.party ≡ Some y) × (z.next ≡ y.next)) ⊎ IsMet v.members peer (sends x.party.own label) z.next
        moved peer label z g = elim (taken_cases x.party m.originator l (body_count b) (body_next b) (body_new b) (body_record x.party m b l) (body_second x.party m b l) (takes peer label) z g) [
          | inl old ↦ inl (z, old, refl)
          | inr other ↦ elim other [
            | inl up ↦ inr (met_by peer label (takes (body_name x.party m.originator b l).name.issuer (body_name x.party m.originator b l).name.label) z.next (body_next b) (up.0 ∙ la.key) up.1 reached)
            | inr new ↦ inr (inr ((let two = new.3 in omega (arith, two)), subst (λ (k : LinkKey). IsUnready v.members k.peer (sends x.party.own k.label)) (sym new.2) (unready new.0 new.1)))
          ]
        ]

  brought_counts : (a : Arrival) (m : Rtr) (k : ℕ × ℕ) (l : LinkRec) → Says (authenticated_text a) (message.Rtr m) → m.kd ≡ Some k → link_with (takes m.originator centre_label) x.party ≡ Some l → HonestAs v.facts a (brought_lead x.party a m k (Some l)) → is_accept (brought x.party a m k (Some l)).verdict ≡ true → CountsMove v.members x.party (brought x.party a m k (Some l))
  brought_counts a m k l said kd_is e honest h = record { takes_on = moved; begun = λ mk e z g. absurd (cc) }
    where
      la : LinkAt x.party (takes m.originator centre_label) l
      la = link_at x.party (takes m.originator centre_label) l e

      t : TestsHold (brought_tests x.party a m k l)
      t = held (brought_tests x.party a m k l) refl h

      mine_is : (m.receiver ≡ x.party.own) × (m.originator ≢ x.party.own)
      mine_is = other_of x.party m.receiver m.originator t.0

      front : tests_pass (brought_front x.party m (Some l)) ≡ true
      front = rw (t.0, t.1.0, t.1.1.0, t.1.1.1.0) refl

      fact : HasFact v.facts (brought_under x.party m k.1) (authenticated_text a)
      fact = honest (lead_under a (brought_under x.party m k.1) (brought_value l k)) (rw front refl) t.1.1.1.1.1.0

      f : RtrFact v.members fact.fact m
      f = fact_says v p x space at i (brought_under x.party m k.1) (authenticated_text a) fact (message.Rtr m) said

      form : RtrForm v.members f.party.party fact.fact.under m (kdu_value f.link m) (Some k)
      form = subst (RtrForm v.members f.party.party fact.fact.under m (kdu_value f.link m)) kd_is f.form

      reached : ReachedBy (takes m.originator centre_label) (k.1 + 1)
      reached = record { member = f.party; at = f.at; link = form.0; found = subst (λ (q : List ℕ). link_with (sends q centre_label) f.party.party ≡ Some form.0) mine_is.0 form.1; ready = form.2; next = (let low = form.4 in omega (arith, low)) }

      moved : (peer label : List ℕ) (z : LinkRec) → link_with (takes peer label) (apply (brought x.party a m k (Some l)).edits x.party) ≡ Some z → ((y : LinkRec) × (link_with (takes peer label) x.party ≡ Some y) × (z.next ≡ y.next)) ⊎ IsMet v.members peer (sends x.party.own label) z.next
      moved peer label z g = elim (put_cases (record l { next = k.1 + 1 }) x.party.links (takes peer label) z g) [
        | inl up ↦ inr (met_by peer label (takes m.originator centre_label) z.next (k.1 + 1) (up.0 ∙ la.key) (ap (λ (y : LinkRec). y.next) (sym up.1)) reached)
        | inr old ↦ inl (z, old, refl)
      ]

  pub rtr_brought_counts : (a : Arrival) (m : Rtr) (k : ℕ × ℕ) (o : Option LinkRec) → Says (authenticated_text a) (message.Rtr m) → m.kd ≡ Some k → link_with (takes m.originator centre_label) x.party ≡ o → HonestAs v.facts a (brought_lead x.party a m k o) → is_accept (brought x.party a m k o).verdict ≡ true → CountsMove v.members x.party (brought x.party a m k o)
  rtr_brought_counts a m k None said kd_is e honest h = sending_counts v.members x.party (brought x.party a m k None) tt refl
  rtr_brought_counts a m k (Some l) said kd_is e honest h = brought_counts a m k l said kd_is e honest h

  pub rfs_counts : (a : Arrival) (m : Rfs) (fa fb : Option LinkRec) → Says (authenticated_text a) (message.Rfs m) → link_with (takes m.originator centre_label) x.party ≡ fa → link_with (sends m.ultimate centre_label) x.party ≡ fb → HonestAs v.facts a (rfs_lead_between x.party a m fa fb) → is_accept (rfs_between x.party a m fa fb).verdict ≡ true → CountsMove v.members x.party (rfs_between x.party a m fa fb)
  rfs_counts a m None fb said ea eb honest h = sending_counts v.members x.party (rfs_between x.party a m None fb) tt refl
  rfs_counts a m (Some l) None said ea eb honest h = sending_counts v.members x.party (rfs_between x.party a m (Some l) None) tt refl
  rfs_counts a m (Some l) (Some b) said ea eb honest h = record { takes_on = moved; begun = λ mk e z g. absurd (cc) }
    where
      la : LinkAt x.party (takes m.originator centre_label) l
      la = link_at x.party (takes m.originator centre_label) l ea

      lb : LinkAt x.party (sends m.ultimate centre_label) b
      lb = link_at x.party (sends m.ultimate centre_label) b eb

      t : TestsHold (rfs_tests x.party a m l b)
      t = held (rfs_tests x.party a m l b) refl h

      mine_is : (m.receiver ≡ x.party.own) × (m.originator ≢ x.party.own)
      mine_is = other_of x.party m.receiver m.originator t.0

      front : tests_pass (rfs_front x.party m true) ≡ true
      front = rw (t.0, t.1.0, t.1.1.0) refl

      fact : HasFact v.facts (rfs_under x.party m) (authenticated_text a)
      fact = honest (lead_under a (rfs_under x.party m) (rfs_value m l)) (rw front refl) t.1.1.1.1.0

      f : RfsFact v.members fact.fact m
      f = fact_says v p x space at i (rfs_under x.party m) (authenticated_text a) fact (message.Rfs m) said

      reached : ReachedBy (takes m.originator centre_label) (m.cta + 1)
      reached = record { member = f.waits.party; at = f.waits.at; link = f.waits.link; found = subst (λ (q : List ℕ). link_with (sends q centre_label) f.waits.party.party ≡ Some f.waits.link) mine_is.0 f.waits.found; ready = f.waits.ready; next = (let low = f.waits.below in omega (arith, low)) }

      moved : (peer label : List ℕ) (z : LinkRec) → link_with (takes peer label) (apply (rfs_between x.party a m (Some l) (Some b)).edits x.party) ≡ Some z → ((y : LinkRec) × (link_with (takes peer label) x.party ≡ Some y) × (z.next ≡ y.next)) ⊎ IsMet v.members peer (sends x.party.own label) z.next
      moved peer label z g = elim (put_cases (record b { next = b.next + 1 }) (put_row link_key same_link (record l { next = m.cta + 1 }) x.party.links) (takes peer label) z g) [
        | inl second ↦ absurd (let side : Takes ≡ Sends = ap (λ (k : LinkKey). k.side) (second.0 ∙ lb.key) in cc)
        | inr left ↦ elim (put_cases (record l { next = m.cta + 1 }) x.party.links (takes peer label) z left) [
          | inl up ↦ inr (met_by peer label (takes m.originator centre_label) z.next (m.cta + 1) (up.0 ∙ la.key) (ap (λ (y : LinkRec). y.next) (sym up.1)) reached)
          | inr old ↦ inl (z, old, refl)
        ]
      ]
