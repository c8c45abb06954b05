-- A row that stands keeps what is known of the facts.
use Rattle.std.proofs.Common.{Contains}
use Rattle.std.proofs.lemmas.List.Quantifiers.{all_pairs_push}
use Rattle.std.proofs.Common.{append-nil}
use Rattle.std.proofs.Common.{arith, ◌≡◌, inl, inr, ℕ, Option, Some, None, List, [], ◌++◌, refl, sym, ◌∙◌, ap, subst, bytes_eq}
use Rattle.x_base.specs.declared.key_name.KeyName.{KeyName}
use Rattle.x_base.specs.declared.key_name.FullName.{FullName}
use Rattle.x_mac.specs.declared.pair.Pair.{Pair}
use Rattle.x_seal.specs.Wrapped.{unwrap_of, unseal_of}
use Rattle.csm_grammar.specs.declared.message.Message.{Message}
use Rattle.csm_grammar.specs.declared.message.Message.TheVariants as message
use Rattle.csm_grammar.specs.declared.message.Rtr.{Rtr}
use Rattle.csm_grammar.specs.declared.message.Rfs.{Rfs}
use Rattle.csm_grammar.specs.declared.message.Rsm.{Rsm}
use Rattle.csm_grammar.specs.declared.message.Ksm.{Ksm}
use Rattle.csm_grammar.specs.declared.message.KsmBody.{KsmBody}
use Rattle.csm_grammar.specs.declared.message.KsmBody.TheVariants as body
use Rattle.csm_grammar.specs.Spelling.{Says}
use Rattle.csm_write.specs.Canon.{auth_of}
use Rattle.party_tables.specs.declared.link.LinkKey.{LinkKey}
use Rattle.party_tables.specs.declared.link.LinkRec.{LinkRec}
use Rattle.party_tables.specs.declared.key.KeyRec.{KeyRec}
use Rattle.party_tables.specs.declared.exchange.Exchange.{Exchange}
use Rattle.party_tables.specs.Keys.{sends}
use Rattle.party_tables.specs.Names.{name_behind, full_behind}
use Rattle.party_state.specs.State.{Party, centre_label, link_with, record_with, exchange_with, apply}
use Rattle.party_state.specs.Rows.{Row, Reply, Coded, Plain, Again, OfDsm}
use Rattle.party_tables.proofs.Keys.{test_idents}
use Rattle.party_tables.proofs.Tables.{one_found}
use Rattle.role_base.specs.Conditions.{body_issuer}
use Rattle.bank_keys.specs.Ksm.{body_twin, body_value, key_names}
use Rattle.bank_keys.specs.declared.waits.KeyAtCentre.{KeyAtCentre}
use Rattle.bank_keys.specs.Waiting.{waiting_with}
use Rattle.member.specs.Member.{Member}
use Rattle.world_laws.specs.World.{Fact, own_of, member_at}
use Rattle.world_laws.specs.Steps.{facts_of, acceptances_of}
use Rattle.world_laws.specs.Facts.{IsMadeBySender, KsmApart, sender_of}
use Rattle.world_laws.proofs.Links.Growth.{LinkGrows}
use Rattle.world_laws.proofs.Links.Taken.{name_among}
use Rattle.world_laws.proofs.Links.Waiting.{new_of}
use Rattle.world_laws.proofs.Texts.Own.{IsOwn}
use Rattle.std.proofs.Common.{AllPairs, All, get_or}
use Rattle.std.proofs.lemmas.List.Elements.{All-weaker, All-push}
use Rattle.party_tables.proofs.Tables.{find_key}
use Rattle.world_laws.proofs.Links.Putting.{some_none}
use Rattle.world_laws.proofs.Counting.Sound.{IsSound}
use Rattle.world_laws.proofs.Texts.Own.{own_means}
use Rattle.world_laws.proofs.Agreeing.Lists.{Lists, members_after, facts_after, acceptances_after, lists_after, Goes, WaitsMove}
use Rattle.world_laws.proofs.Agreeing.Waiting.{NewSent, sent_name_by, mark_of, marked, mine_not_new, NewFits}
use Rattle.world_laws.proofs.Agreeing.Known.{Mine, counted, issued, mine_on}
use Rattle.world_laws.proofs.Agreeing.KeyRecords.{StandsBefore, before, mine_stands, IsPut}
use Rattle.party_tables.specs.declared.exchange.Kind.TheVariants as kind
use Rattle.world_laws.proofs.Agreeing.Facts.{ksm_key, at_peer, Carries, as_first, carries_same, among_carries, taken_more, KsmFact, WaitsAt, RfsFact, kdu_value, RtrForm, RtrFact, RsmOk, MessageOk, FactOk, RtrApart}
use Rattle.world_laws.proofs.Agreeing.Moves.{RepliesOk, NewName, FreshMessage, FreshReply, OwnText, Agreeing}
use Rattle.world_laws.proofs.Agreeing.Agreed.{Forward, Agreed}
use Rattle.world_laws.proofs.Agreeing.Members.{forward, at_own, more}
use Rattle.change_code.specs.declared.space.Space.{Space}

module _ (o : Option LinkKey) (v : Lists) (p : List ℕ) (x : Member) (space : Space) (text : List ℕ) (r : Row) (found : member_at p v.members ≡ Some x) (sound : IsSound o x.party text r) (own_reply : OwnText x.party.own r.reply) (row : Agreeing v x space text r) (i : Agreed v) where
  pub ksm_on : (f : Fact) (k : Ksm) → KsmFact v f k → KsmFact (lists_after v x space text r) f k
  ksm_on f k b =
      let g = forward o v p x space text r found sound own_reply row i (body_issuer k.originator k.body) b.issuer b.at_issuer in
      let l = g.2.goes.ready (sends k.receiver b.label) b.link b.found b.ready in
      let h = forward o v p x space text r found sound own_reply row i k.originator b.party b.at in
      record {
        label = b.label;
        under = b.under;
        issuer = g.0;
        at_issuer = g.1;
        link = l.0;
        found = l.1;
        ready = l.2.ready b.ready;
        party = h.0;
        at = h.1;
        past = λ u value c. mine_on v.facts (facts_of x.party.own r.reply) b.party.party h.0.party (at_peer u) h.2.goes h.2.waits (b.past u value (before_pair l.0 l.2 u value c));
        value = λ u value c m j. value_on h.2 u value (before_pair l.0 l.2 u value c) m j;
        twins = λ e j is. twins_on h.0 h.2 e j is;
        waits = λ e new j n w. subst (λ (q : Pair). NewFits h.0.party k.receiver q k.body new) (sym l.2.pair) (fits_on h.0 h.2 e new j n w);
      }
    where
      past_first : Mine v.facts b.party.party (ksm_key k b.label)
      past_first = subst (λ (u : FullName). Mine v.facts b.party.party (at_peer u)) b.under (b.past f.under (body_value b.link.pair k.originator k.receiver k.body) (as_first refl refl))

      fits_on : (y : Member) → Forward v (lists_after v x space text r) x (apply r.edits x.party) b.party y → (e : Exchange) (new : List ℕ) → exchange_with k.receiver y.party ≡ Some e → sent_name_by e.kind ≡ Some (ksm_key k b.label).name → new_of e.kind ≡ Some new → NewFits y.party k.receiver b.link.pair k.body new
      fits_on y h e new j n w = elim (h.news k.receiver e (ksm_key k b.label).name new j n (marked e.kind new w)) [
        | inl old ↦ (let u = b.waits e new old n w in record {
          kk = u.kk;
          carried = u.carried;
          label = u.label;
          pair_is = λ l at. elim (h.sending k.receiver new l at) [
            | inl z ↦ z.2 ∙ u.pair_is z.0 z.1
            | inr z ↦ absurd (some_none {x = e} old z)
          ];
        })
        | inr s ↦ absurd (mine_not_new v.facts b.party.party (ksm_key k b.label) past_first s)
      ]

      own : k.originator ≡ b.party.party.own
      own = find_key own_of bytes_eq test_idents k.originator b.party v.members b.at

      before_pair : (l : LinkRec) → LinkGrows b.link l → (u : FullName) (value : ℕ) → Carries l.pair k.originator k.receiver k.body f.under u value → Carries b.link.pair k.originator k.receiver k.body f.under u value
      before_pair l g u value c = subst (λ (q : Pair). Carries q k.originator k.receiver k.body f.under u value) g.pair c

      twins_on : (y : Member) → Forward v (lists_after v x space text r) x (apply r.edits x.party) b.party y → (e : Exchange) → exchange_with k.receiver y.party ≡ Some e → e.kind ≡ kind.PairSent (ksm_key k b.label).name → (kd : ℕ) × (body_twin k.body ≡ Some kd)
      twins_on y h e j is = elim (h.news k.receiver e (ksm_key k b.label).name [] j (ap sent_name_by is) (ap mark_of is)) [
        | inl old ↦ b.twins e old is
        | inr s ↦ absurd (mine_not_new v.facts b.party.party (ksm_key k b.label) past_first s)
      ]

      value_on : {y : Member} → Forward v (lists_after v x space text r) x (apply r.edits x.party) b.party y → (u : FullName) (value : ℕ) → Carries b.link.pair k.originator k.receiver k.body f.under u value → (m : KeyRec) → record_with (at_peer u) y.party ≡ Some m → m.value ≡ value
      value_on h u value c m j = elim (h.keys (at_peer u) m j) [
        | inl old ↦ b.value u value c m old
        | inr put ↦ put_on put.0 put.1
      ]
        where
          same_originator : u.name.originator ≡ k.originator
          same_originator = (carries_same b.link.pair k.originator k.receiver k.body f.under u value c).1 ∙ ap (λ (z : FullName). z.name.originator) b.under

          put_on : b.party ≡ x → IsPut v (lists_after v x space text r) x.party (apply r.edits x.party) (at_peer u) m → m.value ≡ value
          put_on same put = stands (mine_stands v x.party (at_peer u) m put.key (same_originator ∙ (own ∙ ap (λ (z : Member). z.party.own) same)) (subst (λ (z : Member). Mine v.facts z.party (at_peer u)) same (b.past u value c)) put.fine.put)
            where
              stands : StandsBefore x.party m → m.value ≡ value
              stands (before old at value_is ended) =
                  let at_b : record_with (at_peer u) b.party.party ≡ Some old = rw (put.key, same) at in
                  value_is ∙ b.value u value c old at_b

  pub waits_on : (bank centre : List ℕ) (cta value : ℕ) (b : WaitsAt v.members bank centre cta value) → (d : WaitsAt (members_after v.members x space r) bank centre cta value) × (d.link.pair ≡ b.link.pair)
  waits_on bank centre cta value b =
      let h = forward o v p x space text r found sound own_reply row i bank b.party b.at in
      let l = h.2.goes.ready (sends centre centre_label) b.link b.found b.ready in
      (record { party = h.0; at = h.1; link = l.0; found = l.1; ready = l.2.ready b.ready; below = omega (arith, b.below, l.2.next); value_is = λ t j e. waits h.0.party h.2.waits t j e }, l.2.pair)
    where
      waits : (t : Party) → WaitsMove b.party.party t → (a : KeyAtCentre) → waiting_with t centre ≡ Some a → a.cta ≡ cta → a.value ≡ value
      waits t w a j e = elim (w centre a j) [
        | inl old ↦ b.value_is a old e
        | inr n ↦ (let q : b.link.next ≡ n.0.next = ap (λ (y : LinkRec). y.next) (one_found b.link n.0 b.found n.1) in absurd (omega (arith, b.below, n.2, e, q)))
      ]

  pub rfs_on : (f : Fact) (m : Rfs) → RfsFact v.members f m → RfsFact (members_after v.members x space r) f m
  rfs_on f m b = let d = waits_on m.originator m.receiver m.cta b.value b.waits in record { value = b.value; waits = d.0; opened = ap (λ (q : Pair). unwrap_of q m.cta m.kd) d.1 ∙ b.opened }

  pub form_on : (s t : Party) (u : FullName) (m : Rtr) (value : ℕ) (kd : Option (ℕ × ℕ)) → Goes s t → RtrForm v.members s u m value kd → RtrForm (members_after v.members x space r) t u m value kd
  form_on s t u m value (Some k) g b = let l = g.ready (sends m.receiver centre_label) b.0 b.1 b.2 in (l.0, l.1, l.2.ready b.2, ap (λ (q : Pair). unwrap_of q k.1 k.0) l.2.pair ∙ b.3, omega (arith, b.4, l.2.next))
  form_on s t u m value None g b = (waits_on m.receiver m.originator u.name.count value b).0

  pub rtr_on : (f : Fact) (m : Rtr) → RtrFact v.members f m → RtrFact (members_after v.members x space r) f m
  rtr_on f m b =
      let h = forward o v p x space text r found sound own_reply row i m.originator b.party b.at in
      let l = h.2.goes.ready (sends m.ultimate centre_label) b.link b.found b.ready in
      let same : kdu_value b.link m ≡ kdu_value l.0 m = ap (λ (q : Pair). unseal_of q m.receiver m.ultimate m.ctb m.kdu) (sym l.2.pair) in
      record { party = h.0; at = h.1; link = l.0; found = l.1; ready = l.2.ready b.ready; below = omega (arith, b.below, l.2.next); form = subst (λ (n : ℕ). RtrForm (members_after v.members x space r) h.0.party f.under m n m.kd) same (form_on b.party.party h.0.party f.under m (kdu_value b.link m) m.kd h.2.goes b.form) }

  pub fact_on : (f : Fact) → FactOk v f → FactOk (lists_after v x space text r) f
  fact_on f ok m said = go m (ok m said)
    where
      rsm_on : (n : Rsm) (o : Option KeyName) → RsmOk v.acceptances f n o → RsmOk (acceptances_after v.acceptances x text r) f n o
      rsm_on n None b = taken_more v.acceptances (acceptances_of x.party.own text r.accepts) n.originator f.under b
      rsm_on n (Some q) b = more o v p x space text r found sound own_reply row i OfDsm n.originator f.under b

      go : (m : Message) → MessageOk v f m → MessageOk (lists_after v x space text r) f m
      go (message.Rsi m) b = tt
      go (message.Rfs m) b = rfs_on f m b
      go (message.Rtr m) b = rtr_on f m b
      go (message.Ksm k) b = ksm_on f k b
      go (message.Rsm n) b = rsm_on n n.idd b
      go (message.Ers m) b = tt
      go (message.Dsm m) b = tt
      go (message.Esm m) b = tt

  pub facts_on : All (FactOk (lists_after v x space text r)) (facts_after v.facts x r.reply)
  facts_on = go r.reply own_reply row.replies
    where
      old : All (FactOk (lists_after v x space text r)) v.facts
      old = All-weaker (FactOk v) (FactOk (lists_after v x space text r)) fact_on v.facts i.facts

      go : (o : Option Reply) → OwnText x.party.own o → RepliesOk (lists_after v x space text r) x.party.own o → All (FactOk (lists_after v x space text r)) (v.facts ++ facts_of x.party.own o)
      go None w new = rw append-nil old
      go (Some (Plain m)) w new = rw append-nil old
      go (Some (Again text)) w new = rw append-nil old
      go (Some (Coded y under value)) w new = All-push (FactOk (lists_after v x space text r)) v.facts (record { under = under; text = auth_of y; maker = x.party.own }) old (λ m said. subst (MessageOk (lists_after v x space text r) (record { under = under; text = auth_of y; maker = x.party.own })) (own_means y m w.0 said) new)

  pub apart_on : AllPairs RtrApart (facts_after v.facts x r.reply)
  apart_on = go r.reply own_reply row.new
    where
      cross : (y : Message) (under : FullName) (f g : Fact) → IsOwn y → g.text ≡ auth_of y → FactOk v f → FreshMessage v.facts x.party under y → RtrApart f g
      cross y under f g w e ok new m n said_f said_g org ultimate count =
          let y_is : y ≡ message.Rtr n = own_means y (message.Rtr n) w (subst (λ (z : List ℕ). Says z (message.Rtr n)) e said_g) in
          let fresh : FreshMessage v.facts x.party under (message.Rtr n) = subst (FreshMessage v.facts x.party under) y_is new in
          let b : RtrFact v.members f m = ok (message.Rtr m) said_f in
          let party : b.party ≡ x = one_found b.party x b.at (at_own o v p x space text r found sound own_reply row i m.originator (org ∙ fresh.0)) in
          let at : link_with (sends n.ultimate centre_label) x.party ≡ Some b.link = subst (λ (q : List ℕ). link_with (sends q centre_label) x.party ≡ Some b.link) ultimate (subst (λ (z : Member). link_with (sends m.ultimate centre_label) z.party ≡ Some b.link) party b.found) in
          let next : b.link.next ≡ fresh.1.0.next = ap (λ (l : LinkRec). l.next) (one_found b.link fresh.1.0 at fresh.1.1) in
          omega (arith, b.below, fresh.1.2, next, count)

      go : (o : Option Reply) → OwnText x.party.own o → FreshReply v.facts x.party o → AllPairs RtrApart (v.facts ++ facts_of x.party.own o)
      go None w new = rw append-nil i.apart
      go (Some (Plain m)) w new = rw append-nil i.apart
      go (Some (Again text)) w new = rw append-nil i.apart
      go (Some (Coded y under value)) w new = all_pairs_push RtrApart v.facts (record { under = under; text = auth_of y; maker = x.party.own }) i.apart (λ k d l. cross y under (get_or v.facts k d) (record { under = under; text = auth_of y; maker = x.party.own }) w.0 refl (i.facts k d l) new)

  -- a name that is past isn't a new one
  not_new : (u : FullName) → NewName v.facts x.party u → Mine v.facts x.party (record { peer = u.recipient; name = u.name }) → ⊥
  not_new u (inl sent) m = mine_not_new v.facts x.party (record { peer = u.recipient; name = u.name }) m sent
  not_new u (inr far) (counted own l h ready below) = far.0 own
  not_new u (inr far) (issued other j) = far.1 j

  -- nor is the name behind it
  behind_new : (u : FullName) → u.name.issuer ≡ x.party.own → NewName v.facts x.party u → NewSent x.party u.recipient (name_behind u.name)
  behind_new u own (inl n) = record { link = n.link; found = n.found; low = omega (arith, n.low); issuer = n.issuer }
  behind_new u own (inr far) = absurd (far.0 own)

  twin_issuer : (originator : List ℕ) (b : KsmBody) (kd : ℕ) → body_twin b ≡ Some kd → body_issuer originator b ≡ originator
  twin_issuer originator (body.Direct idk2 new k ctp) kd e = absurd (cc)
  twin_issuer originator (body.Centre centre kdu ctb) kd e = absurd (cc)
  twin_issuer originator (body.Twin idk2 first second ctp) kd e = refl

  same_maker : (first u : FullName) (o : Option ℕ) → Contains (key_names first o) u → u.name.originator ≡ first.name.originator
  same_maker first u o h = elim (name_among first u o h) [
    | inl e ↦ ap (λ (z : FullName). z.name.originator) e
    | inr e ↦ ap (λ (z : FullName). z.name.originator) e.2
  ]

  pub names_on : AllPairs KsmApart (facts_after v.facts x r.reply)
  names_on = go r.reply own_reply row.new row.replies
    where
      cross : (y : Message) (under : FullName) (f g : Fact) → IsOwn y → g.text ≡ auth_of y → g.under ≡ under → FactOk v f → FreshMessage v.facts x.party under y → MessageOk (lists_after v x space text r) g y → KsmApart f g
      cross y under f g w e u ok new brings m n said_f said_g z in_f in_g =
          let y_is : y ≡ message.Ksm n = own_means y (message.Ksm n) w (subst (λ (t : List ℕ). Says t (message.Ksm n)) e said_g) in
          let fresh : FreshMessage v.facts x.party under (message.Ksm n) = subst (FreshMessage v.facts x.party under) y_is new in
          let b : KsmFact v f m = ok (message.Ksm m) said_f in
          let c : KsmFact (lists_after v x space text r) g n = subst (MessageOk (lists_after v x space text r) g) y_is brings in
          let made : z.name.originator ≡ x.party.own = same_maker g.under z (body_twin n.body) in_g ∙ (ap (λ (t : FullName). t.name.originator) u ∙ fresh.0) in
          let mine : m.originator ≡ x.party.own = sym (ap (λ (t : FullName). t.name.originator) b.under) ∙ (sym (same_maker f.under z (body_twin m.body) in_f) ∙ made) in
          let party : b.party ≡ x = one_found b.party x b.at (at_own o v p x space text r found sound own_reply row i m.originator mine) in
          let value = among_carries b.link.pair m.originator m.receiver m.body f.under z in_f in
          let past : Mine v.facts x.party (at_peer z) = subst (λ (t : Member). Mine v.facts t.party (at_peer z)) party (b.past z value.0 value.1) in
          elim (name_among g.under z (body_twin n.body) in_g) [
            | inl k ↦ not_new under fresh.1 (subst (λ (t : FullName). Mine v.facts x.party (at_peer t)) (k ∙ u) past)
            | inr k ↦ (
                let issuer : under.name.issuer ≡ x.party.own = ap (λ (t : FullName). t.name.issuer) (sym u ∙ c.under) ∙ (twin_issuer n.originator n.body k.0 k.1 ∙ (ap (λ (t : FullName). t.name.originator) (sym c.under ∙ u) ∙ fresh.0)) in
                let z_is : z ≡ full_behind under = k.2 ∙ ap full_behind u in
                mine_not_new v.facts x.party (at_peer (full_behind under)) (subst (λ (t : FullName). Mine v.facts x.party (at_peer t)) z_is past) (behind_new under issuer fresh.1))
          ]

      go : (o : Option Reply) → OwnText x.party.own o → FreshReply v.facts x.party o → RepliesOk (lists_after v x space text r) x.party.own o → AllPairs KsmApart (v.facts ++ facts_of x.party.own o)
      go None w new brings = rw append-nil i.names
      go (Some (Plain m)) w new brings = rw append-nil i.names
      go (Some (Again text)) w new brings = rw append-nil i.names
      go (Some (Coded y under value)) w new brings = all_pairs_push KsmApart v.facts (record { under = under; text = auth_of y; maker = x.party.own }) i.names (λ k d l. cross y under (get_or v.facts k d) (record { under = under; text = auth_of y; maker = x.party.own }) w.0 refl refl (i.facts k d l) new brings)

  pub made_on : All IsMadeBySender (facts_after v.facts x r.reply)
  made_on = go r.reply own_reply
    where
      go : (o : Option Reply) → OwnText x.party.own o → All IsMadeBySender (v.facts ++ facts_of x.party.own o)
      go None w = rw append-nil i.made
      go (Some (Plain m)) w = rw append-nil i.made
      go (Some (Again text)) w = rw append-nil i.made
      go (Some (Coded y under value)) w = All-push IsMadeBySender v.facts (record { under = under; text = auth_of y; maker = x.party.own }) i.made (λ m said. sym (ap sender_of (sym (own_means y m w.0 said)) ∙ w.1))
