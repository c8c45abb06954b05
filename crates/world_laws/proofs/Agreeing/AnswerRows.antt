-- Agreement: a centre's answer arrives.
use Rattle.csm_read.proofs.Lawful.{one_meaning}
use Rattle.world_laws.proofs.Agreeing.Moves.{Backed}
use Rattle.std.proofs.Common.{arith, ◌≡◌, ◌≢◌, ◌⊎◌, inl, inr, ℕ, ◌≤◌, ◌+◌, true, Option, Some, None, List, refl, sym, ◌∙◌, ap, subst, bytes_eq}
use Rattle.std.proofs.lemmas.List.Elements.{Contains-append_left}
use Rattle.x_base.specs.declared.key_name.KeyName.{KeyName}
use Rattle.x_base.specs.declared.key_name.FullName.{FullName}
use Rattle.x_mac.specs.declared.pair.Pair.{Pair}
use Rattle.x_seal.specs.Wrapped.{unwrap_of, unseal_of}
use Rattle.csm_grammar.specs.declared.message.Message.TheVariants as message
use Rattle.csm_grammar.specs.declared.message.Rtr.{Rtr}
use Rattle.csm_grammar.specs.Spelling.{Says}
use Rattle.csm_write.specs.Canon.{auth_of}
use Rattle.party_tables.specs.declared.link.LinkKey.{LinkKey}
use Rattle.party_tables.specs.declared.link.LinkRec.{LinkRec}
use Rattle.party_tables.specs.declared.key.KeyRec.{KeyRec}
use Rattle.party_tables.specs.declared.exchange.Exchange.{Exchange}
use Rattle.party_tables.specs.declared.exchange.Kind.TheVariants as kind
use Rattle.party_tables.specs.Tables.{find_row, put_row}
use Rattle.party_tables.specs.Keys.{same_record, record_key, exchange_key, sends, takes}
use Rattle.party_state.specs.State.{Party, centre_label, link_with, record_with, exchange_with, apply}
use Rattle.party_state.specs.Rows.{Row, Coded}
use Rattle.party_tables.proofs.Tables.{one_found}
use Rattle.bank_keys.specs.declared.waits.KeyAtCentre.{KeyAtCentre}
use Rattle.bank_keys.specs.Waiting.{waiting_with}
use Rattle.member.specs.Member.{Member}
use Rattle.world_laws.specs.World.{Fact, member_at}
use Rattle.world_laws.specs.Steps.{facts_of}
use Rattle.world_laws.specs.Honest.{HasFact}
use Rattle.world_laws.specs.Starts.{HasOtherEnd}
use Rattle.world_laws.proofs.Links.Growth.{PartyGrows}
use Rattle.world_laws.proofs.Links.Waiting.{new_of}
use Rattle.party_tables.specs.Tables.{drop_row}
use Rattle.party_tables.specs.declared.exchange.Via.{Via}
use Rattle.bank_keys.specs.Waiting.{waiting_by}
use Rattle.world_laws.proofs.Agreeing.Waiting.{AllSent}
use Rattle.world_laws.proofs.Links.Growth.{PartyGrows}
use Rattle.world_laws.proofs.Agreeing.Moves.{RepliesOk, FreshReply, AcceptsOk, Agreeing}
use Rattle.world_laws.proofs.Agreeing.Lists.{Lists, after, lists_after}
use Rattle.world_laws.proofs.Agreeing.Known.{Known}
use Rattle.world_laws.proofs.Agreeing.Waiting.{AllSent}
use Rattle.world_laws.proofs.Agreeing.Agreed.{Agreed}
use Rattle.x_seal.specs.Wrapped.{unwrap_of}
use Rattle.party_tables.specs.declared.exchange.Via.TheVariants as vias
use Rattle.party_tables.specs.Keys.{link_key, same_link}
use Rattle.party_state.specs.Verdicts.{TestsHold as TestsHold, verdict_of, is_accept}
use Rattle.party_state.proofs.Verdicts.{held}
use Rattle.role_base.specs.Texts.{text_of}
use Rattle.world_laws.proofs.Links.Growth.{change_grows}
use Rattle.world_laws.proofs.Links.Found.{LinkAt, link_at}
use Rattle.world_laws.proofs.Links.Putting.{put_at}
use Rattle.world_laws.proofs.Counting.Sound.{IsSound}
use Rattle.world_laws.proofs.Agreeing.Known.{Mine, counted, issued, mine, theirs}
use Rattle.world_laws.proofs.Agreeing.KeyRecords.{brought as came, one}
use Rattle.world_laws.proofs.Agreeing.Facts.{KsmFact}
use Rattle.world_laws.proofs.Agreeing.Exchanges.{put_same, ex_drop, ex_put, waiting_some, waits_both, news_both, sent_both}
use Rattle.world_laws.proofs.Agreeing.Backs.{backed}
use Rattle.world_laws.proofs.Agreeing.Steps.{other_of, pairs_or_same, some_is, fact_says, here, there, after_is, refused_agreeing}
use Rattle.std.proofs.lemmas.List.Elements.{Contains-append_left}
use Rattle.party_tables.specs.Tables.{drop_row}
use Rattle.party_tables.specs.declared.exchange.Via.{Via}
use Rattle.party_state.specs.Verdicts.{tests_pass}
use Rattle.party_state.specs.declared.decision.Lead.{Lead}
use Rattle.csm_grammar.specs.declared.arrival.Arrival.{Arrival}
use Rattle.x_seal.specs.Wrapped.{unseal_of}
use Rattle.csm_grammar.specs.Arrivals.{authenticated_text}
use Rattle.role_base.specs.Texts.{lead_under}
use Rattle.role_base.specs.Exchanges.{new_label}
use Rattle.bank_keys.specs.declared.waits.KeyAtCentre.{KeyAtCentre}
use Rattle.bank_keys.specs.Waiting.{waiting_with, waiting_by}
use Rattle.bank_keys.specs.Rtr.{centre_name, centre_ksm, passed_reply, passed_record, brought_front, brought_value, brought_tests, brought, brought_under, brought_lead, translated_front, translated_tests, translated, translated_under, translated_lead, rtr_with, rtr_lead_with}
use Rattle.world_laws.proofs.Sound.Answers.{brought_low}
use Rattle.party_tables.specs.Names.{name_behind}
use Rattle.world_laws.proofs.Agreeing.Waiting.{second_name_by}
use Rattle.world_laws.proofs.Agreeing.Facts.{at_peer, Carries, carries_one}
use Rattle.world_laws.proofs.Agreeing.Known.{IsUsed, Issued, Known}
use Rattle.world_laws.proofs.Agreeing.Facts.{RtrFact, RtrForm, RtrApart, WaitsAt, kdu_value}
use Rattle.world_laws.proofs.Agreeing.Lists.{facts_after}
use Rattle.change_code.specs.declared.space.Space.{Space}

abbrev passed_exchange : Party → Rtr → ℕ → Via → Exchange
passed_exchange p m value via = record { peer = m.ultimate; kind = kind.KeySent (centre_name p m) via; text = text_of (passed_reply p m value) }

abbrev pub HonestAs : List Fact → Arrival → Option Lead → Type 0
HonestAs fs a o = (l : Lead) → o ≡ Some l → l.verified ≡ true → HasFact fs l.under (authenticated_text a)

module _ (v : Lists) (p : List ℕ) (x : Member) (space : Space) (at : member_at p v.members ≡ Some x) (i : Agreed v) where
  sent : AllSent x.party
  sent = i.sent p x at

  -- the key goes on
  passed_agreeing : (o : Option LinkKey) (text : List ℕ) (r : Row) (m : Rtr) (value : ℕ) (via : Via) (u : FullName) → new_label via ≡ None → PartyGrows o x.party (apply r.edits x.party) → Backed v.members x.party (apply r.edits x.party) → (apply r.edits x.party).keys ≡ put_row record_key same_record (passed_record x.party m value) x.party.keys → (apply r.edits x.party).exchanges ≡ put_row exchange_key bytes_eq (passed_exchange x.party m value via) (drop_row exchange_key bytes_eq m.originator x.party.exchanges)
      → r.reply ≡ Some (Coded (message.Ksm (centre_ksm x.party m)) (record { name = centre_name x.party m; recipient = m.ultimate }) value) → r.accepts ≡ None → m.receiver ≡ x.party.own → m.originator ≢ x.party.own → Says text (message.Rtr m) → (f : HasFact v.facts u text) → (IsUsed x.party m f.fact.under m.kd → ⊥) → IsUsed (apply r.edits x.party) m f.fact.under m.kd → ((b : RtrFact v.members f.fact m) → value ≡ kdu_value b.link m) → Agreeing v x space text r
  passed_agreeing o text r m value via u via_new grown back keys_is ex_is reply_is accepts_is mine_is other said f unused used value_is = record {
    back = back;
    news = news_both x.party (apply r.edits x.party) m.originator (passed_exchange x.party m value via) ex_is (via_new);
    keys = one (passed_record x.party m value) keys_is (record { put = came refl other not_before; live = λ no own. absurd no; known = mine (sym own_on) past; gone = λ n j held. absurd (not_there n j) });
    exchanges = sent_both x.party (apply r.edits x.party) m.originator (passed_exchange x.party m value via) (passed_record x.party m value) own_on ex_is keys_is (inr refl) (λ name q. (let n : centre_name x.party m ≡ name = some_is (centre_name x.party m) name q in (sym n, ap (λ (z : KeyName). z.originator) (sym n), refl, refl))) refl sent;
    waits = waits_both x.party (apply r.edits x.party) m.originator (passed_exchange x.party m value via) ex_is refl;
    replies = subst (RepliesOk (lists_after v x space text r) x.party.own) (sym reply_is) the_fact;
    new = subst (FreshReply v.facts x.party) (sym reply_is) (refl, inr (other, not_before));
    accepts = subst (AcceptsOk (lists_after v x space text r) x.party.own text) (sym accepts_is) tt;
  }
    where
      own_on : (apply r.edits x.party).own ≡ x.party.own
      own_on = grown.own

      said_f : Says f.fact.text (message.Rtr m)
      said_f = subst (λ (z : List ℕ). Says z (message.Rtr m)) (sym f.text_is) said

      b : RtrFact v.members f.fact m
      b = fact_says v p x space at i u text f (message.Rtr m) said

      not_before : Issued v.facts x.party (record_key (passed_record x.party m value)) → ⊥
      not_before j = go (pairs_or_same RtrApart v.facts j.fact f.fact i.apart j.stands f.stands)
        where
          go : (j.fact ≡ f.fact) ⊎ (RtrApart j.fact f.fact ⊎ RtrApart f.fact j.fact) → ⊥
          go (inl e) =
              let k : message.Rtr j.rtr ≡ message.Rtr m = one_meaning f.fact.text (message.Rtr j.rtr) (message.Rtr m) (subst (λ (g : Fact). Says g.text (message.Rtr j.rtr)) e j.said) said_f in
              let same : j.rtr ≡ m = cc in
              unused (subst (λ (q : Rtr). IsUsed x.party q f.fact.under q.kd) same (subst (λ (g : Fact). IsUsed x.party j.rtr g.under j.rtr.kd) e j.used))
          go (inr (inl a)) = a j.rtr m j.said said_f j.centre j.ultimate j.count
          go (inr (inr a)) = a m j.rtr said_f j.said (sym j.centre) (sym j.ultimate) (sym j.count)

      past : Mine (facts_after v.facts x r.reply) (apply r.edits x.party) (record_key (passed_record x.party m value))
      past = issued (λ e. other (e ∙ own_on)) (record { rtr = m; fact = f.fact; stands = Contains-append_left v.facts (facts_of x.party.own r.reply) f.fact f.stands; said = said_f; centre = refl; ultimate = refl; count = refl; used = used })

      not_there : (n : KeyRec) → record_with (record_key (passed_record x.party m value)) x.party ≡ Some n → ⊥
      not_there n j = known_not (i.known p x at (record_key (passed_record x.party m value)) n j)
        where
          mine_not : Mine v.facts x.party (record_key (passed_record x.party m value)) → ⊥
          mine_not (counted o l g rd below) = other o
          mine_not (issued o a) = not_before a

          known_not : Known v x.party (record_key (passed_record x.party m value)) → ⊥
          known_not (mine o a) = mine_not a
          known_not (theirs o g a) = o refl

      alone : (u : FullName) (val : ℕ) → Carries b.link.pair x.party.own m.ultimate (centre_ksm x.party m).body (record { name = centre_name x.party m; recipient = m.ultimate }) u val → (u ≡ record { name = centre_name x.party m; recipient = m.ultimate }) × (val ≡ unseal_of b.link.pair x.party.own m.ultimate m.ctb m.kdu)
      alone u val c = carries_one b.link.pair x.party.own m.ultimate (centre_ksm x.party m).body (record { name = centre_name x.party m; recipient = m.ultimate }) u val refl c

      the_fact : KsmFact (lists_after v x space text r) (record { under = record { name = centre_name x.party m; recipient = m.ultimate }; text = auth_of (message.Ksm (centre_ksm x.party m)); maker = x.party.own }) (centre_ksm x.party m)
      the_fact = record {
        label = centre_label;
        under = refl;
        issuer = b.party;
        at_issuer = there v p x space at i o r m.originator b.party grown other b.at;
        link = b.link;
        found = b.found;
        ready = b.ready;
        party = after x space r;
        at = after_is v p x space at i o r grown;
        past = λ u val c. subst (λ (z : FullName). Mine (facts_after v.facts x r.reply) (apply r.edits x.party) (at_peer z)) (sym (alone u val c).0) past;
        value = λ u val c n g. (let j : record_with (record_key (passed_record x.party m value)) (apply r.edits x.party) ≡ Some n = subst (λ (z : FullName). record_with (at_peer z) (apply r.edits x.party) ≡ Some n) (alone u val c).0 g in let q : passed_record x.party m value ≡ n = put_same x.party (apply r.edits x.party) (record_key (passed_record x.party m value)) (passed_record x.party m value) n keys_is refl j in
            ap (λ (z : KeyRec). z.value) (sym q) ∙ (value_is b ∙ (ap (λ (o : List ℕ). unseal_of b.link.pair o m.ultimate m.ctb m.kdu) mine_is ∙ sym (alone u val c).1)));
        twins = λ e j is. absurd (elim (ex_put (drop_row exchange_key bytes_eq m.originator x.party.exchanges) (passed_exchange x.party m value via) m.ultimate e (rw (← ex_is) j)) [
          | inl a ↦ (let q : None ≡ Some (name_behind (centre_name x.party m)) = ap (λ (z : Exchange). second_name_by z.kind) a.1 ∙ ap second_name_by is in cc)
          | inr a ↦ a.1 refl
        ]);
        waits = λ e new j nm w. absurd (elim (ex_put (drop_row exchange_key bytes_eq m.originator x.party.exchanges) (passed_exchange x.party m value via) m.ultimate e (rw (← ex_is) j)) [
          | inl a ↦ (let q : new_of e.kind ≡ None = ap (λ (z : Exchange). new_of z.kind) (sym a.1) ∙ via_new in cc)
          | inr a ↦ a.1 refl
        ]);
      }

  -- with the key
  brought_agreeing : (o : Option LinkKey) (a : Arrival) (m : Rtr) (k : ℕ × ℕ) (found : Option LinkRec) → Says (authenticated_text a) (message.Rtr m) → m.kd ≡ Some k → link_with (takes m.originator centre_label) x.party ≡ found → HonestAs v.facts a (brought_lead x.party a m k found) → is_accept (brought x.party a m k found).verdict ≡ true → IsSound o x.party (authenticated_text a) (brought x.party a m k found) → Agreeing v x space (authenticated_text a) (brought x.party a m k found)
  brought_agreeing o a m k None said kd_is e honest h sound = refused_agreeing v p x space at i (authenticated_text a) (verdict_of (brought_front x.party m None))
  brought_agreeing o a m k (Some l) said kd_is e honest h sound = passed_agreeing o (authenticated_text a) (brought x.party a m k (Some l)) m (brought_value l k) (vias.Distribution m.originator k.1) (brought_under x.party m k.1) refl (change_grows o (brought x.party a m k (Some l)).edits x.party sound.edits) (backed v.members x.party (brought x.party a m k (Some l)).edits (inr (inr (l, at_key, refl, refl)), (tt, (tt, (tt, tt))))) refl refl refl refl mine_is.0 mine_is.1 said fact (λ u. unused (subst (IsUsed x.party m fact.fact.under) kd_is u)) (subst (IsUsed (apply (brought x.party a m k (Some l)).edits x.party) m fact.fact.under) (sym kd_is) (up, at_up, omega arith)) value_is
    where
      up : LinkRec
      up = record l { next = k.1 + 1 }

      la : LinkAt x.party (takes m.originator centre_label) l
      la = link_at x.party (takes m.originator centre_label) l e

      at_key : link_with (link_key l) x.party ≡ Some l
      at_key = rw la.key e

      t : TestsHold (brought_tests x.party a m k l)
      t = held (brought_tests x.party a m k l) refl h

      mine_is : (m.receiver ≡ x.party.own) × (m.originator ≢ x.party.own)
      mine_is = other_of x.party m.receiver m.originator t.0

      front : tests_pass (brought_front x.party m (Some l)) ≡ true
      front = rw (t.0, t.1.0, t.1.1.0, t.1.1.1.0) refl

      fact : HasFact v.facts (brought_under x.party m k.1) (authenticated_text a)
      fact = honest (lead_under a (brought_under x.party m k.1) (brought_value l k)) (rw front refl) t.1.1.1.1.1.0

      at_up : find_row link_key same_link (takes m.originator centre_label) (put_row link_key same_link (record l { next = k.1 + 1 }) x.party.links) ≡ Some (record l { next = k.1 + 1 })
      at_up = put_at (takes m.originator centre_label) (record l { next = k.1 + 1 }) x.party.links la.key

      unused : IsUsed x.party m fact.fact.under (Some k) → ⊥
      unused u =
          let low : l.next ≤ k.1 = brought_low x.party a m k l h in
          let n : u.0.next ≡ l.next = ap (λ (y : LinkRec). y.next) (one_found u.0 l u.1 e) in
          omega (arith, low, u.2, n)

      value_is : (b : RtrFact v.members fact.fact m) → brought_value l k ≡ kdu_value b.link m
      value_is b =
          let form : RtrForm v.members b.party.party fact.fact.under m (kdu_value b.link m) (Some k) = subst (RtrForm v.members b.party.party fact.fact.under m (kdu_value b.link m)) kd_is b.form in
          let ends : HasOtherEnd v.members m.receiver (takes m.originator centre_label) form.0 = i.ends m.originator b.party m.receiver centre_label form.0 b.at form.1 form.2 in
          let y_is : ends.member ≡ x = here v p x space at i m.receiver ends.member mine_is.0 ends.at in
          let link : ends.link ≡ l = one_found ends.link l (subst (λ (z : Member). link_with (takes m.originator centre_label) z.party ≡ Some ends.link) y_is ends.found) e in
          ap (λ (q : Pair). unwrap_of q k.1 k.0) (ap (λ (y : LinkRec). y.pair) (sym link) ∙ ends.pair) ∙ form.3

  -- without it
  translated_agreeing : (o : Option LinkKey) (a : Arrival) (m : Rtr) (found : Option KeyAtCentre) → Says (authenticated_text a) (message.Rtr m) → m.kd ≡ None → waiting_with x.party m.originator ≡ found → HonestAs v.facts a (translated_lead x.party a m found) → is_accept (translated x.party a m found).verdict ≡ true → IsSound o x.party (authenticated_text a) (translated x.party a m found) → Agreeing v x space (authenticated_text a) (translated x.party a m found)
  translated_agreeing o a m None said kd_is e honest h sound = refused_agreeing v p x space at i (authenticated_text a) (verdict_of (translated_front x.party m None))
  translated_agreeing o a m (Some n) said kd_is e honest h sound = passed_agreeing o (authenticated_text a) (translated x.party a m (Some n)) m n.value (vias.Translation m.originator) (translated_under x.party m n) refl (change_grows o (translated x.party a m (Some n)).edits x.party sound.edits) (backed v.members x.party (translated x.party a m (Some n)).edits (tt, (tt, (tt, tt)))) refl refl refl refl mine_is.0 mine_is.1 said fact (λ u. unused (subst (IsUsed x.party m fact.fact.under) kd_is u)) (subst (IsUsed (apply (translated x.party a m (Some n)).edits x.party) m fact.fact.under) (sym kd_is) used) value_is
    where
      t : TestsHold (translated_tests x.party a m n)
      t = held (translated_tests x.party a m n) refl h

      mine_is : (m.receiver ≡ x.party.own) × (m.originator ≢ x.party.own)
      mine_is = other_of x.party m.receiver m.originator t.0

      front : tests_pass (translated_front x.party m (Some n)) ≡ true
      front = rw (t.0, t.1.0, t.1.1.0, t.1.1.1.0) refl

      fact : HasFact v.facts (translated_under x.party m n) (authenticated_text a)
      fact = honest (lead_under a (translated_under x.party m n) n.value) (rw front refl) t.1.1.1.1.0

      count : n.cta ≡ fact.fact.under.name.count
      count = ap (λ (z : FullName). z.name.count) (sym fact.under_is)

      b : RtrFact v.members fact.fact m
      b = fact_says v p x space at i (translated_under x.party m n) (authenticated_text a) fact (message.Rtr m) said

      waits_of : (b : RtrFact v.members fact.fact m) → WaitsAt v.members m.receiver m.originator fact.fact.under.name.count (kdu_value b.link m)
      waits_of b = subst (RtrForm v.members b.party.party fact.fact.under m (kdu_value b.link m)) kd_is b.form

      value_is : (b : RtrFact v.members fact.fact m) → n.value ≡ kdu_value b.link m
      value_is b =
          let w = waits_of b in
          let y_is : w.party ≡ x = here v p x space at i m.receiver w.party mine_is.0 w.at in
          w.value_is n (subst (λ (z : Member). waiting_with z.party m.originator ≡ Some n) (sym y_is) e) count

      unused : IsUsed x.party m fact.fact.under None → ⊥
      unused u = u.4 n e count

      used : IsUsed (apply (translated x.party a m (Some n)).edits x.party) m fact.fact.under None
      used =
          let w = waits_of b in
          let y_is : w.party ≡ x = here v p x space at i m.receiver w.party mine_is.0 w.at in
          let found : link_with (sends m.originator centre_label) x.party ≡ Some w.link = subst (λ (z : Member). link_with (sends m.originator centre_label) z.party ≡ Some w.link) y_is w.found in
          (w.link, found, w.ready, w.below, λ q j. absurd (none q j))
        where
          none : (q : KeyAtCentre) → waiting_with (apply (translated x.party a m (Some n)).edits x.party) m.originator ≡ Some q → ⊥
          none q j = (let s = waiting_some (exchange_with m.originator (apply (translated x.party a m (Some n)).edits x.party)) q j in go s.0 s.1 s.2)
            where
              go : (g : Exchange) → exchange_with m.originator (apply (translated x.party a m (Some n)).edits x.party) ≡ Some g → waiting_by g.kind ≡ Some q → ⊥
              go g stands k = elim (ex_put (drop_row exchange_key bytes_eq m.originator x.party.exchanges) (passed_exchange x.party m n.value (vias.Translation m.originator)) m.originator g stands) [
                | inl d ↦ (let f : waiting_by (passed_exchange x.party m n.value (vias.Translation m.originator)).kind ≡ Some q = ap (λ (z : Exchange). waiting_by z.kind) d.1 ∙ k in cc)
                | inr d ↦ (ex_drop x.party.exchanges m.originator m.originator g d.0).1 refl
              ]

  pub rtr_agreeing : (o : Option LinkKey) (a : Arrival) (m : Rtr) (kd : Option (ℕ × ℕ)) → m.kd ≡ kd → Says (authenticated_text a) (message.Rtr m) → HonestAs v.facts a (rtr_lead_with x.party a m kd) → is_accept (rtr_with x.party a m kd).verdict ≡ true → IsSound o x.party (authenticated_text a) (rtr_with x.party a m kd) → Agreeing v x space (authenticated_text a) (rtr_with x.party a m kd)
  rtr_agreeing o a m (Some k) e said honest h sound = brought_agreeing o a m k (link_with (takes m.originator centre_label) x.party) said e refl honest h sound
  rtr_agreeing o a m None e said honest h sound = translated_agreeing o a m (waiting_with x.party m.originator) said e refl honest h sound
