-- Agreement: what answers a key, or its end, arrives.
use Rattle.std.proofs.Common.{Contains}
use Rattle.world_laws.proofs.Agreeing.Moves.{Backed}
use Rattle.std.proofs.Common.{◌≡◌, ◌⊎◌, inl, inr, ℕ, Bool, true, false, cond, Option, Some, None, List, [], ◌∷◌, ◌++◌, refl, sym, ◌∙◌, ap, subst, bytes_eq}
use Rattle.x_base.specs.declared.key_name.KeyName.{KeyName}
use Rattle.x_base.specs.declared.key_name.FullName.{FullName}
use Rattle.party_tables.specs.declared.exchange.Kind.TheVariants as kind
use Rattle.x_mac.specs.declared.pair.Pair.{Pair}
use Rattle.csm_grammar.specs.declared.message.Message.TheVariants as message
use Rattle.csm_grammar.specs.declared.message.Rsm.{Rsm}
use Rattle.csm_grammar.specs.Spelling.{Says}
use Rattle.party_tables.specs.declared.link.LinkKey.{LinkKey}
use Rattle.party_tables.specs.declared.link.LinkRec.{LinkRec}
use Rattle.party_tables.specs.declared.key.RecordKey.{RecordKey}
use Rattle.party_tables.specs.declared.key.KeyRec.{KeyRec}
use Rattle.party_tables.specs.declared.key.KeyStatus.TheVariants.{Pending, Live, Ended}
use Rattle.party_tables.specs.Tables.{put_row}
use Rattle.party_tables.specs.Keys.{same_record, record_key, exchange_key, sends, takes}
use Rattle.party_tables.specs.Names.{full_name}
use Rattle.party_state.specs.State.{Party, link_with, record_with, exchange_with, apply}
use Rattle.party_state.specs.Rows.{OfKsm, OfDsm, OfAnswer}
use Rattle.party_tables.proofs.Keys.{test_idents}
use Rattle.party_tables.proofs.Tables.{find_put}
use Rattle.bank_keys.specs.Ksm.{body_count, opened_kk}
use Rattle.member.specs.Member.{Member}
use Rattle.world_laws.specs.World.{member_at}
use Rattle.world_laws.specs.Honest.{HasFact}
use Rattle.world_laws.specs.Starts.{HasOtherEnd}
use Rattle.world_laws.specs.Laws.{HasAccepted, partner_of}
use Rattle.world_laws.proofs.Links.Growth.{PartyGrows}
use Rattle.world_laws.proofs.Links.Waiting.{new_of}
use Rattle.party_tables.specs.Tables.{drop_row}
use Rattle.party_tables.specs.declared.exchange.Via.{Via}
use Rattle.role_base.specs.declared.exchanges.Sent.{Sent}
use Rattle.role_base.specs.Exchanges.{sent_to, ending_with}
use Rattle.world_laws.proofs.Agreeing.Lists.{WaitsMove}
use Rattle.world_laws.proofs.Agreeing.Waiting.{sent_name_by, AllSent}
use Rattle.std.proofs.lemmas.List.Elements.{All-contains}
use Rattle.world_laws.proofs.Links.Growth.{PartyGrows}
use Rattle.world_laws.proofs.Agreeing.Lists.{Lists, acceptances_after, lists_after, to_peer}
use Rattle.world_laws.proofs.Agreeing.Waiting.{AllSent}
use Rattle.world_laws.proofs.Agreeing.Known.{Known}
use Rattle.world_laws.proofs.Agreeing.Facts.{AcceptedOk}
use Rattle.world_laws.proofs.Agreeing.Moves.{Agreeing}
use Rattle.world_laws.proofs.Agreeing.Exchanges.{SentIs, sent_own}
use Rattle.world_laws.proofs.Agreeing.Agreed.{Agreed}
use Rattle.party_state.specs.declared.edit.Edit.TheVariants.{PutKey}
use Rattle.party_tables.specs.Keys.{link_key, same_link}
use Rattle.party_state.specs.Verdicts.{TestsHold as TestsHold, verdict_of, is_accept}
use Rattle.party_tables.proofs.Keys.{test_links}
use Rattle.party_state.proofs.Verdicts.{held}
use Rattle.world_laws.proofs.Links.Growth.{change_grows}
use Rattle.world_laws.proofs.Links.Found.{HasLinks, LinkAt, link_at}
use Rattle.world_laws.proofs.Counting.Sound.{IsSound}
use Rattle.world_laws.proofs.Agreeing.Known.{mine, theirs}
use Rattle.world_laws.proofs.Agreeing.KeyRecords.{one}
use Rattle.world_laws.proofs.Agreeing.Waiting.{NewFits}
use Rattle.world_laws.proofs.Agreeing.Lists.{WaitsMove}
use Rattle.world_laws.proofs.Agreeing.Facts.{ksm_key}
use Rattle.world_laws.proofs.Agreeing.Exchanges.{waits_drop, news_drop, sent_drop, SentIs, sent_is, sent_own, ending_is}
use Rattle.world_laws.proofs.Agreeing.Backs.{backed}
use Rattle.world_laws.proofs.Agreeing.Steps.{pending_not_held, pending_not_ended, plain, with_status, fact_says, own_at, class_later, status_fine, refused_agreeing}
use Rattle.std.proofs.lemmas.List.Elements.{Contains-push, All-contains}
use Rattle.party_tables.specs.Tables.{drop_row}
use Rattle.party_state.specs.declared.edit.Edit.TheVariants.{DropExchange}
use Rattle.party_tables.specs.declared.exchange.Via.{Via}
use Rattle.party_state.specs.Verdicts.{tests_pass}
use Rattle.csm_grammar.specs.declared.arrival.Arrival.{Arrival}
use Rattle.csm_grammar.specs.Arrivals.{authenticated_text}
use Rattle.role_base.specs.Texts.{is_verified, lead_under}
use Rattle.role_base.specs.Exchanges.{new_link, new_link_at, new_label, readied}
use Rattle.world_laws.proofs.Agreeing.AnswerRows.{HonestAs}
use Rattle.x_base.specs.declared.verdict.Verdict.TheVariants.{BadMac}
use Rattle.party_state.specs.Rows.{OfRsm}
use Rattle.bank_arrivals.specs.Rsm.{rsm_front, twins_front, rsm_to, rsm_twins, rsm_by, rsm_lead_by, rsm_lead_to, end_front, answer_to, answer_lead_to, rsm_with, rsm_lead_with}
use Rattle.world_laws.proofs.Links.Found.{link_at}
use Rattle.world_laws.proofs.Agreeing.Facts.{TakenKsm, RsmOk, AcceptedOk, taken_accepted, taken_first}
use Rattle.role_base.specs.declared.exchanges.Twins.{Twins}
use Rattle.role_base.specs.Exchanges.{twins_to, twins_value}
use Rattle.party_tables.specs.Names.{full_behind}
use Rattle.bank_keys.specs.Ksm.{body_twin, key_names}
use Rattle.world_laws.proofs.Agreeing.Exchanges.{TwinsIs, twins_is, twins_own, twins_apart, sent_drop_two}
use Rattle.world_laws.proofs.Agreeing.KeyRecords.{two}
use Rattle.world_laws.specs.Facts.{HasTaken}
use Rattle.world_laws.proofs.Lists.Among.{of_one, first_in}
use Rattle.world_laws.proofs.Agreeing.Matched.{first_key}
use Rattle.world_laws.proofs.Agreeing.Known.{full_mine}
use Rattle.party_tables.proofs.Tables.{find_put}
use Rattle.world_laws.proofs.Agreeing.Matched.{Matched, matched}
use Rattle.change_code.specs.declared.space.Space.{Space}

module _ (v : Lists) (p : List ℕ) (x : Member) (space : Space) (at : member_at p v.members ≡ Some x) (i : Agreed v) (links : HasLinks x.party) where
  sent : AllSent x.party
  sent = i.sent p x at

  -- a link that a party readies

  ready_parts : (s : Party) (peer : List ℕ) (l : Option LinkRec) (k : KeyRec) → ((apply (readied l ++ (PutKey k ∷ DropExchange peer ∷ [])) s).own ≡ s.own) × ((apply (readied l ++ (PutKey k ∷ DropExchange peer ∷ [])) s).keys ≡ put_row record_key same_record k s.keys) × ((apply (readied l ++ (PutKey k ∷ DropExchange peer ∷ [])) s).exchanges ≡ drop_row exchange_key bytes_eq peer s.exchanges)
  ready_parts s peer None k = (refl, refl, refl)
  ready_parts s peer (Some l) k = (refl, refl, refl)

  ready_back : (peer : List ℕ) (o : Option LinkRec) (k : KeyRec) → ((l : LinkRec) → o ≡ Some l → (l.peer ≡ peer) × HasOtherEnd v.members peer (takes x.party.own l.label) l) → Backed v.members x.party (apply (readied o ++ (PutKey k ∷ DropExchange peer ∷ [])) x.party)
  ready_back peer None k f q label m h r = backed v.members x.party (PutKey k ∷ DropExchange peer ∷ []) (tt, (tt, tt)) q label m h r
  ready_back peer (Some l) k f q label m h r = go (same_link (sends q label) (link_key l)) refl (sym (find_put link_key same_link test_links (sends q label) (record l { ready = true }) x.party.links) ∙ h)
    where
      end : (l.peer ≡ peer) × HasOtherEnd v.members peer (takes x.party.own l.label) l
      end = f l refl

      by : sends q label ≡ link_key l → record l { ready = true } ≡ m → HasOtherEnd v.members q (takes x.party.own label) m
      by key is =
          let e : HasOtherEnd v.members peer (takes x.party.own l.label) l = end.1 in
          let peer_is : peer ≡ q = sym (ap (λ (k : LinkKey). k.peer) key ∙ end.0) in
          let label_is : l.label ≡ label = sym (ap (λ (k : LinkKey). k.label) key) in
          let pair : l.pair ≡ m.pair = ap (λ (z : LinkRec). z.pair) is in
          record { member = e.member; at = subst (λ (z : List ℕ). member_at z v.members ≡ Some e.member) peer_is e.at; link = e.link; found = subst (λ (z : List ℕ). link_with (takes x.party.own z) e.member.party ≡ Some e.link) label_is e.found; pair = e.pair ∙ pair }

      go : (b : Bool) → same_link (sends q label) (link_key l) ≡ b → cond b (Some (record l { ready = true })) (link_with (sends q label) x.party) ≡ Some m → ((n : LinkRec) × (link_with (sends q label) x.party ≡ Some n) × (n.ready ≡ true) × (m.pair ≡ n.pair)) ⊎ HasOtherEnd v.members q (takes x.party.own label) m
      go true e h = inr (by ((test_links.decides (sends q label) (link_key l)).0 e) (cc))
      go false e h = inl (m, h, r, refl)

  new_link_is : (peer : List ℕ) (via : Via) (l : LinkRec) → new_link x.party peer via ≡ Some l → (link_with (sends peer l.label) x.party ≡ Some l) × (new_label via ≡ Some l.label) × (l.peer ≡ peer)
  new_link_is peer via l h = by (new_label via) h
    where
      by : (o : Option (List ℕ)) → new_link_at x.party peer o ≡ Some l → (link_with (sends peer l.label) x.party ≡ Some l) × (o ≡ Some l.label) × (l.peer ≡ peer)
      by None h = absurd (cc)
      by (Some label) h =
          let la : LinkAt x.party (sends peer label) l = link_at x.party (sends peer label) l h in
          let label_is : label ≡ l.label = sym (ap (λ (k : LinkKey). k.label) la.key) in
          (subst (λ (z : List ℕ). link_with (sends peer z) x.party ≡ Some l) label_is h, ap (λ (z : List ℕ). let o : Option (List ℕ) = Some z in o) label_is, ap (λ (k : LinkKey). k.peer) la.key)

  -- the recipient took the text of a key that was sent
  taken_there : (o : Option LinkKey) (a : Arrival) (m : Rsm) (k : KeyRec) → Says (authenticated_text a) (message.Rsm m) → m.idd ≡ None → k.peer ≡ m.originator → k.name.originator ≡ x.party.own → HasFact v.facts (full_name x.party.own k) (authenticated_text a) → HasTaken v.acceptances k.peer (to_peer (record_key k))
  taken_there o a m k said idd peer_is own fact =
      let b : RsmOk v.acceptances fact.fact m m.idd = fact_says v p x space at i (full_name x.party.own k) (authenticated_text a) fact (message.Rsm m) said in
      let d : HasTaken v.acceptances m.originator fact.fact.under = subst (RsmOk v.acceptances fact.fact m) idd b in
      let under : fact.fact.under ≡ to_peer (record_key k) = fact.under_is ∙ full_mine x.party.own (record_key k) own in
      record { acceptance = d.acceptance; stands = d.stands; class_is = d.class_is; party_is = d.party_is ∙ sym peer_is; more = d.more; names_are = d.names_are ∙ ap (λ (u : FullName). u ∷ d.more) under }

  -- the keys that were sent at once are live

  twins_agreeing : (o : Option LinkKey) (a : Arrival) (m : Rsm) (y : Twins) → Says (authenticated_text a) (message.Rsm m) → m.idd ≡ None → twins_to x.party m.originator ≡ Some y → HonestAs v.facts a (rsm_lead_by x.party a m (Some y)) → is_accept (rsm_twins x.party a m y).verdict ≡ true → IsSound o x.party (authenticated_text a) (rsm_twins x.party a m y) → Agreeing v x space (authenticated_text a) (rsm_twins x.party a m y)
  twins_agreeing o a m y said idd e honest h sound = record {
    back = backed v.members x.party (rsm_twins x.party a m y).edits (tt, (tt, (tt, tt)));
    news = news_drop x.party (apply (rsm_twins x.party a m y).edits x.party) m.originator refl;
    keys = two (with_status y.first Live) (with_status y.second Live) (twins_apart x.party m.originator y is) refl
        (status_fine v p x space at i o (authenticated_text a) (rsm_twins x.party a m y) y.first Live grown moved is.first (pending_not_ended y.first.status Live own.1) (λ counts w. class_later v p x space at i (authenticated_text a) (rsm_twins x.party a m y) OfKsm y.first.peer (to_peer (record_key y.first)) accepted) (λ held. absurd (pending_not_held y.first.status own.1 held)))
        (status_fine v p x space at i o (authenticated_text a) (rsm_twins x.party a m y) y.second Live grown moved is.second (pending_not_ended y.second.status Live own.3) (λ counts w. class_later v p x space at i (authenticated_text a) (rsm_twins x.party a m y) OfKsm y.second.peer (to_peer (record_key y.second)) accepted_second) (λ held. absurd (pending_not_held y.second.status own.3 held)));
    exchanges = sent_drop_two x.party (apply (rsm_twins x.party a m y).edits x.party) m.originator (with_status y.first Live) (with_status y.second Live) refl refl refl is.peer_is is.other_peer sent;
    waits = moved;
    replies = tt;
    new = tt;
    accepts = plain (lists_after v x space (authenticated_text a) (rsm_twins x.party a m y)) x.party.own (authenticated_text a) OfRsm (full_name x.party.own y.first ∷ full_name x.party.own y.second ∷ []) (λ g. cc) (λ g. cc) (λ g. cc);
  }
    where
      grown : PartyGrows o x.party (apply (rsm_twins x.party a m y).edits x.party)
      grown = change_grows o (rsm_twins x.party a m y).edits x.party sound.edits

      moved : WaitsMove x.party (apply (rsm_twins x.party a m y).edits x.party)
      moved = waits_drop x.party (apply (rsm_twins x.party a m y).edits x.party) m.originator refl

      is : TwinsIs x.party m.originator y
      is = twins_is x.party m.originator y e

      own : (y.first.name.originator ≡ x.party.own) × (y.first.status ≡ Pending) × (y.second.name.originator ≡ x.party.own) × (y.second.status ≡ Pending)
      own = twins_own x.party m.originator y sent is

      t : TestsHold (twins_front x.party m ++ (is_verified a (twins_value y), BadMac) ∷ [])
      t = held (twins_front x.party m ++ (is_verified a (twins_value y), BadMac) ∷ []) refl h

      front : tests_pass (twins_front x.party m) ≡ true
      front = rw (t.0, t.1.0) refl

      fact : HasFact v.facts (full_name x.party.own y.first) (authenticated_text a)
      fact = honest (lead_under a (full_name x.party.own y.first) (twins_value y)) (rw front refl) t.1.1.0

      first : HasTaken v.acceptances y.first.peer (to_peer (record_key y.first))
      first = taken_there o a m y.first said idd is.peer_is own.0 fact

      accepted : HasAccepted v.acceptances OfKsm y.first.peer (to_peer (record_key y.first))
      accepted = taken_accepted v.acceptances y.first.peer (to_peer (record_key y.first)) first

      tk : TakenKsm v accepted.acceptance
      tk = (All-contains (AcceptedOk v) v.acceptances accepted.acceptance i.accepted accepted.stands).ksm accepted.class_is

      mt : Matched v x.party.own x (record_key y.first) accepted.acceptance tk
      mt = matched v i x.party.own x (record_key y.first) (own_at v p x space at i) own.0 accepted.acceptance accepted.party_is accepted.among tk

      under : tk.under ≡ to_peer (record_key y.first)
      under = taken_first v y.first.peer (to_peer (record_key y.first)) first tk

      key_is : ksm_key tk.ksm mt.fact.label ≡ record_key y.first
      key_is = first_key v accepted.acceptance tk mt.fact (record_key y.first) under

      -- so the text that it took has two keys, since the exchange still waits for both
      carried : (kd : ℕ) × (body_twin tk.ksm.body ≡ Some kd)
      carried =
          let receiver : tk.ksm.receiver ≡ m.originator = ap (λ (z : RecordKey). z.peer) key_is ∙ is.peer_is in
          let stands : exchange_with tk.ksm.receiver mt.fact.party.party ≡ Some is.exchange = rw (receiver, mt.party_is) is.stands in
          mt.fact.twins is.exchange stands (is.kind_is ∙ ap (λ (z : RecordKey). kind.PairSent z.name) (sym key_is))

      behind : full_behind tk.under ≡ to_peer (record_key y.second)
      behind = ap full_behind under ∙ (let name = is.behind in let peer : y.first.peer ≡ y.second.peer = is.peer_is ∙ sym is.other_peer in λ j. record { name = (sym name) j; recipient = peer j })

      accepted_second : HasAccepted v.acceptances OfKsm y.second.peer (to_peer (record_key y.second))
      accepted_second =
          let names : accepted.acceptance.names ≡ tk.under ∷ full_behind tk.under ∷ [] = tk.names ∙ ap (key_names tk.under) carried.1 in
          record { acceptance = accepted.acceptance; stands = accepted.stands; class_is = accepted.class_is; party_is = accepted.party_is ∙ (is.peer_is ∙ sym is.other_peer); among = subst (λ (us : List FullName). Contains us (to_peer (record_key y.second))) (sym names) (subst (Contains (tk.under ∷ full_behind tk.under ∷ [])) behind (Contains-push (tk.under ∷ []) (full_behind tk.under))) }

  -- the key that was sent is live

  rsm_agreeing : (o : Option LinkKey) (a : Arrival) (m : Rsm) (found : Option Sent) → Says (authenticated_text a) (message.Rsm m) → m.idd ≡ None → sent_to x.party m.originator ≡ found → HonestAs v.facts a (rsm_lead_to x.party a m found) → is_accept (rsm_to x.party a m found).verdict ≡ true → IsSound o x.party (authenticated_text a) (rsm_to x.party a m found) → Agreeing v x space (authenticated_text a) (rsm_to x.party a m found)
  rsm_agreeing o a m None said idd e honest h sound = refused_agreeing v p x space at i (authenticated_text a) (verdict_of (rsm_front x.party m None))
  rsm_agreeing o a m (Some y) said idd e honest h sound = record {
    back = ready_back m.originator (new_link x.party m.originator y.via) (with_status y.key Live) end;
    news = news_drop x.party (apply (rsm_to x.party a m (Some y)).edits x.party) m.originator parts.2;
    keys = one (with_status y.key Live) parts.1 (status_fine v p x space at i o (authenticated_text a) (rsm_to x.party a m (Some y)) y.key Live grown moved is.at (pending_not_ended y.key.status Live own.1) (λ counts w. class_later v p x space at i (authenticated_text a) (rsm_to x.party a m (Some y)) OfKsm y.key.peer (to_peer (record_key y.key)) accepted) (λ held. absurd (pending_not_held y.key.status own.1 held)));
    exchanges = sent_drop x.party (apply (rsm_to x.party a m (Some y)).edits x.party) m.originator (with_status y.key Live) parts.0 parts.2 parts.1 is.peer_is sent;
    waits = moved;
    replies = tt;
    new = tt;
    accepts = plain (lists_after v x space (authenticated_text a) (rsm_to x.party a m (Some y))) x.party.own (authenticated_text a) OfRsm (full_name x.party.own y.key ∷ []) (λ g. cc) (λ g. cc) (λ g. cc);
  }
    where
      parts : ((apply (rsm_to x.party a m (Some y)).edits x.party).own ≡ x.party.own) × ((apply (rsm_to x.party a m (Some y)).edits x.party).keys ≡ put_row record_key same_record (with_status y.key Live) x.party.keys) × ((apply (rsm_to x.party a m (Some y)).edits x.party).exchanges ≡ drop_row exchange_key bytes_eq m.originator x.party.exchanges)
      parts = ready_parts x.party m.originator (new_link x.party m.originator y.via) (with_status y.key Live)

      grown : PartyGrows o x.party (apply (rsm_to x.party a m (Some y)).edits x.party)
      grown = change_grows o (rsm_to x.party a m (Some y)).edits x.party sound.edits

      moved : WaitsMove x.party (apply (rsm_to x.party a m (Some y)).edits x.party)
      moved = waits_drop x.party (apply (rsm_to x.party a m (Some y)).edits x.party) m.originator parts.2

      is : SentIs x.party m.originator y
      is = sent_is x.party m.originator y e

      own : (y.key.name.originator ≡ x.party.own) × (y.key.status ≡ Pending)
      own = sent_own x.party m.originator y sent is

      t : TestsHold (rsm_front x.party m (Some y) ++ (is_verified a y.key.value, BadMac) ∷ [])
      t = held (rsm_front x.party m (Some y) ++ (is_verified a y.key.value, BadMac) ∷ []) refl h

      front : tests_pass (rsm_front x.party m (Some y)) ≡ true
      front = rw (t.0, t.1.0) refl

      fact : HasFact v.facts (full_name x.party.own y.key) (authenticated_text a)
      fact = honest (lead_under a (full_name x.party.own y.key) y.key.value) (rw front refl) t.1.1.0

      first : HasTaken v.acceptances y.key.peer (to_peer (record_key y.key))
      first = taken_there o a m y.key said idd is.peer_is own.0 fact

      accepted : HasAccepted v.acceptances OfKsm y.key.peer (to_peer (record_key y.key))
      accepted = taken_accepted v.acceptances y.key.peer (to_peer (record_key y.key)) first

      tk : TakenKsm v accepted.acceptance
      tk = (All-contains (AcceptedOk v) v.acceptances accepted.acceptance i.accepted accepted.stands).ksm accepted.class_is

      mt : Matched v x.party.own x (record_key y.key) accepted.acceptance tk
      mt = matched v i x.party.own x (record_key y.key) (own_at v p x space at i) own.0 accepted.acceptance accepted.party_is accepted.among tk

      key_is : ksm_key tk.ksm mt.fact.label ≡ record_key y.key
      key_is = first_key v accepted.acceptance tk mt.fact (record_key y.key) (taken_first v y.key.peer (to_peer (record_key y.key)) first tk)

      -- the new link has its other end, since the recipient accepted the text that carries its pair
      end : (l : LinkRec) → new_link x.party m.originator y.via ≡ Some l → (l.peer ≡ m.originator) × HasOtherEnd v.members m.originator (takes x.party.own l.label) l
      end l found =
          let new = new_link_is m.originator y.via l found in
          let receiver : tk.ksm.receiver ≡ m.originator = ap (λ (z : RecordKey). z.peer) key_is ∙ is.peer_is in
          let stands : exchange_with tk.ksm.receiver mt.fact.party.party ≡ Some is.exchange = rw (receiver, mt.party_is) is.stands in
          let names : sent_name_by is.exchange.kind ≡ Some (ksm_key tk.ksm mt.fact.label).name = ap sent_name_by is.kind_is ∙ (λ j. Some ((sym (ap (λ (z : RecordKey). z.name) key_is)) j)) in
          let label : new_of is.exchange.kind ≡ Some l.label = ap new_of is.kind_is ∙ new.1 in
          let nf : NewFits mt.fact.party.party tk.ksm.receiver mt.fact.link.pair tk.ksm.body l.label = mt.fact.waits is.exchange l.label stands names label in
          let l_at : link_with (sends tk.ksm.receiver l.label) mt.fact.party.party ≡ Some l = rw (receiver, mt.party_is) new.0 in
          let l_pair : l.pair ≡ opened_kk mt.fact.link.pair (body_count tk.ksm.body) nf.kk.1 = nf.pair_is l l_at in
          let tn = tk.new nf.kk nf.carried in
          let pair : tn.0.pair ≡ l.pair = tn.2 ∙ (ap (λ (q : Pair). opened_kk q (body_count tk.ksm.body) nf.kk.1) mt.pair ∙ sym l_pair) in
          let key : takes tk.under.name.originator nf.kk.0 ≡ takes x.party.own l.label = (let a = mt.org in let b = nf.label in λ j. takes (a j) (b j)) in
          (new.2, record { member = tk.party; at = subst (λ (z : List ℕ). member_at z v.members ≡ Some tk.party) is.peer_is mt.at; link = tn.0; found = subst (λ (z : LinkKey). link_with z tk.party.party ≡ Some tn.0) key tn.1; pair = pair })

  -- the partner under a record's name
  partner_own : (k : KeyRec) → Known v x.party (record_key k) → partner_of x.party.own (full_name x.party.own k) ≡ k.peer
  partner_own k (mine o m) = (let t : bytes_eq k.name.originator x.party.own ≡ true = (test_idents.decides k.name.originator x.party.own).1 o in rw t refl)
  partner_own k (theirs o f a) = go (bytes_eq k.name.originator x.party.own) refl
    where
      go : (b : Bool) → bytes_eq k.name.originator x.party.own ≡ b → cond b (full_name x.party.own k).recipient k.name.originator ≡ k.peer
      go true g = absurd (o ((test_idents.decides k.name.originator x.party.own).0 g))
      go false g = sym f

  -- the end of a key is done

  answer_agreeing : (o : Option LinkKey) (a : Arrival) (m : Rsm) (n : KeyName) (found : Option KeyRec) → Says (authenticated_text a) (message.Rsm m) → m.idd ≡ Some n → ending_with x.party m.originator ≡ found → HonestAs v.facts a (answer_lead_to x.party a m n found) → is_accept (answer_to x.party a m n found).verdict ≡ true → IsSound o x.party (authenticated_text a) (answer_to x.party a m n found) → Agreeing v x space (authenticated_text a) (answer_to x.party a m n found)
  answer_agreeing o a m n None said idd e honest h sound = refused_agreeing v p x space at i (authenticated_text a) (verdict_of (end_front x.party m n None))
  answer_agreeing o a m n (Some k) said idd e honest h sound = record {
    back = backed v.members x.party (answer_to x.party a m n (Some k)).edits (tt, (tt, tt));
    news = news_drop x.party (apply (answer_to x.party a m n (Some k)).edits x.party) m.originator refl;
    keys = one (with_status k Ended) refl (status_fine v p x space at i o (authenticated_text a) (answer_to x.party a m n (Some k)) k Ended grown moved is.0 (λ g. refl) (λ no own. absurd no) (λ held. inr (inr new)));
    exchanges = sent_drop x.party (apply (answer_to x.party a m n (Some k)).edits x.party) m.originator (with_status k Ended) refl refl refl is.1 sent;
    waits = moved;
    replies = tt;
    new = tt;
    accepts = record { ksm = λ class. absurd (cc); dsm = λ class. absurd (cc); answer = λ class u among. subst (λ (z : FullName). HasAccepted (acceptances_after v.acceptances x (authenticated_text a) (answer_to x.party a m n (Some k))) OfDsm (partner_of x.party.own z) z) (of_one (full_name x.party.own k) u among) (class_later v p x space at i (authenticated_text a) (answer_to x.party a m n (Some k)) OfDsm (partner_of x.party.own (full_name x.party.own k)) (full_name x.party.own k) ended_there) };
  }
    where
      grown : PartyGrows o x.party (apply (answer_to x.party a m n (Some k)).edits x.party)
      grown = change_grows o (answer_to x.party a m n (Some k)).edits x.party sound.edits

      moved : WaitsMove x.party (apply (answer_to x.party a m n (Some k)).edits x.party)
      moved = waits_drop x.party (apply (answer_to x.party a m n (Some k)).edits x.party) m.originator refl

      is : (record_with (record_key k) x.party ≡ Some k) × (k.peer ≡ m.originator)
      is = ending_is x.party m.originator k e

      new : HasAccepted (acceptances_after v.acceptances x (authenticated_text a) (answer_to x.party a m n (Some k))) OfAnswer x.party.own (full_name x.party.own k)
      new = record { acceptance = record { party = x.party.own; text = authenticated_text a; class = OfAnswer; names = full_name x.party.own k ∷ [] }; stands = Contains-push v.acceptances _; class_is = refl; party_is = refl; among = first_in (full_name x.party.own k) [] }

      t : TestsHold (end_front x.party m n (Some k) ++ (is_verified a k.value, BadMac) ∷ [])
      t = held (end_front x.party m n (Some k) ++ (is_verified a k.value, BadMac) ∷ []) refl h

      front : tests_pass (end_front x.party m n (Some k)) ≡ true
      front = rw (t.0, t.1.0) refl

      fact : HasFact v.facts (full_name x.party.own k) (authenticated_text a)
      fact = honest (lead_under a (full_name x.party.own k) k.value) (rw front refl) t.1.1.0

      ended_there : HasAccepted v.acceptances OfDsm (partner_of x.party.own (full_name x.party.own k)) (full_name x.party.own k)
      ended_there =
          let b : RsmOk v.acceptances fact.fact m m.idd = fact_says v p x space at i (full_name x.party.own k) (authenticated_text a) fact (message.Rsm m) said in
          let d : HasAccepted v.acceptances OfDsm m.originator fact.fact.under = subst (RsmOk v.acceptances fact.fact m) idd b in
          let partner = partner_own k (i.known p x at (record_key k) k is.0) in
          record { acceptance = d.acceptance; stands = d.stands; class_is = d.class_is; party_is = d.party_is ∙ (sym is.1 ∙ sym partner); among = subst (Contains d.acceptance.names) fact.under_is d.among }

  pub rsm_row_agreeing : (o : Option LinkKey) (a : Arrival) (m : Rsm) (idd : Option KeyName) → m.idd ≡ idd → Says (authenticated_text a) (message.Rsm m) → HonestAs v.facts a (rsm_lead_with x.party a m idd) → is_accept (rsm_with x.party a m idd).verdict ≡ true → IsSound o x.party (authenticated_text a) (rsm_with x.party a m idd) → Agreeing v x space (authenticated_text a) (rsm_with x.party a m idd)
  rsm_row_agreeing o a m None e said honest h sound = by_twins (twins_to x.party m.originator) refl honest h sound
    where
      by_twins : (t : Option Twins) → twins_to x.party m.originator ≡ t → HonestAs v.facts a (rsm_lead_by x.party a m t) → is_accept (rsm_by x.party a m t).verdict ≡ true → IsSound o x.party (authenticated_text a) (rsm_by x.party a m t) → Agreeing v x space (authenticated_text a) (rsm_by x.party a m t)
      by_twins None f honest h sound = rsm_agreeing o a m (sent_to x.party m.originator) said e refl honest h sound
      by_twins (Some t) f honest h sound = twins_agreeing o a m t said e f honest h sound
  rsm_row_agreeing o a m (Some n) e said honest h sound = answer_agreeing o a m n (ending_with x.party m.originator) said e refl honest h sound
