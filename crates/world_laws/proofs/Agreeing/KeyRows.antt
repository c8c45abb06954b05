-- Agreement: a key is taken, and what answers it.
use Rattle.std.proofs.Common.{Contains}
use Rattle.world_laws.proofs.Agreeing.Lists.{to_own}
use Rattle.std.proofs.Common.{◌≡◌, ◌≢◌, inl, inr, ℕ, Bool, true, false, cond, IfSome, Option, Some, None, List, ◌∷◌, refl, sym, ◌∙◌, ap, subst, bytes_eq}
use Rattle.x_base.specs.declared.key_name.FullName.{FullName}
use Rattle.csm_grammar.specs.declared.message.Message.TheVariants as message
use Rattle.csm_grammar.specs.declared.message.KsmBody.{KsmBody}
use Rattle.csm_grammar.specs.declared.message.NewKk.{NewKk}
use Rattle.csm_grammar.specs.declared.message.Ksm.{Ksm}
use Rattle.csm_grammar.specs.Spelling.{Says}
use Rattle.party_tables.specs.declared.link.LinkKey.{LinkKey}
use Rattle.party_tables.specs.declared.link.LinkRec.{LinkRec}
use Rattle.party_tables.specs.declared.key.RecordKey.{RecordKey}
use Rattle.party_tables.specs.declared.key.KeyRec.{KeyRec}
use Rattle.party_tables.specs.declared.exchange.Exchange.{Exchange}
use Rattle.party_tables.specs.Tables.{find_row, put_row}
use Rattle.party_tables.specs.Keys.{same_record, record_key, exchange_key, takes}
use Rattle.party_state.specs.State.{Party, centre_label, link_with, record_with, exchange_with, apply}
use Rattle.party_state.specs.Rows.{OfKsm}
use Rattle.party_tables.proofs.Keys.{test_records}
use Rattle.bank_keys.specs.Ksm.{body_count, body_value, body_new, opened_kk}
use Rattle.member.specs.Member.{Member}
use Rattle.world_laws.specs.World.{member_at}
use Rattle.world_laws.specs.Steps.{facts_of}
use Rattle.world_laws.specs.Carried.{label_given}
use Rattle.world_laws.specs.Facts.{HasTaken}
use Rattle.world_laws.specs.Honest.{HasFact}
use Rattle.world_laws.specs.Laws.{HasAccepted}
use Rattle.world_laws.proofs.Links.Growth.{PartyGrows}
use Rattle.party_tables.proofs.Tables.{find_put_same}
use Rattle.world_laws.proofs.Agreeing.Waiting.{AllSent}
use Rattle.world_laws.proofs.Links.Growth.{PartyGrows}
use Rattle.world_laws.proofs.Agreeing.Lists.{Lists, after, acceptances_after, lists_after, waits_stay}
use Rattle.world_laws.proofs.Agreeing.Waiting.{news_stay, AllSent}
use Rattle.world_laws.proofs.Agreeing.Moves.{Agreeing}
use Rattle.world_laws.proofs.Agreeing.Agreed.{Agreed}
use Rattle.csm_grammar.specs.declared.message.KsmBody.TheVariants as body
use Rattle.party_tables.specs.Keys.{link_key}
use Rattle.party_state.specs.Verdicts.{TestsHold, is_accept}
use Rattle.world_laws.proofs.Links.Growth.{change_grows}
use Rattle.world_laws.proofs.Links.Found.{HasLinks}
use Rattle.world_laws.proofs.Counting.Sound.{IsSound}
use Rattle.world_laws.proofs.Agreeing.Known.{theirs}
use Rattle.world_laws.proofs.Agreeing.KeyRecords.{KeysMove, KeyFine, put_beside, taken, one, two}
use Rattle.world_laws.proofs.Agreeing.Waiting.{news_stay}
use Rattle.world_laws.proofs.Agreeing.Lists.{waits_stay}
use Rattle.world_laws.proofs.Agreeing.Exchanges.{put_other, sent_keep}
use Rattle.world_laws.proofs.Agreeing.Backs.{backed}
use Rattle.world_laws.proofs.Agreeing.Steps.{other_of, after_is}
use Rattle.std.proofs.lemmas.List.Elements.{Contains-push}
use Rattle.party_state.specs.Verdicts.{tests_pass}
use Rattle.csm_grammar.specs.declared.arrival.Arrival.{Arrival}
use Rattle.csm_grammar.specs.Arrivals.{authenticated_text}
use Rattle.world_laws.proofs.Agreeing.AnswerRows.{HonestAs}
use Rattle.bank_keys.specs.Ksm.{link_in_use, body_link, body_twin, body_next, body_name, body_front, body_record, second_record, second_value, body_second, body_tests, body_edits, taken_link, key_names, key_row, key_found, key_lead_with}
use Rattle.world_laws.proofs.Sound.Keys.{taking_edits, with_second, key_held, key_at_key, key_up, taken_new, taken_keys}
use Rattle.world_laws.proofs.Agreeing.Facts.{Carries, as_first, as_second, carries_among, head_names, Keeps, TakenKsm}
use Rattle.party_tables.specs.declared.key.KeyStatus.TheVariants.{Held}
use Rattle.party_tables.specs.Names.{name_behind, full_behind}
use Rattle.std.specs.Prelude.{option_map}
use Rattle.world_laws.specs.Laws.{IsHeld}
use Rattle.role_base.proofs.TwinKeys.{behind_other}
use Rattle.world_laws.proofs.Links.Taken.{twin_link}
use Rattle.world_laws.proofs.Agreeing.Exchanges.{put_other_two}
use Rattle.world_laws.proofs.Agreeing.Known.{fact_more}
use Rattle.world_laws.proofs.Links.Found.{in_use_at, link_at}
use Rattle.world_laws.proofs.Agreeing.Backs.{AllUnreadied}
use Rattle.change_code.specs.declared.space.Space.{Space}

taken_unreadied : (s : Party) (originator : List ℕ) (l : LinkRec) (count up : ℕ) (n : Option (List ℕ × NewKk)) (k : KeyRec) (o : Option KeyRec) → link_with (link_key l) s ≡ Some l → AllUnreadied s (taking_edits originator l count up n k o)
taken_unreadied s originator l count up None k None at = (inr (inr (l, at, refl, refl)), (tt, tt))
taken_unreadied s originator l count up None k (Some j) at = (inr (inr (l, at, refl, refl)), (tt, (tt, tt)))
taken_unreadied s originator l count up (Some n) k None at = (inr (inr (l, at, refl, refl)), (inl refl, (tt, tt)))
taken_unreadied s originator l count up (Some n) k (Some j) at = (inr (inr (l, at, refl, refl)), (inl refl, (tt, (tt, tt))))

-- the name of a key that comes tells its originator
name_org : (s : Party) (originator : List ℕ) (b : KsmBody) (l : LinkRec) → HasLinks s → body_link s originator b ≡ Some l → (body_name s originator b l).name.originator ≡ originator
name_org s originator (body.Direct idk2 new kd ctp) l d h = ap (λ (k : LinkKey). k.peer) (in_use_at s originator idk2 l d h).key
name_org s originator (body.Centre centre kdu ctb) l d h = refl
name_org s originator (body.Twin idk2 first second ctp) l d h = ap (λ (k : LinkKey). k.peer) (in_use_at s originator idk2 l d (twin_link s originator idk2 ctp l h).1).key

-- and the label that the text gives
given_label : (s : Party) (originator : List ℕ) (idk2 : Option (List ℕ)) (l : LinkRec) → link_in_use s originator idk2 ≡ Some l → IfSome idk2 (λ given. l.label ≡ given)
given_label s originator None l h = tt
given_label s originator (Some given) l h = go (bytes_eq given centre_label) h
  where
    go : (b : Bool) → cond b None (link_with (takes originator given) s) ≡ Some l → l.label ≡ given
    go true h = absurd (cc)
    go false h = ap (λ (k : LinkKey). k.label) (link_at s (takes originator given) l h).key

name_label : (s : Party) (originator : List ℕ) (b : KsmBody) (l : LinkRec) → body_link s originator b ≡ Some l → IfSome (label_given b) (λ given. (body_name s originator b l).name.label ≡ given)
name_label s originator (body.Direct idk2 new kd ctp) l h = given_label s originator idk2 l h
name_label s originator (body.Centre centre kdu ctb) l h = refl
name_label s originator (body.Twin idk2 first second ctp) l h = given_label s originator idk2 l (twin_link s originator idk2 ctp l h).1

name_to : (s : Party) (originator : List ℕ) (b : KsmBody) (l : LinkRec) → (body_name s originator b l).recipient ≡ s.own
name_to s originator (body.Direct idk2 new kd ctp) l = refl
name_to s originator (body.Centre centre kdu ctb) l = refl
name_to s originator (body.Twin idk2 first second ctp) l = refl

module _ (v : Lists) (p : List ℕ) (x : Member) (space : Space) (at : member_at p v.members ≡ Some x) (i : Agreed v) (links : HasLinks x.party) where
  sent : AllSent x.party
  sent = i.sent p x at

  module _ (a : Arrival) (m : Ksm) (b : KsmBody) (l : LinkRec) (said : Says (authenticated_text a) (message.Ksm m)) (is : m.body ≡ b) (found : body_link x.party m.originator b ≡ Some l) (honest : HonestAs v.facts a (key_lead_with x.party a m b (Some l))) (h : is_accept (key_row x.party a m b (Some l)).verdict ≡ true) (o : Option LinkKey) (sound : IsSound o x.party (authenticated_text a) (key_row x.party a m b (Some l)))
      (not_before : (u : FullName) → Contains (key_names (body_name x.party m.originator b l) (body_twin b)) u → HasAccepted v.acceptances OfKsm x.party.own u → ⊥) where
    t : TestsHold (body_tests x.party a m b l)
    t = key_held x.party a m b l links is found h

    other : m.originator ≢ x.party.own
    other = (other_of x.party m.receiver m.originator t.0).1

    org : (body_name x.party m.originator b l).name.originator ≡ m.originator
    org = name_org x.party m.originator b l links found

    to : (body_name x.party m.originator b l).recipient ≡ x.party.own
    to = name_to x.party m.originator b l

    other_name : (body_name x.party m.originator b l).name.originator ≢ x.party.own
    other_name e = other (sym org ∙ e)

    first : KeyRec
    first = body_record x.party m b l

    second : ℕ → KeyRec
    second kd = second_record x.party m b l kd

    first_name : body_name x.party m.originator b l ≡ to_own (record_key (body_record x.party m b l)) x.party.own
    first_name j = record { name = (body_name x.party m.originator b l).name; recipient = to j }

    second_name : (kd : ℕ) → full_behind (body_name x.party m.originator b l) ≡ to_own (record_key (second_record x.party m b l kd)) x.party.own
    second_name kd j = record { name = name_behind (body_name x.party m.originator b l).name; recipient = to j }

    front : tests_pass (body_front x.party m b (Some l)) ≡ true
    front = rw (t.0, t.1.0) refl

    fact : HasFact v.facts (body_name x.party m.originator b l) (authenticated_text a)
    fact = honest (key_found x.party a m b l) (rw front refl) t.1.1.1.0

    grown : PartyGrows o x.party (apply (body_edits x.party m b l) x.party)
    grown = change_grows o (body_edits x.party m b l) x.party sound.edits

    parts : ((apply (body_edits x.party m b l) x.party).keys ≡ with_second (body_second x.party m b l) (put_row record_key same_record (body_record x.party m b l) x.party.keys)) × ((apply (body_edits x.party m b l) x.party).exchanges ≡ x.party.exchanges) × ((apply (body_edits x.party m b l) x.party).own ≡ x.party.own)
    parts = taken_keys x.party m.originator l (body_count b) (body_next b) (body_new b) (body_record x.party m b l) (body_second x.party m b l)

    -- the keys of the party afterwards, where there is one, or two
    keys_one : body_twin b ≡ None → (apply (body_edits x.party m b l) x.party).keys ≡ put_row record_key same_record (body_record x.party m b l) x.party.keys
    keys_one e = parts.0 ∙ ap (λ (o : Option ℕ). with_second (option_map (λ kd. second_record x.party m b l kd) o) (put_row record_key same_record (body_record x.party m b l) x.party.keys)) e

    keys_two : (kd : ℕ) → body_twin b ≡ Some kd → (apply (body_edits x.party m b l) x.party).keys ≡ put_row record_key same_record (second_record x.party m b l kd) (put_row record_key same_record (body_record x.party m b l) x.party.keys)
    keys_two kd e = parts.0 ∙ ap (λ (o : Option ℕ). with_second (option_map (λ n. second_record x.party m b l n) o) (put_row record_key same_record (body_record x.party m b l) x.party.keys)) e

    differ : (kd : ℕ) → record_key (second_record x.party m b l kd) ≢ record_key (body_record x.party m b l)
    differ kd = behind_other (record_key (body_record x.party m b l)) (record_key (second_record x.party m b l kd)) refl

    accepted : (u : FullName) → Contains (key_names (body_name x.party m.originator b l) (body_twin b)) u → HasAccepted (acceptances_after v.acceptances x (authenticated_text a) (key_row x.party a m b (Some l))) OfKsm x.party.own u
    accepted u among = record { acceptance = record { party = x.party.own; text = authenticated_text a; class = OfKsm; names = key_names (body_name x.party m.originator b l) (body_twin b) }; stands = Contains-push v.acceptances _; class_is = refl; party_is = refl; among = among }

    head : (more : List FullName) × (key_names (body_name x.party m.originator b l) (body_twin b) ≡ body_name x.party m.originator b l ∷ more)
    head = head_names (body_name x.party m.originator b l) (body_twin b)

    taken_now : HasTaken (acceptances_after v.acceptances x (authenticated_text a) (key_row x.party a m b (Some l))) x.party.own (body_name x.party m.originator b l)
    taken_now = record { acceptance = record { party = x.party.own; text = authenticated_text a; class = OfKsm; names = key_names (body_name x.party m.originator b l) (body_twin b) }; stands = Contains-push v.acceptances _; class_is = refl; party_is = refl; more = head.0; names_are = head.1 }

    in_first : Contains (key_names (body_name x.party m.originator b l) (body_twin b)) (body_name x.party m.originator b l)
    in_first = carries_among l.pair m.originator x.party.own b (body_name x.party m.originator b l) (body_name x.party m.originator b l) (body_value l.pair m.originator x.party.own b) (as_first refl refl)

    in_second : (kd : ℕ) → body_twin b ≡ Some kd → Contains (key_names (body_name x.party m.originator b l) (body_twin b)) (full_behind (body_name x.party m.originator b l))
    in_second kd e = carries_among l.pair m.originator x.party.own b (body_name x.party m.originator b l) (full_behind (body_name x.party m.originator b l)) (second_value l.pair b kd) (as_second kd e refl refl)

    new_now : (kk : List ℕ × NewKk) → body_new b ≡ Some kk → link_with (takes m.originator kk.0) (apply (body_edits x.party m b l) x.party) ≡ Some (taken_link m.originator l (body_count b) kk)
    new_now kk e = taken_new x.party m.originator l (body_count b) (body_next b) (body_new b) (body_record x.party m b l) (body_second x.party m b l) kk e

    first_now : record_with (record_key (body_record x.party m b l)) (apply (body_edits x.party m b l) x.party) ≡ Some (body_record x.party m b l)
    first_now = go (body_twin b) refl
      where
        put : find_row record_key same_record (record_key (body_record x.party m b l)) (put_row record_key same_record (body_record x.party m b l) x.party.keys) ≡ Some (body_record x.party m b l)
        put = find_put_same record_key same_record test_records (body_record x.party m b l) x.party.keys

        go : (o : Option ℕ) → body_twin b ≡ o → record_with (record_key (body_record x.party m b l)) (apply (body_edits x.party m b l) x.party) ≡ Some (body_record x.party m b l)
        go None e = subst (λ (ks : List KeyRec). find_row record_key same_record (record_key (body_record x.party m b l)) ks ≡ Some (body_record x.party m b l)) (sym (keys_one e)) put
        go (Some kd) e = subst (λ (ks : List KeyRec). find_row record_key same_record (record_key (body_record x.party m b l)) ks ≡ Some (body_record x.party m b l)) (sym (keys_two kd e)) (put_beside (put_row record_key same_record (body_record x.party m b l) x.party.keys) (record_key (body_record x.party m b l)) (second_record x.party m b l kd) (λ i. differ kd (sym i)) ∙ put)

    second_now : (kd : ℕ) → body_twin b ≡ Some kd → record_with (record_key (second_record x.party m b l kd)) (apply (body_edits x.party m b l) x.party) ≡ Some (second_record x.party m b l kd)
    second_now kd e = subst (λ (ks : List KeyRec). find_row record_key same_record (record_key (second_record x.party m b l kd)) ks ≡ Some (second_record x.party m b l kd)) (sym (keys_two kd e)) (find_put_same record_key same_record test_records (second_record x.party m b l kd) (put_row record_key same_record (body_record x.party m b l) x.party.keys))

    -- a record of before, under another key than those that were put
    old_record : (k : RecordKey) (r : KeyRec) → k.name.originator ≡ x.party.own → record_with k (apply (body_edits x.party m b l) x.party) ≡ Some r → record_with k x.party ≡ Some r
    old_record k r own f = go (body_twin b) refl
      where
        not_first : k ≢ record_key (body_record x.party m b l)
        not_first q = other_name (sym (ap (λ (z : RecordKey). z.name.originator) q) ∙ own)

        go : (o : Option ℕ) → body_twin b ≡ o → record_with k x.party ≡ Some r
        go None e = put_other x.party (apply (body_edits x.party m b l) x.party) k (body_record x.party m b l) r (keys_one e) not_first f
        go (Some kd) e = put_other_two x.party (apply (body_edits x.party m b l) x.party) k (body_record x.party m b l) (second_record x.party m b l kd) r (keys_two kd e) not_first (λ q. other_name (sym (ap (λ (z : RecordKey). z.name.originator) q) ∙ own)) f

    keeps : (u : FullName) (value : ℕ) → Carries l.pair m.originator x.party.own b (body_name x.party m.originator b l) u value → Keeps (apply (body_edits x.party m b l) x.party) u value
    keeps u value (as_first e i) =
        let key : record_key (body_record x.party m b l) ≡ record { peer = u.name.originator; name = u.name } = (let n = ap (λ (z : FullName). z.name) (sym e) in let g = sym org ∙ ap (λ (z : FullName). z.name.originator) (sym e) in λ j. record { peer = g j; name = n j }) in
        (body_record x.party m b l, subst (λ (k : RecordKey). record_with k (apply (body_edits x.party m b l) x.party) ≡ Some (body_record x.party m b l)) key first_now, tt, sym i)
    keeps u value (as_second kd k e i) =
        let key : record_key (second_record x.party m b l kd) ≡ record { peer = u.name.originator; name = u.name } = (let n = ap (λ (z : FullName). z.name) (sym e) in let g = sym org ∙ ap (λ (z : FullName). z.name.originator) (sym e) in λ j. record { peer = g j; name = n j }) in
        (second_record x.party m b l kd, subst (λ (q : RecordKey). record_with q (apply (body_edits x.party m b l) x.party) ≡ Some (second_record x.party m b l kd)) key (second_now kd k), tt, sym i)

    holds : TakenKsm (lists_after v x space (authenticated_text a) (key_row x.party a m b (Some l))) (record { party = x.party.own; text = authenticated_text a; class = OfKsm; names = key_names (body_name x.party m.originator b l) (body_twin b) })
    holds = record {
      party = after x space (key_row x.party a m b (Some l));
      at = after_is v p x space at i o (key_row x.party a m b (Some l)) grown;
      ksm = m;
      said = said;
      under = body_name x.party m.originator b l;
      names = ap (λ (z : KsmBody). key_names (body_name x.party m.originator b l) (body_twin z)) (sym is);
      other = other_name;
      recipient = to;
      fact = fact_more v.facts (facts_of x.party.own (key_row x.party a m b (Some l)).reply) (body_name x.party m.originator b l) (authenticated_text a) fact;
      link = record l { next = body_next b };
      found = key_up x.party a m b l links is found h;
      label = subst (λ (z : KsmBody). IfSome (label_given z) (λ given. (body_name x.party m.originator b l).name.label ≡ given)) (sym is) (name_label x.party m.originator b l found);
      new = λ kk e. (taken_link m.originator l (body_count b) kk, subst (λ (z : List ℕ). link_with (takes z kk.0) (apply (body_edits x.party m b l) x.party) ≡ Some (taken_link m.originator l (body_count b) kk)) (sym org) (new_now kk (sym (ap body_new is) ∙ e)), ap (λ (n : ℕ). opened_kk l.pair n kk.1) (sym (ap body_count is)));
      keeps = λ u value c. inl (keeps u value (subst (λ (z : KsmBody). Carries l.pair m.originator x.party.own z (body_name x.party m.originator b l) u value) is c));
    }

    fine_of : (k : KeyRec) (u : FullName) → u ≡ to_own (record_key k) x.party.own → k.name.originator ≢ x.party.own → k.peer ≡ k.name.originator → k.status ≡ Held → Contains (key_names (body_name x.party m.originator b l) (body_twin b)) u → KeyFine v (lists_after v x space (authenticated_text a) (key_row x.party a m b (Some l))) x.party (apply (body_edits x.party m b l) x.party) k
    fine_of k u name other peer status among = record {
      put = taken other (λ e. not_before u among (subst (λ (z : FullName). HasAccepted v.acceptances OfKsm x.party.own z) (sym name) e));
      live = λ no own. absurd (other own);
      known = theirs (λ e. other (e ∙ parts.2)) peer (subst (λ (z : List ℕ). HasAccepted (acceptances_after v.acceptances x (authenticated_text a) (key_row x.party a m b (Some l))) OfKsm z (to_own (record_key k) z)) (sym parts.2) (subst (λ (z : FullName). HasAccepted (acceptances_after v.acceptances x (authenticated_text a) (key_row x.party a m b (Some l))) OfKsm x.party.own z) name (accepted u among)));
      gone = λ g j held. inl (subst IsHeld (sym status) tt);
    }

    keys_move : (o : Option ℕ) → body_twin b ≡ o → KeysMove v (lists_after v x space (authenticated_text a) (key_row x.party a m b (Some l))) x.party (apply (body_edits x.party m b l) x.party)
    keys_move None e = one (body_record x.party m b l) (keys_one e) (fine_of (body_record x.party m b l) (body_name x.party m.originator b l) first_name other_name (sym org) refl in_first)
    keys_move (Some kd) e = two (body_record x.party m b l) (second_record x.party m b l kd) (differ kd) (keys_two kd e) (fine_of (body_record x.party m b l) (body_name x.party m.originator b l) first_name other_name (sym org) refl in_first) (fine_of (second_record x.party m b l kd) (full_behind (body_name x.party m.originator b l)) (second_name kd) other_name (sym org) refl (in_second kd e))

    pub taken_agreeing : Agreeing v x space (authenticated_text a) (key_row x.party a m b (Some l))
    taken_agreeing = record {
      back = backed v.members x.party (body_edits x.party m b l) (taken_unreadied x.party m.originator l (body_count b) (body_next b) (body_new b) (body_record x.party m b l) (body_second x.party m b l) (key_at_key x.party a m b l links is found h));
      news = news_stay x.party (apply (body_edits x.party m b l) x.party) parts.1;
      keys = keys_move (body_twin b) refl;
      exchanges = sent_keep x.party (apply (body_edits x.party m b l) x.party) parts.2 (λ peer g name j n. (let old : exchange_with peer x.party ≡ Some g = subst (λ (es : List Exchange). find_row exchange_key bytes_eq peer es ≡ Some g) parts.1 j in inl (old, λ r f. old_record (record { peer = peer; name = name }) r (sent peer g name old n).own f))) sent;
      waits = waits_stay x.party (apply (body_edits x.party m b l) x.party) parts.1;
      replies = taken_now;
      new = tt;
      accepts = record { ksm = λ class. holds; dsm = λ class. absurd (cc); answer = λ class. absurd (cc) };
    }
