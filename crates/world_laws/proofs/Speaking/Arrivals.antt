-- What the rows of a bank's arrivals write and put is well formed.
use Rattle.std.proofs.Common.{◌<◌, ltb-true, sym}
use Rattle.std.specs.Prelude.{option_map}
use Rattle.party_tables.specs.Names.{name_behind}
use Rattle.party_tables.specs.Ranges.{IsNextCount}
use Rattle.role_base.specs.declared.exchanges.Twins.{Twins}
use Rattle.role_base.specs.Exchanges.{twins_to, ended}
use Rattle.bank_keys.specs.Ksm.{body_twin, body_next, second_record, second_edits, body_second}
use Rattle.bank_arrivals.specs.Rsm.{rsm_by}
use Rattle.bank_arrivals.proofs.ArrivalsApart.{subject_twins}
use Rattle.world_laws.proofs.Links.Taken.{twin_link, name_count}
use Rattle.world_laws.proofs.Agreeing.Exchanges.{TwinsIs, twins_is}
use Rattle.x_base.specs.KeyName.{IsKeyName}
use Rattle.std.proofs.Common.{◌⊎◌, inl, inr}
use Rattle.world_laws.proofs.Links.Taken.{name_link}
use Rattle.std.proofs.Common.{is_none}
use Rattle.role_base.specs.Texts.{is_plain}
use Rattle.csm_grammar.specs.declared.message.KsmBody.TheVariants as body
use Rattle.csm_grammar.specs.declared.message.Message.TheVariants as message
use Rattle.party_tables.specs.declared.exchange.Kind.TheVariants as kind
use Rattle.party_tables.specs.declared.exchange.Via.TheVariants as vias
use Rattle.bank_keys.specs.Rtr.{centre_ksm, passed_record, brought_value, brought, translated, rtr_with}
use Rattle.bank_arrivals.specs.declared.asking_again.Retry.{Retry}
use Rattle.bank_arrivals.specs.AskingAgain.{retry_by, asked_again, again_reply, retry_in}
use Rattle.bank_arrivals.specs.Esm.{error_of, error_with}
use Rattle.bank_keys.specs.Ksm.{body_count, body_new, body_link, body_name, body_record, taken_edits, key_row}
use Rattle.bank_keys.specs.declared.waits.KeyAtCentre.{KeyAtCentre}
use Rattle.bank_keys.specs.Waiting.{waiting_with}
use Rattle.bank_arrivals.specs.Dsm.{paired, code_name, named_by, left_by, left_in, dsm_on}
use Rattle.bank_arrivals.specs.Esm.{subject_with, subject_link, raised}
use Rattle.role_base.specs.Exchanges.{record_of, sent_to, ending_with, new_link, new_link_at, new_label, readied, dropped}
use Rattle.bank_arrivals.specs.Rsm.{rsm_to, answer_to, rsm_with}
use Rattle.csm_grammar.specs.Arrivals.{authenticated_text}
use Rattle.bank_arrivals.specs.declared.disconnection.NamedKey.{NamedKey}
use Rattle.bank_arrivals.specs.declared.error_message.ErrorSubject.{ErrorSubject}
use Rattle.bank_arrivals.specs.declared.error_message.ErrorSubject.TheVariants.{SentKey, SentTwins, Translated}
use Rattle.role_base.specs.declared.exchanges.Sent.{Sent}
use Rattle.csm_grammar.specs.Spelling.{Says}
use Rattle.csm_grammar.specs.declared.arrival.Arrival.{Arrival}
use Rattle.csm_grammar.specs.declared.message.Dsm.{Dsm}
use Rattle.csm_grammar.specs.declared.message.Esm.{Esm}
use Rattle.csm_grammar.specs.declared.message.Ksm.{Ksm}
use Rattle.csm_grammar.specs.declared.message.KsmBody.{KsmBody}
use Rattle.csm_grammar.specs.declared.message.Message.{Message}
use Rattle.csm_grammar.specs.declared.message.NewKk.{NewKk}
use Rattle.csm_grammar.specs.declared.message.Rsm.{Rsm}
use Rattle.csm_grammar.specs.declared.message.Rtr.{Rtr}
use Rattle.party_tables.specs.Keys.{record_key, sends, takes, link_key, same_name}
use Rattle.party_tables.specs.Statuses.{is_ended}
use Rattle.party_state.specs.State.{Party, centre_label, link_with, exchange_with}
use Rattle.party_state.specs.Verdicts.{is_accept}
use Rattle.party_state.specs.declared.edit.Edit.{Edit}
use Rattle.party_state.specs.declared.edit.Edit.TheVariants.{PutKey, DropExchange}
use Rattle.party_tables.specs.declared.exchange.Exchange.{Exchange}
use Rattle.party_tables.specs.declared.exchange.Kind.{Kind}
use Rattle.party_tables.specs.declared.exchange.Via.{Via}
use Rattle.party_tables.specs.declared.key.KeyRec.{KeyRec}
use Rattle.party_tables.specs.declared.key.KeyStatus.TheVariants.{Live, Ended}
use Rattle.party_tables.specs.declared.link.LinkKey.{LinkKey}
use Rattle.party_tables.specs.declared.link.LinkRec.{LinkRec}
use Rattle.std.proofs.Common.{arith, ◌≡◌, ℕ, ◌+◌, Bool, true, false, cond, Option, Some, None, List, [], ◌∷◌, ◌++◌, refl, ap, subst}
use Rattle.world_laws.proofs.Sound.Exchanges.{subject_sent}
use Rattle.world_laws.proofs.Links.Found.{HasLinks, link_at}
use Rattle.world_laws.proofs.Texts.Own.{IsOwn}
use Rattle.x_base.specs.declared.key_name.KeyName.{KeyName}
use Rattle.x_base.specs.declared.party.Side.TheVariants.{Sends}
use Rattle.std.specs.List.{AllByRecursion}
use Rattle.x_base.specs.Names.{IsIdent}
use Rattle.x_base.specs.Count.{IsCount}
use Rattle.party_state.specs.declared.edit.Edit.TheVariants.{PutKey, DropExchange}
use Rattle.party_state.specs.State.{first_link}
use Rattle.bank_keys.specs.Ksm.{body_link, body_record}
use Rattle.member.specs.BankRows.{message_row}
use Rattle.world_laws.proofs.Sound.Exchanges.{subject_link_at}
use Rattle.world_laws.proofs.Texts.Names.{LinkNamed, RecordNamed, IsNamed, NamesFine, record_named, exchange_named, KindNamed, ViaNamed}
use Rattle.world_laws.proofs.Texts.Own.{IsOwn}
use Rattle.world_laws.proofs.Texts.OwnMessages.{response_own, dsm_response_own, centre_ksm_own, ers_own}
use Rattle.csm_grammar.proofs.Parts.{ksm_org, rtr_org, rtr_ultimate, rtr_kdu, rtr_ctb, rtr_cta, esm_org, esm_reason, esm_counts}
use Rattle.world_laws.proofs.Texts.Bodies.{body_counts, body_label}
use Rattle.world_laws.proofs.Agreeing.Moves.{OwnReply}
use Rattle.world_laws.proofs.Agreeing.Exchanges.{SentIs, sent_is, ending_is}
use Rattle.world_laws.proofs.Speaking.Wellformed.{Speaks, label_c, next_after, linked, up_named}
use Rattle.world_laws.proofs.Speaking.Commands.{at_record, again_named, rsi_speaks}

module _ (p : Party) (i : IsNamed p) where
  module _ (m : Rtr) (text : List ℕ) (said : Says text (message.Rtr m)) where
    passed_named : (value : ℕ) → RecordNamed (passed_record p m value)
    passed_named value = record { peer = rtr_ultimate text m said; name = record { issuer = rtr_org text m said; originator = i.own; label = label_c; count = rtr_ctb text m said } }

    passed_own : IsOwn (message.Ksm (centre_ksm p m))
    passed_own = centre_ksm_own p m i.own (rtr_org text m said) (rtr_ultimate text m said) (rtr_kdu text m said) (rtr_ctb text m said)

  pub rtr_speaks : (a : Arrival) (m : Rtr) (kd : Option (ℕ × ℕ)) → m.kd ≡ kd → Says (authenticated_text a) (message.Rtr m) → Speaks (rtr_with p a m kd)
  rtr_speaks a m (Some k) e said = go (link_with (takes m.originator centre_label) p) refl
    where
      go : (o : Option LinkRec) → link_with (takes m.originator centre_label) p ≡ o → Speaks (brought p a m k o)
      go None f = record { names = tt; reply = tt }
      go (Some l) f = record { names = (up_named p i l (k.1 + 1) (linked p i (takes m.originator centre_label) l f) (next_after k.1 (rtr_cta (authenticated_text a) m k e said)), (passed_named m (authenticated_text a) said (brought_value l k), (tt, (rtr_org (authenticated_text a) m said, tt)))); reply = passed_own m (authenticated_text a) said }
  rtr_speaks a m None e said = go (waiting_with p m.originator)
    where
      go : (o : Option KeyAtCentre) → Speaks (translated p a m o)
      go None = record { names = tt; reply = tt }
      go (Some t) = record { names = (passed_named m (authenticated_text a) said t.value, (tt, (tt, tt))); reply = passed_own m (authenticated_text a) said }

  pub key_speaks : (a : Arrival) (m : Ksm) (b : KsmBody) (o : Option LinkRec) → HasLinks p → m.body ≡ b → body_link p m.originator b ≡ o → Says (authenticated_text a) (message.Ksm m) → Speaks (key_row p a m b o)
  key_speaks a m b None d is found said = record { names = tt; reply = tt }
  key_speaks a m b (Some l) d is found said = record { names = (up_named p i l (body_next b) named next_named, taken_named (body_new b) refl); reply = response_own p m.originator i.own org }
    where
      count : IsCount (body_count b)
      count = body_counts (authenticated_text a) m b is said

      -- the count behind those of the keys; of two the second is a count
      bounds : (c : KsmBody) → body_link p m.originator c ≡ Some l → IsCount (body_count c) → IsNextCount (body_next c) × ((kd : ℕ) → body_twin c ≡ Some kd → IsCount (body_count c + 1))
      bounds (body.Direct idk2 new kd ctp) h n = (next_after ctp n, λ kd e. absurd (cc))
      bounds (body.Centre centre kdu ctb) h n = (next_after ctb n, λ kd e. absurd (cc))
      bounds (body.Twin idk2 first second ctp) h n =
          let less : ctp < 99999999999999 = ltb-true ctp 99999999999999 (twin_link p m.originator idk2 ctp l h).0 in
          (record { low = omega arith; high = omega (arith, less) }, λ kd e. record { low = omega arith; high = omega (arith, less) })

      next_named : IsNextCount (body_next b)
      next_named = (bounds b found count).0

      org : IsIdent m.originator
      org = ksm_org (authenticated_text a) m said

      at : link_with (takes (body_name p m.originator b l).name.issuer (body_name p m.originator b l).name.label) p ≡ Some l
      at = name_link p m.originator b l d found

      named : LinkNamed l
      named = linked p i (takes (body_name p m.originator b l).name.issuer (body_name p m.originator b l).name.label) l at

      name_named : (c : KsmBody) → body_link p m.originator c ≡ Some l → IsCount (body_count c) → IsKeyName (body_name p m.originator c l).name
      name_named (body.Direct idk2 new kd ctp) h n = record { issuer = named.peer; originator = named.peer; label = named.label; count = n }
      name_named (body.Twin idk2 first second ctp) h n = record { issuer = named.peer; originator = named.peer; label = named.label; count = n }
      name_named (body.Centre centre kdu ctb) h n = record { issuer = subst IsIdent (ap (λ (k : LinkKey). k.peer) (link_at p (takes centre centre_label) l h).key) named.peer; originator = org; label = label_c; count = n }

      put_named : RecordNamed (body_record p m b l)
      put_named = record { peer = org; name = name_named b found count }

      second_named : (o : Option ℕ) → body_twin b ≡ o → AllByRecursion NamesFine (second_edits (option_map (λ kd. second_record p m b l kd) o))
      second_named None e = tt
      second_named (Some kd) e = (let n = put_named.name in record { peer = org; name = record { issuer = n.issuer; originator = n.originator; label = n.label; count = subst (λ (c : ℕ). IsCount (c + 1)) (sym (name_count p m.originator b l)) ((bounds b found count).1 kd e) } }, tt)

      taken_named : (n : Option (List ℕ × NewKk)) → body_new b ≡ n → AllByRecursion NamesFine (taken_edits m.originator l (body_count b) n ++ PutKey (body_record p m b l) ∷ second_edits (body_second p m b l))
      taken_named None e = (put_named, second_named (body_twin b) refl)
      taken_named (Some n) e = (record { peer = org; label = body_label (authenticated_text a) m b n is e said; next = record { low = omega arith; high = omega arith } }, (put_named, second_named (body_twin b) refl))

  pub new_named : (peer : List ℕ) (via : Via) (l : LinkRec) → new_link p peer via ≡ Some l → LinkNamed l
  new_named peer via l h = by (new_label via) h
    where
      by : (o : Option (List ℕ)) → new_link_at p peer o ≡ Some l → LinkNamed l
      by None h = absurd (cc)
      by (Some label) h = linked p i (sends peer label) l h

  pub rsm_speaks : (a : Arrival) (m : Rsm) (o : Option Sent) → sent_to p m.originator ≡ o → Speaks (rsm_to p a m o)
  rsm_speaks a m None e = record { names = tt; reply = tt }
  rsm_speaks a m (Some s) e = record { names = go (new_link p m.originator s.via) refl; reply = tt }
    where
      is : SentIs p m.originator s
      is = sent_is p m.originator s e

      put_named : RecordNamed (record s.key { status = Live })
      put_named = again_named p i s.key Live (record_named p (record_key s.key) s.key i is.at)

      go : (l : Option LinkRec) → new_link p m.originator s.via ≡ l → AllByRecursion NamesFine (readied l ++ PutKey (record s.key { status = Live }) ∷ DropExchange m.originator ∷ [])
      go None f = (put_named, (tt, tt))
      go (Some l) f = (let n : LinkNamed l = new_named m.originator s.via l f in (record { peer = n.peer; label = n.label; next = n.next }, (put_named, (tt, tt))))

  pub rsm_row_speaks : (a : Arrival) (m : Rsm) (o : Option KeyName) → Speaks (rsm_with p a m o)
  rsm_row_speaks a m None = by_twins (twins_to p m.originator) refl
    where
      by_twins : (t : Option Twins) → twins_to p m.originator ≡ t → Speaks (rsm_by p a m t)
      by_twins None e = rsm_speaks a m (sent_to p m.originator) refl
      by_twins (Some t) e =
          let is : TwinsIs p m.originator t = twins_is p m.originator t e in
          record { names = (again_named p i t.first Live (record_named p (record_key t.first) t.first i is.first), (again_named p i t.second Live (record_named p (record_key t.second) t.second i is.second), (tt, tt))); reply = tt }
  rsm_row_speaks a m (Some n) = go (ending_with p m.originator) refl
    where
      go : (o : Option KeyRec) → ending_with p m.originator ≡ o → Speaks (answer_to p a m n o)
      go None e = record { names = tt; reply = tt }
      go (Some k) e = record { names = (again_named p i k Ended (record_named p (record_key k) k i (ending_is p m.originator k e).0), (tt, tt)); reply = tt }

  -- raising a count keeps names
  pub raised_named : (o : Option LinkRec) (ctr : Option ℕ) (rest : List Edit) → ((l : LinkRec) → o ≡ Some l → LinkNamed l) → ((n : ℕ) → ctr ≡ Some n → IsCount n) → AllByRecursion NamesFine rest → AllByRecursion NamesFine (raised o ctr ++ rest)
  raised_named None ctr rest f c r = r
  raised_named (Some l) None rest f c r = r
  raised_named (Some l) (Some n) rest f c r = (
    (let named : LinkNamed l = f l refl in let count : IsCount n = c n refl in record { peer = named.peer; label = named.label; next = record { low = omega (arith, named.next.low); high = omega (arith, named.next.high, count.high) } }),
    r,
  )

  pub subject_named : (peer : List ℕ) (s : ErrorSubject) (l : LinkRec) → subject_link p peer s ≡ Some l → LinkNamed l
  subject_named peer s l h = linked p i (link_key l) l (subject_link_at p peer s l h)

  pub gone_named : (peer : List ℕ) (l : Option LinkRec) (k : KeyRec) (m : Esm) (value : ℕ) (r : Option Retry) → RecordNamed k → AllByRecursion NamesFine ((dropped l ++ PutKey k ∷ []) ++ DropExchange peer ∷ asked_again p m value r)
  gone_named peer None k m value None n = (n, (tt, tt))
  gone_named peer None k m value (Some r) n = (n, (tt, (tt, tt)))
  gone_named peer (Some l) k m value None n = (tt, (n, (tt, tt)))
  gone_named peer (Some l) k m value (Some r) n = (tt, (n, (tt, (tt, tt))))

  pub error_speaks : (a : Arrival) (m : Esm) (o : Option ErrorSubject) (again : Option Retry) → (again ≡ None) ⊎ (retry_in p o m.ctr ≡ again) → subject_with p m.originator ≡ o → Says (authenticated_text a) (message.Esm m) → Speaks (error_of p a m o again)
  error_speaks a m None again asks e said = record { names = tt; reply = tt }
  error_speaks a m (Some (Translated value cta)) None asks e said = record { names = raised_named (subject_link p m.originator (Translated value cta)) m.ctr (DropExchange m.originator ∷ []) (subject_named m.originator (Translated value cta)) (λ n j. esm_counts (authenticated_text a) m n j said) (tt, tt); reply = tt }
  error_speaks a m (Some (Translated value cta)) (Some t) asks e said = absurd (elim asks [ inl q ↦ cc | inr q ↦ cc ])
  error_speaks a m (Some (SentTwins t)) (Some r) asks e said = absurd (elim asks [ inl q ↦ cc | inr q ↦ cc ])
  error_speaks a m (Some (SentTwins t)) None asks e said =
      let is : TwinsIs p m.originator t = twins_is p m.originator t (subject_twins p m.originator t e) in
      record {
        names = raised_named (subject_link p m.originator (SentTwins t)) m.ctr (PutKey (record t.first { status = Ended }) ∷ PutKey (record t.second { status = Ended }) ∷ DropExchange m.originator ∷ []) (subject_named m.originator (SentTwins t)) (λ n j. esm_counts (authenticated_text a) m n j said)
            (again_named p i t.first Ended (record_named p (record_key t.first) t.first i is.first), (again_named p i t.second Ended (record_named p (record_key t.second) t.second i is.second), (tt, tt)));
        reply = tt;
      }
  error_speaks a m (Some (SentKey s)) again asks e said = record {
    names = raised_named (subject_link p m.originator (SentKey s)) m.ctr ((dropped (new_link p m.originator s.via) ++ PutKey (record s.key { status = Ended }) ∷ []) ++ DropExchange m.originator ∷ asked_again p m s.key.value again) (subject_named m.originator (SentKey s)) (λ n j. esm_counts (authenticated_text a) m n j said) (gone_named m.originator (new_link p m.originator s.via) (record s.key { status = Ended }) m s.key.value again (again_named p i s.key Ended (record_named p (record_key s.key) s.key i is.at)));
    reply = reply_own again asks;
  }
    where
      is : SentIs p m.originator s
      is = sent_is p m.originator s (subject_sent p m.originator s e)

      via_named : ViaNamed s.via
      via_named = subst KindNamed is.kind_is (exchange_named p m.originator is.exchange i is.stands)

      parts : (w : Via) → ViaNamed w → (ctr : Option ℕ) → ((n : ℕ) → ctr ≡ Some n → IsCount n) → (t : Retry) → retry_by p w ctr ≡ Some t → IsIdent t.centre × IsCount t.ctr
      parts (vias.Direct label new) n ctr c t h = absurd (cc)
      parts (vias.Translation centre) n ctr c t h = absurd (cc)
      parts (vias.Distribution centre cta) n None c t h = absurd (cc)
      parts (vias.Distribution centre cta) n (Some ctr) c t h = by (is_none (exchange_with centre p)) h
        where
          by : (b : Bool) → cond b (Some (record { centre = centre; cta = cta; ctr = ctr })) None ≡ Some t → IsIdent t.centre × IsCount t.ctr
          by true h = (let made : Retry = record { centre = centre; cta = cta; ctr = ctr } in let same : made ≡ t = cc in (subst (λ (z : Retry). IsIdent z.centre) same n, subst (λ (z : Retry). IsCount z.ctr) same (c ctr refl)))
          by false h = absurd (cc)

      reply_own : (r : Option Retry) → (r ≡ None) ⊎ (retry_by p s.via m.ctr ≡ r) → OwnReply (again_reply p m s.key.value r)
      reply_own None h = tt
      reply_own (Some t) (inl h) = absurd (cc)
      reply_own (Some t) (inr h) = (let q = parts s.via via_named m.ctr (λ n j. esm_counts (authenticated_text a) m n j said) t h in ers_own p m t i.own (esm_org (authenticated_text a) m said) q.0 q.1 (esm_reason (authenticated_text a) m said))

  pub error_row_speaks : (a : Arrival) (m : Esm) (b : Bool) (again : Option Retry) → (again ≡ None) ⊎ (retry_in p (subject_with p m.originator) m.ctr ≡ again) → Says (authenticated_text a) (message.Esm m) → Speaks (error_with p a m b again)
  error_row_speaks a m true again asks said = record { names = tt; reply = tt }
  error_row_speaks a m false again asks said = error_speaks a m (subject_with p m.originator) again asks refl said

  pub dsm_speaks : (a : Arrival) (m : Dsm) (o : Option NamedKey) → named_by p m ≡ o → Speaks (dsm_on p a m o)
  dsm_speaks a m None e = record { names = tt; reply = tt }
  dsm_speaks a m (Some n) e = record { names = by_status (is_ended n.key.status); reply = dsm_response_own p n.key i.own named }
    where
      key_at : (a b : Option KeyRec) → paired a b ≡ Some n → a ≡ Some n.key
      key_at None b h = absurd (cc)
      key_at (Some k) None h = absurd (cc)
      key_at (Some k) (Some j) h = (let made : NamedKey = record { key = k; by = j } in let is : made ≡ n = cc in ap (λ (z : NamedKey). let o : Option KeyRec = Some z.key in o) is)

      named : RecordNamed n.key
      named = at_record p i m.originator m.idd n.key (key_at (record_of p m.originator m.idd) (record_of p m.originator (code_name m.idd m.ida)) e)

      put : RecordNamed (record n.key { status = Ended })
      put = again_named p i n.key Ended named

      by_sent : (l : Option LinkRec) (b : Bool) → AllByRecursion NamesFine ((cond {A = List Edit × List Edit} b (dropped l, DropExchange m.originator ∷ []) ([], [])).0 ++ (PutKey (record n.key { status = Ended }) ∷ (cond {A = List Edit × List Edit} b (dropped l, DropExchange m.originator ∷ []) ([], [])).1))
      by_sent None true = (put, (tt, tt))
      by_sent (Some l) true = (tt, (put, (tt, tt)))
      by_sent l false = (put, tt)

      by_ending : (b : Bool) → AllByRecursion NamesFine ((cond {A = List Edit × List Edit} b ([], DropExchange m.originator ∷ []) ([], [])).0 ++ (PutKey (record n.key { status = Ended }) ∷ (cond {A = List Edit × List Edit} b ([], DropExchange m.originator ∷ []) ([], [])).1))
      by_ending true = (put, (tt, tt))
      by_ending false = (put, tt)

      by_pair : (name : KeyName) (j k : Option KeyRec) → record_of p m.originator name ≡ j → record_of p m.originator (name_behind name) ≡ k → (b c : Bool)
          → AllByRecursion NamesFine ((cond {A = List Edit × List Edit} b ([], ended k ++ DropExchange m.originator ∷ []) (cond {A = List Edit × List Edit} c (ended j, DropExchange m.originator ∷ []) ([], []))).0 ++ (PutKey (record n.key { status = Ended }) ∷ (cond {A = List Edit × List Edit} b ([], ended k ++ DropExchange m.originator ∷ []) (cond {A = List Edit × List Edit} c (ended j, DropExchange m.originator ∷ []) ([], []))).1))
      by_pair name j None f g true c = (put, (tt, tt))
      by_pair name j (Some k) f g true c = (put, (again_named p i k Ended (at_record p i m.originator (name_behind name) k g), (tt, tt)))
      by_pair name None k f g false true = (put, (tt, tt))
      by_pair name (Some j) k f g false true = (again_named p i j Ended (at_record p i m.originator name j f), (put, (tt, tt)))
      by_pair name j k f g false false = (put, tt)

      by_kind : (k : Kind) → AllByRecursion NamesFine ((left_by p m.originator n.key.name k).0 ++ (PutKey (record n.key { status = Ended }) ∷ (left_by p m.originator n.key.name k).1))
      by_kind (kind.KeySent name via) = by_sent (new_link p m.originator via) (same_name n.key.name name)
      by_kind (kind.Ending name) = by_ending (same_name n.key.name name)
      by_kind (kind.Asked ultimate) = (put, tt)
      by_kind (kind.Translating ultimate value cta) = (put, tt)
      by_kind (kind.PairSent name) = by_pair name (record_of p m.originator name) (record_of p m.originator (name_behind name)) refl refl (same_name n.key.name name) (same_name n.key.name (name_behind name))

      by_exchange : (o : Option Exchange) → AllByRecursion NamesFine ((left_in p m.originator n.key.name o).0 ++ (PutKey (record n.key { status = Ended }) ∷ (left_in p m.originator n.key.name o).1))
      by_exchange None = (put, tt)
      by_exchange (Some e) = by_kind e.kind

      by_status : (b : Bool) → AllByRecursion NamesFine (cond b [] ((left_in p m.originator n.key.name (exchange_with m.originator p)).0 ++ (PutKey (record n.key { status = Ended }) ∷ (left_in p m.originator n.key.name (exchange_with m.originator p)).1)))
      by_status true = tt
      by_status false = by_exchange (exchange_with m.originator p)

  pub message_speaks : (a : Arrival) (m : Message) (moment : ℕ) → HasLinks p → Says (authenticated_text a) m → is_accept (message_row p a m moment).verdict ≡ true → Speaks (message_row p a m moment)
  message_speaks a (message.Rsi m) moment d said h = rsi_speaks p i a m (first_link m.originator Sends p) moment d refl h
  message_speaks a (message.Rfs m) moment d said h = record { names = tt; reply = tt }
  message_speaks a (message.Rtr m) moment d said h = rtr_speaks a m m.kd refl said
  message_speaks a (message.Ksm m) moment d said h = key_speaks a m m.body (body_link p m.originator m.body) d refl refl said
  message_speaks a (message.Rsm m) moment d said h = rsm_row_speaks a m m.idd
  message_speaks a (message.Ers m) moment d said h = record { names = tt; reply = tt }
  message_speaks a (message.Esm m) moment d said h = error_row_speaks a m (is_plain a.parsed.shut) (retry_in p (subject_with p m.originator) m.ctr) (inr refl) said
  message_speaks a (message.Dsm m) moment d said h = dsm_speaks a m (named_by p m) refl
  -- the centres
