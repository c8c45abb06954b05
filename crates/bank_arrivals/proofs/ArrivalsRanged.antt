-- What the rows of arrivals put is in range, and what they write is short.
use Rattle.std.proofs.Common.{◌≡◌, ℕ, ◌+◌, ◌≤◌, max, Bool, true, false, cond, Option, Some, None, IfSome, Ok, List, [], ◌∷◌, ◌++◌, length, refl, subst, lit≤, arith}
use Rattle.std.specs.List.{AllByRecursion}
use Rattle.x_base.specs.Names.{IsIdent}
use Rattle.x_base.specs.Count.{IsCount}
use Rattle.x_base.specs.KeyName.{IsKeyName}
use Rattle.x_base.specs.declared.key_name.KeyName.{KeyName}
use Rattle.x_base.specs.declared.party.Side.TheVariants.{Sends}
use Rattle.x_gen.specs.declared.generator.Gen.{Gen}
use Rattle.x_gen.specs.Gen.{good_draw}
use Rattle.x_gen.specs.Laws.{DrawsOdd}
use Rattle.csm_grammar.specs.declared.arrival.Arrival.{Arrival}
use Rattle.csm_grammar.specs.declared.message.Message.TheVariants as message
use Rattle.csm_grammar.specs.declared.message.Rsi.{Rsi}
use Rattle.csm_grammar.specs.declared.message.Rsm.{Rsm}
use Rattle.csm_grammar.specs.declared.message.Esm.{Esm}
use Rattle.csm_grammar.specs.declared.message.Dsm.{Dsm}
use Rattle.csm_grammar.specs.declared.tag.Tag.TheVariants.{Ctp, Cta, Ctb, Ctr}
use Rattle.csm_grammar.specs.Values.{ANumber}
use Rattle.csm_grammar.specs.Messages.{Valued, if_any, fields_of}
use Rattle.csm_grammar.specs.Kinds.{IsFieldOfKind}
use Rattle.csm_grammar.specs.Arrivals.{IsArrived}
use Rattle.csm_write.specs.Shortness.{CanonShort}
use Rattle.party_tables.specs.Keys.{link_key}
use Rattle.party_tables.specs.Names.{name_behind, full_name}
use Rattle.party_tables.specs.Ranges.{IsWord, IsNextCount, IsLink, IsRecord, longest_text}
use Rattle.party_tables.specs.Statuses.{is_ended}
use Rattle.party_tables.specs.declared.exchange.Kind.{Kind}
use Rattle.party_tables.specs.declared.exchange.Kind.TheVariants as kind
use Rattle.party_tables.specs.declared.exchange.Exchange.{Exchange}
use Rattle.party_tables.specs.declared.exchange.Via.{Via}
use Rattle.party_tables.specs.declared.key.KeyRec.{KeyRec}
use Rattle.party_tables.specs.declared.key.KeyStatus.TheVariants.{Live, Ended}
use Rattle.party_tables.specs.declared.link.LinkRec.{LinkRec}
use Rattle.party_state.specs.declared.edit.Edit.{Edit}
use Rattle.party_state.specs.declared.edit.Edit.TheVariants.{PutKey, DropExchange}
use Rattle.party_state.specs.Ranges.{IsParty}
use Rattle.party_state.specs.State.{Party, first_link, exchange_with}
use Rattle.party_state.specs.Verdicts.{TestsHold, is_accept}
use Rattle.role_base.specs.declared.exchanges.Sent.{Sent}
use Rattle.role_base.specs.declared.exchanges.Twins.{Twins}
use Rattle.role_base.specs.Conditions.{is_two_keys, has_key_room}
use Rattle.role_base.specs.Deciding.{decision_of}
use Rattle.role_base.specs.Exchanges.{record_of, sent_to, twins_to, ending_with, new_link, readied, dropped, ended}
use Rattle.role_base.specs.Ranged.{IsRanged}
use Rattle.role_base.specs.Sending.{next_name, sending_tests, sending_drawn}
use Rattle.role_base.specs.Standing.{LinkStands}
use Rattle.role_base.specs.Texts.{text_of, is_plain}
use Rattle.role_base.proofs.Counted.{left_is_count, next_on, greater_next}
use Rattle.role_base.proofs.Found.{new_link_stands}
use Rattle.role_base.proofs.Kept.{row_kept}
use Rattle.role_base.proofs.PartyLaws.{HeldIfAccepted, LinksFound, KeysFound, FirstLinksFound, LinksInRange, KeysInRange, ExchangesInRange}
use Rattle.role_base.proofs.Ranged.{AllInRange, IsShort, AreRanged, WrapsBelow, row_ranged, dropped_in_range, ended_in_range, append_in_range, nothing_ranged, refused_kept, coded_short, key_in_range, with_status, with_next, with_ready, seed_below, named_next, sending_ranged, sending_kept}
use Rattle.bank_arrivals.specs.declared.asking_again.Retry.{Retry}
use Rattle.bank_arrivals.specs.declared.disconnection.NamedKey.{NamedKey}
use Rattle.bank_arrivals.specs.declared.draws.TwinsDrawn.{TwinsDrawn}
use Rattle.bank_arrivals.specs.declared.error_message.ErrorSubject.{ErrorSubject}
use Rattle.bank_arrivals.specs.declared.error_message.ErrorSubject.TheVariants.{SentKey, SentTwins, Translated}
use Rattle.bank_arrivals.specs.AskingAgain.{retry_of, retry_in, retry_by, asked_again, again_reply}
use Rattle.bank_arrivals.specs.Dsm.{named_by, left_by, left_in, disconnected, dsm_response, dsm_on, dsm}
use Rattle.bank_arrivals.specs.Esm.{subject_with, subject_value, subject_link, raised, error_row, error_of, error_with, error}
use Rattle.bank_arrivals.specs.Rsi.{rsi_tests, rsi_row, rsi_under, rsi}
use Rattle.bank_arrivals.specs.Rsm.{rsm_to, rsm_by, answer_to, rsm_with, rsm}
use Rattle.bank_arrivals.specs.SendingTwins.{first_pending, second_pending, first_drawn, second_drawn, twins_drawn, twins_message, twins_reply, twins_tests, twins_sending_drawn}
use Rattle.bank_arrivals.proofs.AskingShort.{IsHeard, IsRetry, is_retry, last_part}
use Rattle.bank_arrivals.proofs.DisconnectionsKept.{named_stands, dsm_kept}
use Rattle.bank_arrivals.proofs.ErrorsKept.{SubjectStands, IsAskedShort, subject_stands, counted_stands, asked_short, esm_kept}
use Rattle.bank_arrivals.proofs.ResponsesKept.{sent_stands, ending_stands, rsm_kept}
use Rattle.bank_arrivals.proofs.TwinsStanding.{TwinsStand, twins_stand}
use Rattle.bank_arrivals.proofs.TwinsSent.{two_left, twins_keepable}

-- what is read of an arrival

pub rsm_originator : (a : Arrival) (m : Rsm) → IsArrived a → a.parsed.message ≡ message.Rsm m → IsIdent m.originator
rsm_originator a m i e = let typed : AllByRecursion IsFieldOfKind (fields_of (message.Rsm m)) = rw e at i.typed in typed.1.0

pub dsm_originator : (a : Arrival) (m : Dsm) → IsArrived a → a.parsed.message ≡ message.Dsm m → IsIdent m.originator
dsm_originator a m i e = let typed : AllByRecursion IsFieldOfKind (fields_of (message.Dsm m)) = rw e at i.typed in typed.1.0

counted : (o : Option ℕ) (rest : List Valued) → AllByRecursion IsFieldOfKind (if_any Ctr ANumber o ++ rest) → IfSome o IsCount
counted None rest h = tt
counted (Some n) rest h = h.0

pub told_count : (a : Arrival) (m : Esm) → IsArrived a → a.parsed.message ≡ message.Esm m → IfSome m.ctr IsCount
told_count a m i e =
    let typed : AllByRecursion IsFieldOfKind (fields_of (message.Esm m)) = rw e at i.typed in
    counted m.ctr _ (last_part (if_any Ctb ANumber m.ctb) _ (last_part (if_any Cta ANumber m.cta) _ (last_part (if_any Ctp ANumber m.ctp) _ typed.1.1)))

-- requests

-- two keys that are drawn, and the generator's state behind them
pub record TwinsBelow (d : TwinsDrawn) : Type 0 where
  pub first : IsWord d.first
  pub second : IsWord d.second
  pub seed : IsWord d.v

twins_below : DrawsOdd → (g : Gen) (moment : ℕ) (d : TwinsDrawn) → twins_drawn g moment ≡ Some d → TwinsBelow d
unfolding twins_drawn
twins_below odd g moment d h = by_first (good_draw g moment) refl h
  where
    by_second : (x : ℕ × Gen) → good_draw g moment ≡ Some x → (o : Option (ℕ × Gen)) → good_draw x.1 moment ≡ o → second_drawn x.0 o ≡ Some d → TwinsBelow d
    by_second x f None e h = absurd (cc)
    by_second x f (Some y) e h =
        let made : TwinsDrawn = record { first = x.0; second = y.0; v = y.1.v } in
        let is : made ≡ d = cc in
        subst TwinsBelow is (record { first = (odd g moment x f).below; second = (odd x.1 moment y e).below; seed = seed_below x.1 moment y e })

    by_first : (o : Option (ℕ × Gen)) → good_draw g moment ≡ o → first_drawn moment o ≡ Some d → TwinsBelow d
    by_first None f h = absurd (cc)
    by_first (Some x) f h = by_second x f (good_draw x.1 moment) refl h

named_behind : (p : Party) (l : LinkRec) → IsIdent p.own → IsLink l → IsCount (l.next + 1) → IsKeyName (name_behind (next_name p l))
named_behind p l own r count = record { issuer = own; originator = own; label = r.label; count = count }

twins_short : CanonShort → WrapsBelow → (p : Party) (l : LinkRec) (d : TwinsDrawn) → IsIdent p.own → IsLink l → IsCount l.next → length (text_of (twins_reply p l d)) ≤ longest_text
twins_short short below p l d own r count =
    coded_short short (twins_message p l d) (record { name = next_name p l; recipient = l.peer }) _ (r.peer, (own, (r.label, (below l.pair l.next d.first, (below l.pair (l.next + 1) d.second, (count, tt)))))) (lit≤ tt)

behind_next : (n : ℕ) → IsCount (n + 1) → IsNextCount (n + 2)
behind_next n c = next_on (n + 1) (n + 2) c (omega arith)

module _ (short : CanonShort) (below : WrapsBelow) (odd : DrawsOdd) (held : HeldIfAccepted) (p : Party) (a : Arrival) (m : Rsi) (w : IsParty p) (l : LinkRec) (st : LinkStands p l) (moment : ℕ) where
  -- a key that is sent is accepted at a count, with room
  sends_one : (d : ℕ × Gen) → is_accept (sending_drawn p (rsi_tests p a m (Some l)) l (Some d)).verdict ≡ true → IsCount l.next × (has_key_room p (record { peer = l.peer; name = next_name p l }) ≡ true)
  sends_one d h =
      let t : TestsHold (rsi_tests p a m (Some l) ++ sending_tests p l (Some d)) = held (rsi_tests p a m (Some l) ++ sending_tests p l (Some d)) refl h in
      (left_is_count l st.range.next t.1.1.1.1.1.1.0, t.1.1.1.1.1.1.1.0)

  one_ranged : IsRanged p (decision_of p (sending_drawn p (rsi_tests p a m (Some l)) l (good_draw p.generator moment)))
  one_ranged = row_ranged p (sending_drawn p (rsi_tests p a m (Some l)) l (good_draw p.generator moment))
      (sending_kept short below p (rsi_tests p a m (Some l)) l (good_draw p.generator moment) w st (λ d e h. sends_one d h))
      (sending_ranged short below odd held p (rsi_tests p a m (Some l)) l moment w st (λ d e h. (sends_one d h).0))

  two_ranged : (o : Option TwinsDrawn) → twins_drawn p.generator moment ≡ o → IsRanged p (decision_of p (twins_sending_drawn p (rsi_tests p a m (Some l)) l o))
  two_ranged None e = row_ranged p (twins_sending_drawn p (rsi_tests p a m (Some l)) l None) (refused_kept p _) (nothing_ranged _)
  two_ranged (Some d) e =
      let b : TwinsBelow d = twins_below odd p.generator moment d e in
      let row = twins_sending_drawn p (rsi_tests p a m (Some l)) l (Some d) in
      row_ranged p row
      (row_kept p row (λ h. (
      let t = tests h in
      let c = counts h in
      twins_keepable p l (first_pending p l d) (second_pending p l d) _ d.v st c.1 t.1.1.1.1.1.1.1.0 (record { kind = c.1; text = twins_short short below p l d w.own st.range c.0 }))) (lit≤ tt))
      (record {
        edits = λ h. (
            let c = counts h in
            let name = named_next p l w.own st.range.label c.0 in
            let other = named_behind p l w.own st.range c.1 in (
              b.seed,
              (
                with_next l (l.next + 2) st.range (behind_next l.next c.1),
                (
                  record { peer = st.range.peer; name = name; value = b.first },
                  (
                    record { peer = st.range.peer; name = other; value = b.second },
                    (record { peer = st.range.peer; kind = (name, other); text = twins_short short below p l d w.own st.range c.0 }, tt),
                  ),
                ),
              ),
            ));
        reply = λ h. twins_short short below p l d w.own st.range (counts h).0;
        answer = tt;
      })
    where
      tests : is_accept (twins_sending_drawn p (rsi_tests p a m (Some l)) l (Some d)).verdict ≡ true → TestsHold (rsi_tests p a m (Some l) ++ twins_tests p l (Some d))
      tests h = held (rsi_tests p a m (Some l) ++ twins_tests p l (Some d)) refl h

      counts : is_accept (twins_sending_drawn p (rsi_tests p a m (Some l)) l (Some d)).verdict ≡ true → IsCount l.next × IsCount (l.next + 1)
      counts h = two_left l st.range.next (tests h).1.1.1.1.1.1.0

  by_service : (b : Bool) → IsRanged p (decision_of p (rsi_row p a m l moment b))
  by_service true = two_ranged (twins_drawn p.generator moment) refl
  by_service false = one_ranged

pub rsi_ranged : CanonShort → WrapsBelow → DrawsOdd → HeldIfAccepted → FirstLinksFound → LinksInRange → (p : Party) (a : Arrival) (m : Rsi) (moment : ℕ) → IsParty p → IsRanged p (decision_of p (rsi p a m moment))
rsi_ranged short below odd held first in_range p a m moment w = by_link (first_link m.originator Sends p) refl
  where
    by_link : (o : Option LinkRec) → first_link m.originator Sends p ≡ o → IsRanged p (decision_of p (rsi_under p a m o moment))
    by_link None e = row_ranged p (rsi_under p a m None moment) (refused_kept p _) (nothing_ranged _)
    by_link (Some l) e =
        let found = first m.originator Sends l p w e in
        by_service short below odd held p a m w l (record { found = found; range = in_range (link_key l) l p w found }) moment (is_two_keys m.service)

-- responses

pub rsm_ranged : LinksFound → KeysFound → LinksInRange → KeysInRange → (p : Party) (a : Arrival) (m : Rsm) → IsParty p → IsIdent m.originator → IsRanged p (decision_of p (rsm p a m))
rsm_ranged links keys links_in_range keys_in_range p a m w i = row_ranged p (rsm p a m) (rsm_kept links keys links_in_range p a m (Ok (decision_of p (rsm p a m))) w refl).kept (by_name m.idd)
  where
    readied_in_range : (via : Via) → AllInRange (readied (new_link p m.originator via))
    readied_in_range via = go (new_link p m.originator via) refl
      where
        go : (o : Option LinkRec) → new_link p m.originator via ≡ o → AllInRange (readied o)
        go None e = tt
        go (Some l) e = (with_ready l true (new_link_stands links links_in_range p m.originator via l w e).range, tt)

    by_sent : (o : Option Sent) → sent_to p m.originator ≡ o → AreRanged (rsm_to p a m o)
    by_sent None e = nothing_ranged _
    by_sent (Some s) e = record {
      edits = λ _. append_in_range (readied (new_link p m.originator s.via)) (PutKey (record s.key { status = Live }) ∷ DropExchange m.originator ∷ []) (readied_in_range s.via)
          (with_status s.key Live (key_in_range keys_in_range p s.key w (sent_stands keys p m.originator s e)), (i, tt));
      reply = λ _. tt;
      answer = tt;
    }

    by_twins : (o : Option Twins) → twins_to p m.originator ≡ o → AreRanged (rsm_by p a m o)
    by_twins None e = by_sent (sent_to p m.originator) refl
    by_twins (Some t) e =
        let st : TwinsStand p t = twins_stand keys p m.originator t e in
        record {
          edits = λ _. (with_status t.first Live (key_in_range keys_in_range p t.first w st.first), (with_status t.second Live (key_in_range keys_in_range p t.second w st.second), (i, tt)));
          reply = λ _. tt;
          answer = tt;
        }

    by_record : (name : KeyName) (o : Option KeyRec) → ending_with p m.originator ≡ o → AreRanged (answer_to p a m name o)
    by_record name None e = nothing_ranged _
    by_record name (Some k) e = record { edits = λ _. (with_status k Ended (key_in_range keys_in_range p k w (ending_stands keys p m.originator k e)), (i, tt)); reply = λ _. tt; answer = tt }

    by_name : (o : Option KeyName) → AreRanged (rsm_with p a m o)
    by_name None = by_twins (twins_to p m.originator) refl
    by_name (Some name) = by_record name (ending_with p m.originator) refl

-- disconnections

abbrev with_key : KeyRec → List Edit × List Edit → List Edit
with_key k gone = gone.0 ++ (PutKey (record k { status = Ended }) ∷ gone.1)

disconnected_in_range : LinksFound → KeysFound → LinksInRange → KeysInRange → (p : Party) (peer : List ℕ) (k : KeyRec) → IsParty p → IsIdent peer → IsRecord k → AllInRange (disconnected p peer k)
disconnected_in_range links keys links_in_range keys_in_range p peer k w i r = by_status (is_ended k.status)
  where
    ends : IsRecord (record k { status = Ended })
    ends = with_status k Ended r

    gone : (es fs : List Edit) → AllInRange es → AllInRange fs → AllInRange (with_key k (es, fs))
    gone es fs a b = append_in_range es (PutKey (record k { status = Ended }) ∷ fs) a (ends, b)

    by_sent : (via : Via) (b : Bool) → AllInRange (with_key k (cond b (dropped (new_link p peer via), DropExchange peer ∷ []) ([], [])))
    by_sent via true = gone (dropped (new_link p peer via)) (DropExchange peer ∷ []) (dropped_in_range links links_in_range p peer via w) (i, tt)
    by_sent via false = (ends, tt)

    by_ending : (b : Bool) → AllInRange (with_key k (cond b ([], DropExchange peer ∷ []) ([], [])))
    by_ending true = (ends, (i, tt))
    by_ending false = (ends, tt)

    by_pair : (sent : KeyName) (b c : Bool) → AllInRange (with_key k (cond b ([], ended (record_of p peer (name_behind sent)) ++ DropExchange peer ∷ []) (cond c (ended (record_of p peer sent), DropExchange peer ∷ []) ([], []))))
    by_pair sent true c = (ends, append_in_range (ended (record_of p peer (name_behind sent))) (DropExchange peer ∷ []) (ended_in_range keys_in_range p peer (name_behind sent) w) (i, tt))
    by_pair sent false true = gone (ended (record_of p peer sent)) (DropExchange peer ∷ []) (ended_in_range keys_in_range p peer sent w) (i, tt)
    by_pair sent false false = (ends, tt)

    by_kind : (x : Kind) → AllInRange (with_key k (left_by p peer k.name x))
    by_kind (kind.KeySent sent via) = by_sent via _
    by_kind (kind.Ending ending) = by_ending _
    by_kind (kind.Asked ultimate) = (ends, tt)
    by_kind (kind.Translating ultimate value cta) = (ends, tt)
    by_kind (kind.PairSent sent) = by_pair sent _ _

    by_exchange : (o : Option Exchange) → AllInRange (with_key k (left_in p peer k.name o))
    by_exchange None = (ends, tt)
    by_exchange (Some e) = by_kind e.kind

    by_status : (b : Bool) → AllInRange (cond b [] (with_key k (left_in p peer k.name (exchange_with peer p))))
    by_status true = tt
    by_status false = by_exchange (exchange_with peer p)

pub dsm_ranged : CanonShort → LinksFound → KeysFound → LinksInRange → KeysInRange → (p : Party) (a : Arrival) (m : Dsm) → IsParty p → IsIdent m.originator → IsRanged p (decision_of p (dsm p a m))
dsm_ranged short links keys links_in_range keys_in_range p a m w i = row_ranged p (dsm p a m) (dsm_kept keys p a m (named_by p m) (Ok (decision_of p (dsm p a m))) refl refl).kept (by_named (named_by p m) refl)
  where
    by_named : (o : Option NamedKey) → named_by p m ≡ o → AreRanged (dsm_on p a m o)
    by_named None e = nothing_ranged _
    by_named (Some n) e =
        let r : IsRecord n.key = key_in_range keys_in_range p n.key w (named_stands keys p m n e) in
        record {
          edits = λ _. disconnected_in_range links keys links_in_range keys_in_range p m.originator n.key w i r;
          reply = λ _. coded_short short (dsm_response p n.key) (full_name p.own n.key) n.key.value (r.peer, (w.own, (r.name, tt))) (lit≤ tt);
          answer = tt;
        }

-- error messages

raised_in_range : (p : Party) (o : Option LinkRec) (ctr : Option ℕ) → IfSome o (LinkStands p) → IfSome ctr IsCount → AllInRange (raised o ctr)
raised_in_range p None ctr st c = tt
raised_in_range p (Some l) None st c = tt
raised_in_range p (Some l) (Some n) st c = (with_next l (max l.next n) st.range (greater_next l.next n st.range.next c), tt)

asked_in_range : (p : Party) (m : Esm) (value : ℕ) (o : Option Retry) → IsIdent m.originator → IfSome o IsRetry → IsAskedShort p m value o → AllInRange (asked_again p m value o)
asked_in_range p m value None i r s = tt
asked_in_range p m value (Some t) i r s = (record { peer = r.centre; kind = i; text = s }, tt)

again_short : (p : Party) (m : Esm) (value : ℕ) (o : Option Retry) → IsAskedShort p m value o → IsShort (again_reply p m value o)
again_short p m value None s = tt
again_short p m value (Some t) s = s

pub esm_ranged : CanonShort → LinksFound → KeysFound → LinksInRange → KeysInRange → ExchangesInRange → (p : Party) (a : Arrival) (m : Esm) → IsParty p → IsHeard m → IfSome m.ctr IsCount → IsRanged p (decision_of p (error p a m))
esm_ranged short links keys links_in_range keys_in_range in_range p a m w g c =
    row_ranged p (error p a m) (esm_kept links keys links_in_range in_range short p a m (Ok (decision_of p (error p a m))) w g c refl).kept (by_closing (is_plain a.parsed.shut))
  where
    -- what stands behind the key, or the two, that end
    behind : (value : ℕ) (again : Option Retry) → IfSome again IsRetry → AllInRange (DropExchange m.originator ∷ asked_again p m value again)
    behind value again r = (g.originator, asked_in_range p m value again g.originator r (asked_short short p m value again w g r))

    about : (s : ErrorSubject) (again : Option Retry) (ends : List Edit) → IfSome again IsRetry → AllInRange ends → AllInRange (raised (subject_link p m.originator s) m.ctr ++ (ends ++ DropExchange m.originator ∷ asked_again p m (subject_value s) again))
    about s again ends r e = append_in_range (raised (subject_link p m.originator s) m.ctr) (ends ++ DropExchange m.originator ∷ asked_again p m (subject_value s) again)
        (raised_in_range p (subject_link p m.originator s) m.ctr (counted_stands links links_in_range p m.originator s w) c)
        (append_in_range ends (DropExchange m.originator ∷ asked_again p m (subject_value s) again) e (behind (subject_value s) again r))

    writes : (value : ℕ) (again : Option Retry) → IfSome again IsRetry → IsShort (again_reply p m value again)
    writes value again r = again_short p m value again (asked_short short p m value again w g r)

    by_stands : (s : ErrorSubject) → SubjectStands p s → AreRanged (error_row p a m s (retry_of p s m.ctr))
    by_stands (SentKey x) st =
        let r : IfSome (retry_by p x.via m.ctr) IsRetry = is_retry p x.via m.ctr st.1 c in
        let key : IsRecord x.key = key_in_range keys_in_range p x.key w st.0 in
        record {
          edits = λ _. about (SentKey x) (retry_by p x.via m.ctr) (dropped (new_link p m.originator x.via) ++ PutKey (record x.key { status = Ended }) ∷ []) r
              (append_in_range (dropped (new_link p m.originator x.via)) (PutKey (record x.key { status = Ended }) ∷ []) (dropped_in_range links links_in_range p m.originator x.via w) (with_status x.key Ended key, tt));
          reply = λ _. writes x.key.value (retry_by p x.via m.ctr) r;
          answer = tt;
        }
    by_stands (SentTwins t) st = record {
      edits = λ _. about (SentTwins t) None (PutKey (record t.first { status = Ended }) ∷ PutKey (record t.second { status = Ended }) ∷ []) tt
          (with_status t.first Ended (key_in_range keys_in_range p t.first w st.first), (with_status t.second Ended (key_in_range keys_in_range p t.second w st.second), tt));
      reply = λ _. tt;
      answer = tt;
    }
    by_stands (Translated value cta) st = record { edits = λ _. about (Translated value cta) None [] tt tt; reply = λ _. tt; answer = tt }

    by_subject : (o : Option ErrorSubject) → subject_with p m.originator ≡ o → AreRanged (error_of p a m o (retry_in p o m.ctr))
    by_subject None e = nothing_ranged _
    by_subject (Some s) e = by_stands s (subject_stands keys in_range p m.originator s w e)

    by_closing : (b : Bool) → AreRanged (error_with p a m b (retry_in p (subject_with p m.originator) m.ctr))
    by_closing true = record { edits = λ _. tt; reply = λ _. tt; answer = tt }
    by_closing false = by_subject (subject_with p m.originator) refl
