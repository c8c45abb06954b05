-- Agreement: an error message arrives, and a centre may be asked again.
use Rattle.world_laws.proofs.Agreeing.Moves.{Backed}
use Rattle.std.proofs.Common.{◌≡◌, inl, ℕ, Bool, true, false, Option, Some, None, List, [], ◌∷◌, ◌++◌, refl, bytes_eq}
use Rattle.party_tables.specs.declared.link.LinkKey.{LinkKey}
use Rattle.party_tables.specs.declared.link.LinkRec.{LinkRec}
use Rattle.party_tables.specs.declared.key.KeyRec.{KeyRec}
use Rattle.party_tables.specs.declared.key.KeyStatus.TheVariants.{Ended}
use Rattle.party_tables.specs.declared.exchange.Exchange.{Exchange}
use Rattle.party_tables.specs.declared.exchange.Kind.TheVariants as kind
use Rattle.party_tables.specs.Tables.{put_row}
use Rattle.party_tables.specs.Keys.{same_record, record_key, exchange_key}
use Rattle.party_tables.specs.Names.{full_name}
use Rattle.party_state.specs.State.{Party, apply}
use Rattle.member.specs.Member.{Member}
use Rattle.world_laws.specs.World.{member_at}
use Rattle.world_laws.proofs.Links.Growth.{PartyGrows}
use Rattle.party_tables.specs.Tables.{drop_row}
use Rattle.world_laws.proofs.Agreeing.Lists.{WaitsMove}
use Rattle.world_laws.proofs.Agreeing.Waiting.{AllSent}
use Rattle.world_laws.proofs.Links.Growth.{PartyGrows}
use Rattle.world_laws.proofs.Agreeing.Moves.{RepliesOk, FreshReply, AcceptsOk, Agreeing}
use Rattle.world_laws.proofs.Agreeing.Lists.{Lists, lists_after}
use Rattle.world_laws.proofs.Agreeing.KeyRecords.{unmoved}
use Rattle.world_laws.proofs.Agreeing.Waiting.{AllSent}
use Rattle.world_laws.proofs.Agreeing.Exchanges.{SentIs}
use Rattle.world_laws.proofs.Agreeing.Agreed.{Agreed}
use Rattle.party_state.specs.declared.edit.Edit.TheVariants.{PutKey}
use Rattle.party_state.specs.Verdicts.{verdict_of}
use Rattle.role_base.specs.Texts.{text_of}
use Rattle.world_laws.proofs.Links.Growth.{change_grows}
use Rattle.world_laws.proofs.Counting.Sound.{IsSound}
use Rattle.world_laws.proofs.Agreeing.KeyRecords.{one, unmoved}
use Rattle.world_laws.proofs.Agreeing.Lists.{WaitsMove}
use Rattle.world_laws.proofs.Agreeing.Exchanges.{waits_drop, waits_both, news_drop, news_both, sent_drop, sent_drop_two, sent_both, sent_less, SentIs, sent_is, TwinsIs, twins_is, twins_apart}
use Rattle.bank_arrivals.proofs.ArrivalsApart.{subject_twins}
use Rattle.world_laws.proofs.Agreeing.KeyRecords.{two}
use Rattle.world_laws.proofs.Agreeing.Steps.{twins_ended}
use Rattle.world_laws.proofs.Agreeing.Backs.{passes_backed}
use Rattle.world_laws.proofs.Agreeing.Steps.{plain, with_status, ended_fine, still_agreeing, refused_agreeing}
use Rattle.party_tables.specs.Tables.{drop_row}
use Rattle.party_state.specs.declared.edit.Edit.TheVariants.{DropExchange}
use Rattle.csm_grammar.specs.declared.arrival.Arrival.{Arrival}
use Rattle.csm_grammar.specs.Arrivals.{authenticated_text}
use Rattle.role_base.specs.Exchanges.{new_link, dropped}
use Rattle.party_state.specs.Rows.{OfEsm}
use Rattle.csm_grammar.specs.declared.message.Esm.{Esm}
use Rattle.bank_arrivals.specs.declared.error_message.ErrorSubject.{ErrorSubject}
use Rattle.bank_arrivals.specs.declared.error_message.ErrorSubject.TheVariants.{SentKey, SentTwins, Translated}
use Rattle.bank_arrivals.specs.Esm.{subject_with, subject_link, raised, esm_front, plain_esm}
use Rattle.bank_arrivals.specs.declared.asking_again.Retry.{Retry}
use Rattle.bank_arrivals.specs.AskingAgain.{ers_reply, asked_again, again_reply, retry_in}
use Rattle.bank_arrivals.specs.Esm.{error_row, error_of, error_with}
use Rattle.world_laws.proofs.Links.Waiting.{Waits}
use Rattle.world_laws.proofs.Sound.Arrivals.{error_passes}
use Rattle.world_laws.proofs.Sound.Exchanges.{subject_sent}
use Rattle.change_code.specs.declared.space.Space.{Space}

-- what raising the count and giving up leave, with an exchange that may come

data GivenUp (s t : Party) (m : Esm) (value : ℕ) : Type 0 where
  quietly : t.exchanges ≡ drop_row exchange_key bytes_eq m.originator s.exchanges → GivenUp s t m value
  again : (r : Retry) → t.exchanges ≡ put_row exchange_key bytes_eq (record { peer = r.centre; kind = kind.Asked m.originator; text = text_of (ers_reply s m value r) }) (drop_row exchange_key bytes_eq m.originator s.exchanges) → GivenUp s t m value

-- a centre is asked again about a key that was sent alone
abbrev pub AsksFor : Option ErrorSubject → Option Retry → Type 0
AsksFor None retry = Unit {0}
AsksFor (Some (SentKey s)) retry = Unit {0}
AsksFor (Some (SentTwins t)) retry = retry ≡ None
AsksFor (Some (Translated value cta)) retry = retry ≡ None

pub asks_for : (p : Party) (o : Option ErrorSubject) (ctr : Option ℕ) → AsksFor o (retry_in p o ctr)
asks_for p None ctr = tt
asks_for p (Some (SentKey s)) ctr = tt
asks_for p (Some (SentTwins t)) ctr = refl
asks_for p (Some (Translated value cta)) ctr = refl

given_parts : (s : Party) (m : Esm) (value : ℕ) (link : Option LinkRec) (ctr : Option ℕ) (l : Option LinkRec) (k : KeyRec) (r : Option Retry)
    → ((apply (raised link ctr ++ ((dropped l ++ PutKey k ∷ []) ++ DropExchange m.originator ∷ asked_again s m value r)) s).keys ≡ put_row record_key same_record k s.keys) × GivenUp s (apply (raised link ctr ++ ((dropped l ++ PutKey k ∷ []) ++ DropExchange m.originator ∷ asked_again s m value r)) s) m value
given_parts s m value None ctr None k None = (refl, quietly refl)
given_parts s m value None ctr None k (Some r) = (refl, again r refl)
given_parts s m value None ctr (Some l) k None = (refl, quietly refl)
given_parts s m value None ctr (Some l) k (Some r) = (refl, again r refl)
given_parts s m value (Some j) None None k None = (refl, quietly refl)
given_parts s m value (Some j) None None k (Some r) = (refl, again r refl)
given_parts s m value (Some j) None (Some l) k None = (refl, quietly refl)
given_parts s m value (Some j) None (Some l) k (Some r) = (refl, again r refl)
given_parts s m value (Some j) (Some n) None k None = (refl, quietly refl)
given_parts s m value (Some j) (Some n) None k (Some r) = (refl, again r refl)
given_parts s m value (Some j) (Some n) (Some l) k None = (refl, quietly refl)
given_parts s m value (Some j) (Some n) (Some l) k (Some r) = (refl, again r refl)

alone_parts : (s : Party) (peer : List ℕ) (link : Option LinkRec) (ctr : Option ℕ) → ((apply (raised link ctr ++ DropExchange peer ∷ []) s).keys ≡ s.keys) × ((apply (raised link ctr ++ DropExchange peer ∷ []) s).exchanges ≡ drop_row exchange_key bytes_eq peer s.exchanges)
alone_parts s peer None ctr = (refl, refl)
alone_parts s peer (Some l) None = (refl, refl)
alone_parts s peer (Some l) (Some n) = (refl, refl)

twice_parts : (s : Party) (peer : List ℕ) (link : Option LinkRec) (ctr : Option ℕ) (j k : KeyRec) → ((apply (raised link ctr ++ ((PutKey j ∷ PutKey k ∷ []) ++ DropExchange peer ∷ [])) s).keys ≡ put_row record_key same_record k (put_row record_key same_record j s.keys)) × ((apply (raised link ctr ++ ((PutKey j ∷ PutKey k ∷ []) ++ DropExchange peer ∷ [])) s).exchanges ≡ drop_row exchange_key bytes_eq peer s.exchanges)
twice_parts s peer None ctr j k = (refl, refl)
twice_parts s peer (Some l) None j k = (refl, refl)
twice_parts s peer (Some l) (Some n) j k = (refl, refl)

module _ (v : Lists) (p : List ℕ) (x : Member) (space : Space) (at : member_at p v.members ≡ Some x) (i : Agreed v) (w : Waits x.party) where
  sent : AllSent x.party
  sent = i.sent p x at

  again_ok : (a : Arrival) (m : Esm) (value : ℕ) (w : Lists) (r : Option Retry) → RepliesOk w x.party.own (again_reply x.party m value r)
  again_ok a m value w None = tt
  again_ok a m value w (Some r) = tt

  again_new : (m : Esm) (value : ℕ) (r : Option Retry) → FreshReply v.facts x.party (again_reply x.party m value r)
  again_new m value None = tt
  again_new m value (Some r) = tt

  error_agreeing : (o : Option LinkKey) (a : Arrival) (m : Esm) (found : Option ErrorSubject) (again_is : Option Retry) → AsksFor found again_is → subject_with x.party m.originator ≡ found → IsSound o x.party (authenticated_text a) (error_of x.party a m found again_is) → Agreeing v x space (authenticated_text a) (error_of x.party a m found again_is)
  error_agreeing o a m None again_is fits e sound = refused_agreeing v p x space at i (authenticated_text a) (verdict_of (esm_front x.party m None))
  error_agreeing o a m (Some (Translated value cta)) (Some r) fits e sound = absurd (cc)
  error_agreeing o a m (Some (Translated value cta)) None fits e sound =
      let parts = alone_parts x.party m.originator (subject_link x.party m.originator (Translated value cta)) m.ctr in
      let grown : PartyGrows o x.party (apply (error_row x.party a m (Translated value cta) None).edits x.party) = change_grows o (error_row x.party a m (Translated value cta) None).edits x.party sound.edits in
      record {
        back = passes_backed v.members x.party (error_row x.party a m (Translated value cta) None).edits (error_passes x.party a m (Translated value cta) None w e);
        news = news_drop x.party (apply (error_row x.party a m (Translated value cta) None).edits x.party) m.originator parts.1;
        keys = unmoved parts.0;
        exchanges = sent_less x.party (apply (error_row x.party a m (Translated value cta) None).edits x.party) m.originator grown.own parts.1 parts.0 sent;
        waits = waits_drop x.party (apply (error_row x.party a m (Translated value cta) None).edits x.party) m.originator parts.1;
        replies = tt;
        new = tt;
        accepts = tt;
      }
  error_agreeing o a m (Some (SentTwins t)) (Some r) fits e sound = absurd (cc)
  error_agreeing o a m (Some (SentTwins t)) None fits e sound =
      let parts = twice_parts x.party m.originator (subject_link x.party m.originator (SentTwins t)) m.ctr (with_status t.first Ended) (with_status t.second Ended) in
      let grown : PartyGrows o x.party (apply (error_row x.party a m (SentTwins t) None).edits x.party) = change_grows o (error_row x.party a m (SentTwins t) None).edits x.party sound.edits in
      let is : TwinsIs x.party m.originator t = twins_is x.party m.originator t (subject_twins x.party m.originator t e) in
      let moved : WaitsMove x.party (apply (error_row x.party a m (SentTwins t) None).edits x.party) = waits_drop x.party (apply (error_row x.party a m (SentTwins t) None).edits x.party) m.originator parts.1 in
      let fine = twins_ended v p x space at i o (authenticated_text a) (error_row x.party a m (SentTwins t) None) m.originator t grown moved is in
      record {
        back = passes_backed v.members x.party (error_row x.party a m (SentTwins t) None).edits (error_passes x.party a m (SentTwins t) None w e);
        news = news_drop x.party (apply (error_row x.party a m (SentTwins t) None).edits x.party) m.originator parts.1;
        keys = two (with_status t.first Ended) (with_status t.second Ended) (twins_apart x.party m.originator t is) parts.0 fine.0 fine.1;
        exchanges = sent_drop_two x.party (apply (error_row x.party a m (SentTwins t) None).edits x.party) m.originator (with_status t.first Ended) (with_status t.second Ended) grown.own parts.1 parts.0 is.peer_is is.other_peer sent;
        waits = moved;
        replies = tt;
        new = tt;
        accepts = plain (lists_after v x space (authenticated_text a) (error_row x.party a m (SentTwins t) None)) x.party.own (authenticated_text a) OfEsm (full_name x.party.own t.first ∷ full_name x.party.own t.second ∷ []) (λ g. cc) (λ g. cc) (λ g. cc);
      }
  error_agreeing o a m (Some (SentKey y)) again_is fits e sound = go parts.1
    where
      parts : ((apply (error_row x.party a m (SentKey y) again_is).edits x.party).keys ≡ put_row record_key same_record (with_status y.key Ended) x.party.keys) × GivenUp x.party (apply (error_row x.party a m (SentKey y) again_is).edits x.party) m y.key.value
      parts = given_parts x.party m y.key.value (subject_link x.party m.originator (SentKey y)) m.ctr (new_link x.party m.originator y.via) (with_status y.key Ended) again_is

      grown : PartyGrows o x.party (apply (error_row x.party a m (SentKey y) again_is).edits x.party)
      grown = change_grows o (error_row x.party a m (SentKey y) again_is).edits x.party sound.edits

      is : SentIs x.party m.originator y
      is = sent_is x.party m.originator y (subject_sent x.party m.originator y e)

      back : Backed v.members x.party (apply (error_row x.party a m (SentKey y) again_is).edits x.party)
      back = passes_backed v.members x.party (error_row x.party a m (SentKey y) again_is).edits (error_passes x.party a m (SentKey y) again_is w e)

      accepts : AcceptsOk (lists_after v x space (authenticated_text a) (error_row x.party a m (SentKey y) again_is)) x.party.own (authenticated_text a) (Some (record { class = OfEsm; names = full_name x.party.own y.key ∷ [] }))
      accepts = plain (lists_after v x space (authenticated_text a) (error_row x.party a m (SentKey y) again_is)) x.party.own (authenticated_text a) OfEsm (full_name x.party.own y.key ∷ []) (λ g. cc) (λ g. cc) (λ g. cc)

      go : GivenUp x.party (apply (error_row x.party a m (SentKey y) again_is).edits x.party) m y.key.value → Agreeing v x space (authenticated_text a) (error_row x.party a m (SentKey y) again_is)
      go (quietly ex) =
          let moved : WaitsMove x.party (apply (error_row x.party a m (SentKey y) again_is).edits x.party) = waits_drop x.party (apply (error_row x.party a m (SentKey y) again_is).edits x.party) m.originator ex in
          record {
            back = back;
            news = news_drop x.party (apply (error_row x.party a m (SentKey y) again_is).edits x.party) m.originator ex;
            keys = one (with_status y.key Ended) parts.0 (ended_fine v p x space at i o (authenticated_text a) (error_row x.party a m (SentKey y) again_is) m.originator y grown moved is);
            exchanges = sent_drop x.party (apply (error_row x.party a m (SentKey y) again_is).edits x.party) m.originator (with_status y.key Ended) grown.own ex parts.0 is.peer_is sent;
            waits = moved;
            replies = again_ok a m y.key.value (lists_after v x space (authenticated_text a) (error_row x.party a m (SentKey y) again_is)) again_is;
            new = again_new m y.key.value again_is;
            accepts = accepts;
          }
      go (again r ex) =
          let n : Exchange = record { peer = r.centre; kind = kind.Asked m.originator; text = text_of (ers_reply x.party m y.key.value r) } in
          let moved : WaitsMove x.party (apply (error_row x.party a m (SentKey y) again_is).edits x.party) = waits_both x.party (apply (error_row x.party a m (SentKey y) again_is).edits x.party) m.originator n ex refl in
          record {
            back = back;
            news = news_both x.party (apply (error_row x.party a m (SentKey y) again_is).edits x.party) m.originator n ex refl;
            keys = one (with_status y.key Ended) parts.0 (ended_fine v p x space at i o (authenticated_text a) (error_row x.party a m (SentKey y) again_is) m.originator y grown moved is);
            exchanges = sent_both x.party (apply (error_row x.party a m (SentKey y) again_is).edits x.party) m.originator n (with_status y.key Ended) grown.own ex parts.0 (inl is.peer_is) (λ name q. absurd (cc)) refl sent;
            waits = moved;
            replies = again_ok a m y.key.value (lists_after v x space (authenticated_text a) (error_row x.party a m (SentKey y) again_is)) again_is;
            new = again_new m y.key.value again_is;
            accepts = accepts;
          }

  -- one that is closed by an error detection code changes nothing
  pub error_row_agreeing : (o : Option LinkKey) (a : Arrival) (m : Esm) (b : Bool) (again_is : Option Retry) → AsksFor (subject_with x.party m.originator) again_is → IsSound o x.party (authenticated_text a) (error_with x.party a m b again_is) → Agreeing v x space (authenticated_text a) (error_with x.party a m b again_is)
  error_row_agreeing o a m true again_is fits sound = still_agreeing v p x space at i (authenticated_text a) (plain_esm x.party a m) refl tt tt tt
  error_row_agreeing o a m false again_is fits sound = error_agreeing o a m (subject_with x.party m.originator) again_is fits refl sound
