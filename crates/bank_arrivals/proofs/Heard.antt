-- What an accepted response or disconnection says.
use Rattle.std.proofs.Common.{◌≡◌, ◌≢◌, ◌⊎◌, inl, inr, ℕ, Bool, true, false, cond, Option, Some, None, List, [], ◌∷◌, ◌++◌, refl, sym, ap, ◌∙◌}
use Rattle.std.proofs.lemmas.Bool.{both_ways}
use Rattle.x_base.specs.declared.key_name.KeyName.{KeyName}
use Rattle.x_base.specs.declared.verdict.Verdict.TheVariants.{Accept, BadMac}
use Rattle.csm_grammar.specs.declared.message.Rsm.{Rsm}
use Rattle.csm_grammar.specs.declared.message.Dsm.{Dsm}
use Rattle.csm_grammar.specs.declared.arrival.Arrival.{Arrival}
use Rattle.party_tables.specs.declared.link.LinkRec.{LinkRec}
use Rattle.party_tables.specs.declared.key.KeyRec.{KeyRec}
use Rattle.party_tables.specs.declared.key.RecordKey.{RecordKey}
use Rattle.party_tables.specs.declared.key.KeyStatus.{KeyStatus}
use Rattle.party_tables.specs.declared.key.KeyStatus.TheVariants.{Live, Ended}
use Rattle.party_tables.specs.declared.exchange.Via.{Via}
use Rattle.party_tables.specs.declared.exchange.Via.TheVariants as vias
use Rattle.party_tables.specs.declared.exchange.Kind.{Kind}
use Rattle.party_tables.specs.declared.exchange.Kind.TheVariants as kind
use Rattle.party_tables.specs.declared.exchange.Exchange.{Exchange}
use Rattle.party_state.specs.declared.edit.Edit.{Edit}
use Rattle.party_state.specs.declared.edit.Edit.TheVariants.{PutKey, DropExchange}
use Rattle.party_tables.specs.Keys.{record_key, same_name}
use Rattle.party_tables.specs.Statuses.{is_ended}
use Rattle.party_state.specs.State.{Party, exchange_with, apply_edit, apply}
use Rattle.party_tables.specs.Names.{full_name}
use Rattle.party_state.specs.Rows.{Reply, Coded}
use Rattle.party_state.specs.Verdicts.{TestsHold}
use Rattle.party_tables.specs.Names.{name_behind}
use Rattle.role_base.proofs.TwinKeys.{records_apart}
use Rattle.role_base.specs.declared.exchanges.Sent.{Sent}
use Rattle.role_base.specs.declared.exchanges.Twins.{Twins}
use Rattle.role_base.specs.Texts.{is_verified}
use Rattle.role_base.specs.Exchanges.{record_of, sent_to, twins_to, twins_value, ending_with, new_link, readied, dropped, ended}
use Rattle.role_base.proofs.PartyLaws.{HeldAtAccept, LinkLaws, KeyLaws, ExchangeLaws, exchange_dropped}
use Rattle.bank_arrivals.specs.Rsm.{rsm_front, twins_front, end_front, rsm_to, rsm_twins, rsm_by, answer_to, rsm_with, rsm}
use Rattle.bank_arrivals.specs.Dsm.{paired, code_name, dsm_front, left_by, left_in, disconnected, dsm_response, dsm_on, dsm}
use Rattle.bank_arrivals.specs.Heard.{HasKey, HasLink, HeardResponse, HeardResponseToTwo, HeardEnd, HeardDisconnection}
use Rattle.bank_arrivals.proofs.BothEnd.{ended_is, apart_behind, apart_before, second_ends, first_ends}
use Rattle.bank_arrivals.proofs.About.{put_found, put_beside, put_link_found, is_to, FoundSent, found_sent, FoundTwins, found_twins, FoundEnding, found_ending}

module _ (held : HeldAtAccept) (of_links : LinkLaws) (of_keys : KeyLaws) (of_exchanges : ExchangeLaws) where
  -- responses

  heard_sent : (p : Party) (a : Arrival) (m : Rsm) (o : Option Sent) → sent_to p m.originator ≡ o → (rsm_to p a m o).verdict ≡ Accept → HeardResponse p (apply (rsm_to p a m o).edits p) a m
  heard_sent p a m None f e = let h : TestsHold (rsm_front p m None) = held (rsm_front p m None) refl e in absurd (both_ways false refl h.1.0)
  heard_sent p a m (Some s) f e =
      let h : TestsHold (rsm_front p m (Some s) ++ (is_verified a s.key.value, BadMac) ∷ []) = held (rsm_front p m (Some s) ++ (is_verified a s.key.value, BadMac) ∷ []) refl e in
      let d : FoundSent p m.originator s = found_sent p m.originator s f in
      record {
        to = is_to p m.receiver m.originator h.0;
        name = d.name;
        via = s.via;
        key = s.key;
        sent = d.sent;
        stands = d.stands;
        code = h.1.1.0;
        live = live d (new_link p m.originator s.via);
        ready = ready;
        over = over (new_link p m.originator s.via);
      }
    where
      lives : KeyRec
      lives = record s.key { status = Live }

      live : (d : FoundSent p m.originator s) (l : Option LinkRec) → HasKey (apply (readied l ++ PutKey lives ∷ DropExchange m.originator ∷ []) p) m.originator d.name lives
      live d None = put_found of_keys p m.originator d.name s.key lives d.stands refl
      live d (Some l) = put_found of_keys p m.originator d.name s.key lives d.stands refl

      ready : (label new : List ℕ) (l : LinkRec) → s.via ≡ vias.Direct label (Some new) → HasLink p m.originator new l → HasLink (apply (readied (new_link p m.originator s.via) ++ PutKey lives ∷ DropExchange m.originator ∷ []) p) m.originator new (record l { ready = true })
      ready label new l w f =
          let is : new_link p m.originator s.via ≡ Some l = ap (λ (y : Via). new_link p m.originator y) w ∙ f in
          rw is (put_link_found of_links p m.originator new l (record l { ready = true }) f refl)

      over : (l : Option LinkRec) → exchange_with m.originator (apply (readied l ++ PutKey lives ∷ DropExchange m.originator ∷ []) p) ≡ None
      over None = exchange_dropped of_exchanges m.originator p
      over (Some l) = exchange_dropped of_exchanges m.originator p

  heard_twins : (p : Party) (a : Arrival) (m : Rsm) (t : Twins) → twins_to p m.originator ≡ Some t → (rsm_twins p a m t).verdict ≡ Accept → HeardResponseToTwo p (apply (rsm_twins p a m t).edits p) a m
  heard_twins p a m t f e =
      let h : TestsHold (twins_front p m ++ (is_verified a (twins_value t), BadMac) ∷ []) = held (twins_front p m ++ (is_verified a (twins_value t), BadMac) ∷ []) refl e in
      let d : FoundTwins p m.originator t = found_twins p m.originator t f in
      let ne : record_key t.second ≢ record_key t.first = records_apart of_keys.found p m.originator d.name t.first t.second d.first d.second in
      let first : KeyRec = record t.first { status = Live } in
      let second : KeyRec = record t.second { status = Live } in
      record {
        to = is_to p m.receiver m.originator h.0;
        name = d.name;
        first = t.first;
        second = t.second;
        together = record { sent = d.sent; first_stands = d.first; second_stands = d.second; code = h.1.1.0 };
        first_live = put_beside of_keys (apply_edit (PutKey first) p) m.originator d.name first second (put_found of_keys p m.originator d.name t.first first d.first refl) ne;
        second_live = put_found of_keys (apply_edit (PutKey first) p) m.originator (name_behind d.name) t.second second (put_beside of_keys p m.originator (name_behind d.name) t.second first d.second (λ i. ne (sym i))) refl;
        over = exchange_dropped of_exchanges m.originator p;
      }

  heard_by : (p : Party) (a : Arrival) (m : Rsm) (o : Option Twins) → twins_to p m.originator ≡ o → (rsm_by p a m o).verdict ≡ Accept → HeardResponse p (apply (rsm_by p a m o).edits p) a m ⊎ HeardResponseToTwo p (apply (rsm_by p a m o).edits p) a m
  heard_by p a m None f e = inl (heard_sent p a m (sent_to p m.originator) refl e)
  heard_by p a m (Some t) f e = inr (heard_twins p a m t f e)

  pub heard_response : (p : Party) (a : Arrival) (m : Rsm) → m.idd ≡ None → (rsm p a m).verdict ≡ Accept → HeardResponse p (apply (rsm p a m).edits p) a m ⊎ HeardResponseToTwo p (apply (rsm p a m).edits p) a m
  heard_response p a m i e =
      let r : rsm p a m ≡ rsm_by p a m (twins_to p m.originator) = ap (λ (o : Option KeyName). rsm_with p a m o) i in
      rw r (heard_by p a m (twins_to p m.originator) refl (rw r at e))

  heard_ending : (p : Party) (a : Arrival) (m : Rsm) (idd : KeyName) (o : Option KeyRec) → ending_with p m.originator ≡ o → (answer_to p a m idd o).verdict ≡ Accept → HeardEnd p (apply (answer_to p a m idd o).edits p) a m idd
  heard_ending p a m idd None f e = let h : TestsHold (end_front p m idd None) = held (end_front p m idd None) refl e in absurd (both_ways false refl h.1.0)
  heard_ending p a m idd (Some k) f e =
      let h : TestsHold (end_front p m idd (Some k) ++ (is_verified a k.value, BadMac) ∷ []) = held (end_front p m idd (Some k) ++ (is_verified a k.value, BadMac) ∷ []) refl e in
      let d : FoundEnding p m.originator k = found_ending p m.originator k f in
      let named : idd ≡ k.name = ap (λ (x : RecordKey). x.name) ((of_keys.same (record { peer = []; name = idd }) (record { peer = []; name = k.name })).0 h.1.0) in
      let key : RecordKey = record { peer = m.originator; name = d.name } in
      let kept : key ≡ record_key k = of_keys.found key k p d.stands in
      let same : d.name ≡ idd = ap (λ (x : RecordKey). x.name) kept ∙ sym named in
      let stands : HasKey p m.originator idd k = rw same at d.stands in
      record {
        to = is_to p m.receiver m.originator h.0;
        key = k;
        ending = rw same at d.ending;
        stands = stands;
        code = h.1.1.0;
        ended = put_found of_keys p m.originator idd k (record k { status = Ended }) stands refl;
        over = exchange_dropped of_exchanges m.originator p;
      }

  pub heard_end : (p : Party) (a : Arrival) (m : Rsm) (idd : KeyName) → m.idd ≡ Some idd → (rsm p a m).verdict ≡ Accept → HeardEnd p (apply (rsm p a m).edits p) a m idd
  heard_end p a m idd i e =
      let r : rsm p a m ≡ answer_to p a m idd (ending_with p m.originator) = ap (λ (o : Option KeyName). rsm_with p a m o) i in
      rw r (heard_ending p a m idd (ending_with p m.originator) refl (rw r at e))

  -- disconnections

  key_ends : (p : Party) (peer : List ℕ) (name : KeyName) (k : KeyRec) → HasKey p peer name k → HasKey (apply (disconnected p peer k) p) peer name (record k { status = Ended })
  key_ends p peer name k st = by_status (is_ended k.status) refl
    where
      ends : KeyRec
      ends = record k { status = Ended }

      put : HasKey (apply_edit (PutKey ends) p) peer name ends
      put = put_found of_keys p peer name k ends st refl

      by_link : (l : Option LinkRec) (b : Bool) → (let g : List Edit × List Edit = cond b (dropped l, DropExchange peer ∷ []) ([], []) in HasKey (apply (g.0 ++ (PutKey ends ∷ g.1)) p) peer name ends)
      by_link None true = put
      by_link (Some l) true = put
      by_link l false = put

      by_names : (sent : KeyName) (i j : Option KeyRec) → record_of p peer sent ≡ i → record_of p peer (name_behind sent) ≡ j → (b c : Bool) → same_name k.name sent ≡ b → same_name k.name (name_behind sent) ≡ c
          → (let g : List Edit × List Edit = cond b ([], ended j ++ DropExchange peer ∷ []) (cond c (ended i, DropExchange peer ∷ []) ([], [])) in HasKey (apply (g.0 ++ (PutKey ends ∷ g.1)) p) peer name ends)
      by_names sent i None f g true c b_is c_is = put
      by_names sent i (Some x) f g true c b_is c_is = put_beside of_keys (apply_edit (PutKey ends) p) peer name ends (record x { status = Ended }) put (apart_behind of_keys p peer sent k x b_is g)
      by_names sent None j f g false true b_is c_is = put
      by_names sent (Some x) j f g false true b_is c_is =
          put_found of_keys (apply_edit (PutKey (record x { status = Ended })) p) peer name k ends (put_beside of_keys p peer name k (record x { status = Ended }) st (apart_before of_keys p peer sent k x c_is f)) refl
      by_names sent i j f g false false b_is c_is = put

      by_kind : (x : Kind) → (let g : List Edit × List Edit = left_by p peer k.name x in HasKey (apply (g.0 ++ (PutKey ends ∷ g.1)) p) peer name ends)
      by_kind (kind.KeySent sent via) = by_link (new_link p peer via) (same_name k.name sent)
      by_kind (kind.Ending ending) = by_link None (same_name k.name ending)
      by_kind (kind.Asked ultimate) = put
      by_kind (kind.Translating ultimate value cta) = put
      by_kind (kind.PairSent sent) = by_names sent (record_of p peer sent) (record_of p peer (name_behind sent)) refl refl (same_name k.name sent) (same_name k.name (name_behind sent)) refl refl

      by_exchange : (o : Option Exchange) → (let g : List Edit × List Edit = left_in p peer k.name o in HasKey (apply (g.0 ++ (PutKey ends ∷ g.1)) p) peer name ends)
      by_exchange None = put
      by_exchange (Some e) = by_kind e.kind

      by_status : (b : Bool) → is_ended k.status ≡ b → (let g : List Edit × List Edit = left_in p peer k.name (exchange_with peer p) in HasKey (apply (cond b [] (g.0 ++ (PutKey ends ∷ g.1))) p) peer name ends)
      by_status true e = st ∙ ap (λ (x : KeyRec). Some x) (ended_is k e)
      by_status false e = by_exchange (exchange_with peer p)

  -- of a key that ended before nothing changes
  nothing : (p : Party) (peer : List ℕ) (k : KeyRec) → k.status ≡ Ended → apply (disconnected p peer k) p ≡ p
  nothing p peer k e =
      let g : List Edit × List Edit = left_in p peer k.name (exchange_with peer p) in
      ap (λ (s : KeyStatus). apply (cond (is_ended s) [] (g.0 ++ (PutKey (record k { status = Ended }) ∷ g.1))) p) e

  heard_named : (p : Party) (a : Arrival) (m : Dsm) (o b : Option KeyRec) → record_of p m.originator m.idd ≡ o → record_of p m.originator (code_name m.idd m.ida) ≡ b → (dsm_on p a m (paired o b)).verdict ≡ Accept → HeardDisconnection p (apply (dsm_on p a m (paired o b)).edits p) a m (dsm_on p a m (paired o b))
  heard_named p a m None b f g e = let h : TestsHold (dsm_front p m false) = held (dsm_front p m false) refl e in absurd (both_ways false refl h.1.0)
  heard_named p a m (Some k) None f g e = let h : TestsHold (dsm_front p m false) = held (dsm_front p m false) refl e in absurd (both_ways false refl h.1.0)
  heard_named p a m (Some k) (Some b) f g e =
      let h : TestsHold (dsm_front p m true ++ (is_verified a b.value, BadMac) ∷ []) = held (dsm_front p m true ++ (is_verified a b.value, BadMac) ∷ []) refl e in
      let key : RecordKey = record { peer = m.originator; name = m.idd } in
      let kept : key ≡ record_key k = of_keys.found key k p f in
      record {
        to = is_to p m.receiver m.originator h.0;
        key = k;
        by = b;
        stands = f;
        closing = g;
        code = h.1.1.0;
        ended = key_ends p m.originator m.idd k f;
        before = nothing p m.originator k;
        second = λ x ne about g. second_ends of_keys of_exchanges p m.originator m.idd k x f ne about g;
        first = λ name x ne behind about g. first_ends of_keys of_exchanges p m.originator m.idd name k x f ne behind about g;
        written = ap (λ (x : RecordKey). Some (reply x)) (sym kept);
      }
    where
      reply : RecordKey → Reply
      reply x = Coded (dsm_response p (record k { peer = x.peer; name = x.name })) (full_name p.own k) k.value

  pub heard_disconnection : (p : Party) (a : Arrival) (m : Dsm) → (dsm p a m).verdict ≡ Accept → HeardDisconnection p (apply (dsm p a m).edits p) a m (dsm p a m)
  heard_disconnection p a m e = heard_named p a m (record_of p m.originator m.idd) (record_of p m.originator (code_name m.idd m.ida)) refl refl e
