-- Agreement: what is given up, ended and removed.
use Rattle.std.proofs.Common.{◌≡◌, ◌≢◌, inl, inr, ℕ, true, false, not, Option, Some, None, List, [], ◌∷◌, ◌++◌, refl, sym, ◌∙◌, ap, subst, bytes_eq}
use Rattle.x_base.specs.declared.key_name.KeyName.{KeyName}
use Rattle.party_tables.specs.declared.link.LinkKey.{LinkKey}
use Rattle.party_tables.specs.declared.link.LinkRec.{LinkRec}
use Rattle.party_tables.specs.declared.key.KeyRec.{KeyRec}
use Rattle.party_tables.specs.declared.key.KeyStatus.{KeyStatus}
use Rattle.party_tables.specs.declared.key.KeyStatus.TheVariants.{Pending, Live, Held, Closing, Ended}
use Rattle.party_tables.specs.declared.exchange.Exchange.{Exchange}
use Rattle.party_tables.specs.declared.exchange.Kind.{Kind}
use Rattle.party_tables.specs.declared.exchange.Kind.TheVariants as kind
use Rattle.party_tables.specs.Tables.{put_row}
use Rattle.party_tables.specs.Keys.{same_record, record_key, exchange_key}
use Rattle.party_tables.specs.Statuses.{is_ended}
use Rattle.party_state.specs.State.{Party, record_with, exchange_with, apply}
use Rattle.party_state.specs.Rows.{Row, OfKsm}
use Rattle.party_tables.proofs.Keys.{test_records}
use Rattle.party_tables.proofs.Distinct.{filter_back}
use Rattle.member.specs.Member.{Member}
use Rattle.world_laws.specs.World.{member_at}
use Rattle.world_laws.proofs.Links.Growth.{PartyGrows}
use Rattle.party_tables.specs.Tables.{drop_row}
use Rattle.party_tables.specs.declared.exchange.Via.{Via}
use Rattle.role_base.specs.declared.exchanges.Sent.{Sent}
use Rattle.role_base.specs.Exchanges.{record_of}
use Rattle.world_laws.proofs.Agreeing.Lists.{WaitsMove}
use Rattle.world_laws.proofs.Agreeing.Waiting.{NewsMove, AllSent}
use Rattle.world_laws.proofs.Links.Growth.{PartyGrows}
use Rattle.party_state.specs.declared.edit.Edit.{Edit}
use Rattle.world_laws.proofs.Agreeing.KeyRecords.{KeysMove, KeyFine, unmoved}
use Rattle.world_laws.proofs.Agreeing.Lists.{Counts, Lists, lists_after, to_peer, waits_stay}
use Rattle.world_laws.proofs.Agreeing.Waiting.{NewsMove, news_stay, AllSent}
use Rattle.world_laws.proofs.Agreeing.Moves.{Agreeing}
use Rattle.world_laws.proofs.Agreeing.Exchanges.{SentIs}
use Rattle.world_laws.proofs.Agreeing.Agreed.{Agreed}
use Rattle.party_state.specs.Verdicts.{verdict_of, is_accept}
use Rattle.party_state.proofs.Verdicts.{held}
use Rattle.role_base.specs.Texts.{text_of}
use Rattle.world_laws.proofs.Links.Growth.{change_grows}
use Rattle.world_laws.proofs.Counting.Sound.{IsSound}
use Rattle.world_laws.proofs.Agreeing.KeyRecords.{one, unmoved, purged}
use Rattle.world_laws.proofs.Agreeing.Lists.{WaitsMove, waits_stay}
use Rattle.world_laws.proofs.Agreeing.Waiting.{NewsMove, news_stay}
use Rattle.world_laws.proofs.Agreeing.Exchanges.{waits_drop, waits_put, news_drop, news_put, sent_drop, sent_drop_two, sent_put, sent_less, sent_same, record_is, SentIs}
use Rattle.world_laws.proofs.Agreeing.Backs.{backed, passes_backed}
use Rattle.world_laws.proofs.Agreeing.Steps.{with_status, class_later, status_fine, ended_fine, still_agreeing, refused_agreeing}
use Rattle.party_tables.specs.Tables.{drop_row}
use Rattle.party_state.specs.declared.edit.Edit.TheVariants.{PutKey, DropExchange}
use Rattle.party_tables.specs.Names.{name_behind}
use Rattle.role_base.proofs.TwinKeys.{behind_other}
use Rattle.world_laws.proofs.Agreeing.Waiting.{sent_name_by, second_name_by, SendsName}
use Rattle.world_laws.proofs.Agreeing.KeyRecords.{two}
use Rattle.world_laws.proofs.Agreeing.Steps.{pending_not_held}
use Rattle.party_tables.specs.declared.exchange.Via.{Via}
use Rattle.role_base.specs.Exchanges.{new_link, dropped, ended}
use Rattle.bank_orders.specs.GivingUp.{given_up, given_up_in, drop}
use Rattle.bank_orders.specs.Ending.{can_end, end_tests, end_reply, end_record, purge}
use Rattle.world_laws.proofs.Links.Waiting.{Waits}
use Rattle.world_laws.proofs.Sound.Commands.{given_up_passes}
use Rattle.change_code.specs.declared.space.Space.{Space}

-- a record that is ended, if it stands, and an exchange that goes, whatever link goes before

pub gone_parts : (s : Party) (peer : List ℕ) (l : Option LinkRec) (k : Option KeyRec) → ((apply ((dropped l ++ ended k) ++ DropExchange peer ∷ []) s).exchanges ≡ drop_row exchange_key bytes_eq peer s.exchanges) × ((apply ((dropped l ++ ended k) ++ DropExchange peer ∷ []) s).own ≡ s.own)
gone_parts s peer None None = (refl, refl)
gone_parts s peer None (Some k) = (refl, refl)
gone_parts s peer (Some l) None = (refl, refl)
gone_parts s peer (Some l) (Some k) = (refl, refl)

gone_none : (s : Party) (peer : List ℕ) (l : Option LinkRec) → (apply ((dropped l ++ ended None) ++ DropExchange peer ∷ []) s).keys ≡ s.keys
gone_none s peer None = refl
gone_none s peer (Some l) = refl

gone_some : (s : Party) (peer : List ℕ) (l : Option LinkRec) (k : KeyRec) → (apply ((dropped l ++ ended (Some k)) ++ DropExchange peer ∷ []) s).keys ≡ put_row record_key same_record (with_status k Ended) s.keys
gone_some s peer None k = refl
gone_some s peer (Some l) k = refl

module _ (v : Lists) (p : List ℕ) (x : Member) (space : Space) (at : member_at p v.members ≡ Some x) (i : Agreed v) (w : Waits x.party) where
  sent : AllSent x.party
  sent = i.sent p x at

  drop_with : (text : List ℕ) (peer : List ℕ) (es : List Edit) → es ≡ (drop x.party peer).edits → (apply es x.party).own ≡ x.party.own → (apply es x.party).exchanges ≡ drop_row exchange_key bytes_eq peer x.party.exchanges → KeysMove v (lists_after v x space text (drop x.party peer)) x.party (apply es x.party) → AllSent (apply es x.party) → Agreeing v x space text (drop x.party peer)
  drop_with text peer es same own ex keys sents = record {
    back = passes_backed v.members x.party (drop x.party peer).edits (given_up_passes x.party peer (exchange_with peer x.party) refl w);
    news = subst (λ (z : List Edit). NewsMove x.party (apply z x.party)) same (news_drop x.party (apply es x.party) peer ex);
    keys = subst (λ (z : List Edit). KeysMove v (lists_after v x space text (drop x.party peer)) x.party (apply z x.party)) same keys;
    exchanges = subst (λ (z : List Edit). AllSent (apply z x.party)) same sents;
    waits = subst (λ (z : List Edit). WaitsMove x.party (apply z x.party)) same (waits_drop x.party (apply es x.party) peer ex);
    replies = tt;
    new = tt;
    accepts = tt;
  }

  pub drop_agreeing : (o : Option LinkKey) (text : List ℕ) (peer : List ℕ) → IsSound o x.party text (drop x.party peer) → Agreeing v x space text (drop x.party peer)
  drop_agreeing o text peer sound = by_exchange (exchange_with peer x.party) refl
    where
      row : Row
      row = drop x.party peer

      grown : PartyGrows o x.party (apply (drop x.party peer).edits x.party)
      grown = change_grows o (drop x.party peer).edits x.party sound.edits

      edits_are : (f : Exchange) (k : Kind) → exchange_with peer x.party ≡ Some f → f.kind ≡ k → given_up x.party peer k ++ DropExchange peer ∷ [] ≡ (drop x.party peer).edits
      edits_are f k a b = ap (λ (z : Kind). given_up x.party peer z ++ DropExchange peer ∷ []) (sym b) ∙ ap (given_up_in x.party peer) (sym a)

      quiet : (f : Exchange) (k : Kind) → exchange_with peer x.party ≡ Some f → f.kind ≡ k → given_up x.party peer k ≡ [] → Agreeing v x space text (drop x.party peer)
      quiet f k a b none =
          let es : DropExchange peer ∷ [] ≡ (drop x.party peer).edits = ap (λ (z : List Edit). z ++ DropExchange peer ∷ []) (sym none) ∙ edits_are f k a b in
          drop_with text peer (DropExchange peer ∷ []) es refl refl (unmoved refl) (sent_less x.party (apply (DropExchange peer ∷ []) x.party) peer refl refl refl sent)

      by_record : (f : Exchange) (name : KeyName) (via : Via) → exchange_with peer x.party ≡ Some f → f.kind ≡ kind.KeySent name via → (k : Option KeyRec) → record_of x.party peer name ≡ k → Agreeing v x space text (drop x.party peer)
      by_record f name via a b None r =
          let es : (dropped (new_link x.party peer via) ++ ended None) ++ DropExchange peer ∷ [] ≡ (drop x.party peer).edits = ap (λ (z : Option KeyRec). (dropped (new_link x.party peer via) ++ ended z) ++ DropExchange peer ∷ []) (sym r) ∙ edits_are f (kind.KeySent name via) a b in
          let parts = gone_parts x.party peer (new_link x.party peer via) None in
          let keys = gone_none x.party peer (new_link x.party peer via) in
          drop_with text peer ((dropped (new_link x.party peer via) ++ ended None) ++ DropExchange peer ∷ []) es parts.1 parts.0 (unmoved keys) (sent_less x.party (apply ((dropped (new_link x.party peer via) ++ ended None) ++ DropExchange peer ∷ []) x.party) peer parts.1 parts.0 keys sent)
      by_record f name via a b (Some k) r =
          let es : (dropped (new_link x.party peer via) ++ ended (Some k)) ++ DropExchange peer ∷ [] ≡ (drop x.party peer).edits = ap (λ (z : Option KeyRec). (dropped (new_link x.party peer via) ++ ended z) ++ DropExchange peer ∷ []) (sym r) ∙ edits_are f (kind.KeySent name via) a b in
          let parts = gone_parts x.party peer (new_link x.party peer via) (Some k) in
          let keys = gone_some x.party peer (new_link x.party peer via) k in
          let y : Sent = record { key = k; via = via } in
          let is = record_is x.party peer name k r in
          let h : SentIs x.party peer (record { key = k; via = via }) = record { at = is.0; peer_is = is.1; exchange = f; stands = a; kind_is = b ∙ ap (λ (n : KeyName). kind.KeySent n via) is.2 } in
          let moved : WaitsMove x.party (apply (drop x.party peer).edits x.party) = subst (λ (z : List Edit). WaitsMove x.party (apply z x.party)) es (waits_drop x.party (apply ((dropped (new_link x.party peer via) ++ ended (Some k)) ++ DropExchange peer ∷ []) x.party) peer parts.0) in
          let fine : KeyFine v (lists_after v x space text (drop x.party peer)) x.party (apply (drop x.party peer).edits x.party) (with_status k Ended) = ended_fine v p x space at i o text (drop x.party peer) peer y grown moved h in
          let fine_e : KeyFine v (lists_after v x space text (drop x.party peer)) x.party (apply ((dropped (new_link x.party peer via) ++ ended (Some k)) ++ DropExchange peer ∷ []) x.party) (with_status k Ended) = subst (λ (z : List Edit). KeyFine v (lists_after v x space text (drop x.party peer)) x.party (apply z x.party) (with_status k Ended)) (sym es) fine in
          drop_with text peer ((dropped (new_link x.party peer via) ++ ended (Some k)) ++ DropExchange peer ∷ []) es parts.1 parts.0 (one (with_status k Ended) keys fine_e) (sent_drop x.party (apply ((dropped (new_link x.party peer via) ++ ended (Some k)) ++ DropExchange peer ∷ []) x.party) peer (with_status k Ended) parts.1 parts.0 keys is.1 sent)

      -- the records of two keys, as many as stand
      pair_is : (f : Exchange) (name : KeyName) (j k : Option KeyRec) → exchange_with peer x.party ≡ Some f → f.kind ≡ kind.PairSent name → record_of x.party peer name ≡ j → record_of x.party peer (name_behind name) ≡ k → (ended j ++ ended k) ++ DropExchange peer ∷ [] ≡ (drop x.party peer).edits
      pair_is f name j k a b r q = (λ h. (ended ((sym r) h) ++ ended ((sym q) h)) ++ DropExchange peer ∷ []) ∙ edits_are f (kind.PairSent name) a b

      one_fine : (f : Exchange) (name : KeyName) (k : KeyRec) → exchange_with peer x.party ≡ Some f → SendsName f.kind name → record_of x.party peer name ≡ Some k → WaitsMove x.party (apply (drop x.party peer).edits x.party) → KeyFine v (lists_after v x space text (drop x.party peer)) x.party (apply (drop x.party peer).edits x.party) (with_status k Ended)
      one_fine f name k a n r moved =
          let pending : k.status ≡ Pending = (sent peer f name a n).pending k r in
          status_fine v p x space at i o text (drop x.party peer) k Ended grown moved (record_is x.party peer name k r).0 (λ e. refl) (λ no own. absurd no) (λ held. absurd (pending_not_held k.status pending held))

      by_records : (f : Exchange) (name : KeyName) → exchange_with peer x.party ≡ Some f → f.kind ≡ kind.PairSent name → (j k : Option KeyRec) → record_of x.party peer name ≡ j → record_of x.party peer (name_behind name) ≡ k → Agreeing v x space text (drop x.party peer)
      by_records f name a b None None r q =
          let es : DropExchange peer ∷ [] ≡ (drop x.party peer).edits = pair_is f name None None a b r q in
          drop_with text peer (DropExchange peer ∷ []) es refl refl (unmoved refl) (sent_less x.party (apply (DropExchange peer ∷ []) x.party) peer refl refl refl sent)
      by_records f name a b (Some j) None r q =
          let list : List Edit = PutKey (with_status j Ended) ∷ DropExchange peer ∷ [] in
          let es : PutKey (with_status j Ended) ∷ DropExchange peer ∷ [] ≡ (drop x.party peer).edits = pair_is f name (Some j) None a b r q in
          let moved : WaitsMove x.party (apply (drop x.party peer).edits x.party) = subst (λ (z : List Edit). WaitsMove x.party (apply z x.party)) es (waits_drop x.party (apply (PutKey (with_status j Ended) ∷ DropExchange peer ∷ []) x.party) peer refl) in
          let fine = one_fine f name j a (inl (ap sent_name_by b)) r moved in
          let fine_e : KeyFine v (lists_after v x space text (drop x.party peer)) x.party (apply (PutKey (with_status j Ended) ∷ DropExchange peer ∷ []) x.party) (with_status j Ended) = subst (λ (z : List Edit). KeyFine v (lists_after v x space text (drop x.party peer)) x.party (apply z x.party) (with_status j Ended)) (sym es) fine in
          drop_with text peer (PutKey (with_status j Ended) ∷ DropExchange peer ∷ []) es refl refl (one (with_status j Ended) refl fine_e) (sent_drop x.party (apply (PutKey (with_status j Ended) ∷ DropExchange peer ∷ []) x.party) peer (with_status j Ended) refl refl refl (record_is x.party peer name j r).1 sent)
      by_records f name a b None (Some k) r q =
          let es : PutKey (with_status k Ended) ∷ DropExchange peer ∷ [] ≡ (drop x.party peer).edits = pair_is f name None (Some k) a b r q in
          let moved : WaitsMove x.party (apply (drop x.party peer).edits x.party) = subst (λ (z : List Edit). WaitsMove x.party (apply z x.party)) es (waits_drop x.party (apply (PutKey (with_status k Ended) ∷ DropExchange peer ∷ []) x.party) peer refl) in
          let fine = one_fine f (name_behind name) k a (inr (ap second_name_by b)) q moved in
          let fine_e : KeyFine v (lists_after v x space text (drop x.party peer)) x.party (apply (PutKey (with_status k Ended) ∷ DropExchange peer ∷ []) x.party) (with_status k Ended) = subst (λ (z : List Edit). KeyFine v (lists_after v x space text (drop x.party peer)) x.party (apply z x.party) (with_status k Ended)) (sym es) fine in
          drop_with text peer (PutKey (with_status k Ended) ∷ DropExchange peer ∷ []) es refl refl (one (with_status k Ended) refl fine_e) (sent_drop x.party (apply (PutKey (with_status k Ended) ∷ DropExchange peer ∷ []) x.party) peer (with_status k Ended) refl refl refl (record_is x.party peer (name_behind name) k q).1 sent)
      by_records f name a b (Some j) (Some k) r q =
          let es : PutKey (with_status j Ended) ∷ PutKey (with_status k Ended) ∷ DropExchange peer ∷ [] ≡ (drop x.party peer).edits = pair_is f name (Some j) (Some k) a b r q in
          let moved : WaitsMove x.party (apply (drop x.party peer).edits x.party) = subst (λ (z : List Edit). WaitsMove x.party (apply z x.party)) es (waits_drop x.party (apply (PutKey (with_status j Ended) ∷ PutKey (with_status k Ended) ∷ DropExchange peer ∷ []) x.party) peer refl) in
          let is_j = record_is x.party peer name j r in
          let is_k = record_is x.party peer (name_behind name) k q in
          let fine_j : KeyFine v (lists_after v x space text (drop x.party peer)) x.party (apply (PutKey (with_status j Ended) ∷ PutKey (with_status k Ended) ∷ DropExchange peer ∷ []) x.party) (with_status j Ended) = subst (λ (z : List Edit). KeyFine v (lists_after v x space text (drop x.party peer)) x.party (apply z x.party) (with_status j Ended)) (sym es) (one_fine f name j a (inl (ap sent_name_by b)) r moved) in
          let fine_k : KeyFine v (lists_after v x space text (drop x.party peer)) x.party (apply (PutKey (with_status j Ended) ∷ PutKey (with_status k Ended) ∷ DropExchange peer ∷ []) x.party) (with_status k Ended) = subst (λ (z : List Edit). KeyFine v (lists_after v x space text (drop x.party peer)) x.party (apply z x.party) (with_status k Ended)) (sym es) (one_fine f (name_behind name) k a (inr (ap second_name_by b)) q moved) in
          let ne : record_key k ≢ record_key j = behind_other (record_key j) (record_key k) (sym is_k.2 ∙ ap name_behind is_j.2) in
          drop_with text peer (PutKey (with_status j Ended) ∷ PutKey (with_status k Ended) ∷ DropExchange peer ∷ []) es refl refl (two (with_status j Ended) (with_status k Ended) ne refl fine_j fine_k) (sent_drop_two x.party (apply (PutKey (with_status j Ended) ∷ PutKey (with_status k Ended) ∷ DropExchange peer ∷ []) x.party) peer (with_status j Ended) (with_status k Ended) refl refl refl is_j.1 is_k.1 sent)

      by_kind : (f : Exchange) → exchange_with peer x.party ≡ Some f → (k : Kind) → f.kind ≡ k → Agreeing v x space text (drop x.party peer)
      by_kind f a (kind.KeySent name via) b = by_record f name via a b (record_of x.party peer name) refl
      by_kind f a (kind.Asked ultimate) b = quiet f (kind.Asked ultimate) a b refl
      by_kind f a (kind.Translating ultimate value cta) b = quiet f (kind.Translating ultimate value cta) a b refl
      by_kind f a (kind.Ending name) b = quiet f (kind.Ending name) a b refl
      by_kind f a (kind.PairSent name) b = by_records f name a b (record_of x.party peer name) (record_of x.party peer (name_behind name)) refl refl

      by_exchange : (e : Option Exchange) → exchange_with peer x.party ≡ e → Agreeing v x space text (drop x.party peer)
      by_exchange None a = still_agreeing v p x space at i text (drop x.party peer) (ap (given_up_in x.party peer) a) tt tt tt
      by_exchange (Some f) a = by_kind f a f.kind refl

  pub end_agreeing : (o : Option LinkKey) (text : List ℕ) (peer : List ℕ) (name : KeyName) (found : Option KeyRec) → record_of x.party peer name ≡ found → is_accept (end_record x.party peer found).verdict ≡ true → IsSound o x.party text (end_record x.party peer found) → Agreeing v x space text (end_record x.party peer found)
  end_agreeing o text peer name None e h sound = refused_agreeing v p x space at i text (verdict_of (end_tests x.party peer false))
  end_agreeing o text peer name (Some k) e h sound = record {
    back = backed v.members x.party (end_record x.party peer (Some k)).edits (tt, (tt, tt));
    news = news_put x.party (apply (end_record x.party peer (Some k)).edits x.party) (record { peer = k.peer; kind = kind.Ending k.name; text = text_of (end_reply x.party k) }) refl refl;
    keys = one (with_status k Closing) refl (status_fine v p x space at i o text (end_record x.party peer (Some k)) k Closing grown moved is.0 (λ e. absurd (not_ended k.status can e)) (λ no own. class_later v p x space at i text (end_record x.party peer (Some k)) OfKsm k.peer (to_peer (record_key k)) (i.live p x (record_key k) k at is.0 own (counts k.status can))) (λ held. inl tt));
    exchanges = sent_put x.party (apply (end_record x.party peer (Some k)).edits x.party) (record { peer = k.peer; kind = kind.Ending k.name; text = text_of (end_reply x.party k) }) (with_status k Closing) refl refl refl refl (λ n q. absurd (cc)) refl sent;
    waits = moved;
    replies = tt;
    new = tt;
    accepts = tt;
  }
    where
      is : (record_with (record_key k) x.party ≡ Some k) × (k.peer ≡ peer) × (name ≡ k.name)
      is = record_is x.party peer name k e

      grown : PartyGrows o x.party (apply (end_record x.party peer (Some k)).edits x.party)
      grown = change_grows o (end_record x.party peer (Some k)).edits x.party sound.edits

      moved : WaitsMove x.party (apply (end_record x.party peer (Some k)).edits x.party)
      moved = waits_put x.party (apply (end_record x.party peer (Some k)).edits x.party) (record { peer = k.peer; kind = kind.Ending k.name; text = text_of (end_reply x.party k) }) refl refl

      can : can_end k.status ≡ true
      can = (held (end_tests x.party peer (can_end k.status)) refl h).1.0

      not_ended : (s : KeyStatus) → can_end s ≡ true → s ≡ Ended → ⊥
      not_ended s a b = (let d : can_end Ended ≡ true = subst (λ (z : KeyStatus). can_end z ≡ true) b a in cc)

      counts : (s : KeyStatus) → can_end s ≡ true → Counts s
      counts Pending a = absurd (cc)
      counts Live a = tt
      counts Held a = tt
      counts Closing a = tt
      counts Ended a = absurd (cc)

  pub purge_agreeing : (text : List ℕ) → Agreeing v x space text purge
  purge_agreeing text = record {
    back = backed v.members x.party purge.edits (tt, tt);
    news = news_stay x.party (apply purge.edits x.party) refl;
    keys = purged refl;
    exchanges = sent_same x.party (apply purge.edits x.party) refl refl (λ k r f. filter_back record_key same_record test_records (λ (y : KeyRec). not (is_ended y.status)) k r x.party.keys (i.tables p x at) f) sent;
    waits = waits_stay x.party (apply purge.edits x.party) refl;
    replies = tt;
    new = tt;
    accepts = tt;
  }
