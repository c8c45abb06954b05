-- Agreement: the end of a key arrives.
use Rattle.std.proofs.Common.{◌≡◌, ◌≢◌, inl, inr, ℕ, Bool, true, false, cond, Option, Some, None, List, [], ◌∷◌, ◌++◌, refl, sym, ◌∙◌, ap, subst, bytes_eq}
use Rattle.x_base.specs.declared.key_name.KeyName.{KeyName}
use Rattle.party_tables.specs.declared.link.LinkKey.{LinkKey}
use Rattle.party_tables.specs.declared.link.LinkRec.{LinkRec}
use Rattle.party_tables.specs.declared.key.RecordKey.{RecordKey}
use Rattle.party_tables.specs.declared.key.KeyRec.{KeyRec}
use Rattle.party_tables.specs.declared.key.KeyStatus.{KeyStatus}
use Rattle.party_tables.specs.declared.key.KeyStatus.TheVariants.{Pending, Live, Held, Closing, Ended}
use Rattle.party_tables.specs.declared.exchange.Exchange.{Exchange}
use Rattle.party_tables.specs.declared.exchange.Kind.{Kind}
use Rattle.party_tables.specs.declared.exchange.Kind.TheVariants as kind
use Rattle.party_tables.specs.Tables.{find_row, put_row}
use Rattle.party_tables.specs.Keys.{same_record, record_key, exchange_key}
use Rattle.party_tables.specs.Names.{full_name}
use Rattle.party_tables.specs.Statuses.{is_ended}
use Rattle.party_state.specs.State.{Party, record_with, exchange_with, apply}
use Rattle.party_state.specs.Rows.{OfDsm}
use Rattle.party_tables.proofs.Keys.{test_records}
use Rattle.party_tables.proofs.Tables.{one_found}
use Rattle.member.specs.Member.{Member}
use Rattle.world_laws.specs.World.{member_at}
use Rattle.world_laws.specs.Laws.{HasAccepted, IsEndedAt}
use Rattle.world_laws.proofs.Links.Growth.{PartyGrows}
use Rattle.party_tables.specs.Tables.{drop_row}
use Rattle.party_tables.proofs.Tables.{find_key}
use Rattle.party_tables.specs.declared.exchange.Via.{Via}
use Rattle.role_base.specs.Exchanges.{record_of}
use Rattle.world_laws.proofs.Lists.Among.{of_one, first_in}
use Rattle.world_laws.proofs.Agreeing.Lists.{WaitsMove}
use Rattle.world_laws.proofs.Agreeing.Waiting.{sent_name_by, second_name_by, SendsName, SentOk, AllSent}
use Rattle.party_tables.specs.Names.{name_behind}
use Rattle.role_base.proofs.TwinKeys.{behind_other}
use Rattle.world_laws.proofs.Agreeing.Facts.{DsmOk}
use Rattle.std.proofs.Common.{◌⊎◌}
use Rattle.world_laws.proofs.Links.Growth.{PartyGrows}
use Rattle.party_state.specs.declared.edit.Edit.{Edit}
use Rattle.world_laws.proofs.Agreeing.Moves.{Agreeing}
use Rattle.world_laws.proofs.Agreeing.Lists.{Lists, after, members_after, acceptances_after, lists_after}
use Rattle.world_laws.proofs.Agreeing.Known.{Known}
use Rattle.world_laws.proofs.Agreeing.Waiting.{AllSent}
use Rattle.world_laws.proofs.Agreeing.Agreed.{Agreed}
use Rattle.party_state.specs.declared.edit.Edit.TheVariants.{PutKey}
use Rattle.party_state.specs.Verdicts.{verdict_of}
use Rattle.world_laws.proofs.Links.Growth.{change_grows}
use Rattle.world_laws.proofs.Counting.Sound.{IsSound}
use Rattle.world_laws.proofs.Agreeing.KeyRecords.{KeysMove, KeyFine, put_case, put_is, put_under, one, two}
use Rattle.world_laws.proofs.Agreeing.Lists.{WaitsMove}
use Rattle.world_laws.proofs.Agreeing.Exchanges.{ex_drop, waits_from, news_from, sent_keep, record_is}
use Rattle.world_laws.proofs.Agreeing.Backs.{passes_backed}
use Rattle.world_laws.proofs.Agreeing.Steps.{some_is, pending_not_held, with_status, after_is, known_later, status_fine, refused_agreeing}
use Rattle.std.proofs.lemmas.List.Elements.{Contains-push}
use Rattle.party_tables.specs.Tables.{drop_row}
use Rattle.party_state.specs.declared.edit.Edit.TheVariants.{DropExchange}
use Rattle.party_tables.specs.declared.exchange.Via.{Via}
use Rattle.csm_grammar.specs.declared.arrival.Arrival.{Arrival}
use Rattle.csm_grammar.specs.Arrivals.{authenticated_text}
use Rattle.role_base.specs.Exchanges.{new_link, dropped, ended}
use Rattle.party_tables.specs.Keys.{same_name}
use Rattle.party_tables.proofs.Keys.{test_names}
use Rattle.party_tables.proofs.Tables.{put_stands}
use Rattle.csm_grammar.specs.declared.message.Dsm.{Dsm}
use Rattle.bank_arrivals.specs.declared.disconnection.NamedKey.{NamedKey}
use Rattle.role_base.specs.Exchanges.{record_of}
use Rattle.bank_arrivals.specs.Dsm.{named_by, dsm_front, left_by, left_in, disconnected, dsm_on}
use Rattle.world_laws.proofs.Links.Waiting.{Waits}
use Rattle.world_laws.proofs.Ended.Names.{named_at}
use Rattle.world_laws.proofs.Sound.Arrivals.{dsm_passes}
use Rattle.world_laws.proofs.Agreeing.Known.{one_key}
use Rattle.world_laws.proofs.Agreeing.Waiting.{SentOk}
use Rattle.change_code.specs.declared.space.Space.{Space}

ended_is : (s : KeyStatus) → is_ended s ≡ true → s ≡ Ended
ended_is Pending h = absurd (cc)
ended_is Live h = absurd (cc)
ended_is Held h = absurd (cc)
ended_is Closing h = absurd (cc)
ended_is Ended h = refl

-- the other of two keys that were sent at once
record OtherTwin (s : Party) (peer : List ℕ) (k j : KeyRec) : Type 0 where
  found : record_with (record_key j) s ≡ Some j
  peer_is : j.peer ≡ peer
  other : record_key j ≢ record_key k
  pending : j.status ≡ Pending

-- what a disconnection does: nothing where the key ended already; else the key ends, and the exchange that names it goes, with
-- the other of two keys, which stands behind or in front
data Disconnects (s : Party) (peer : List ℕ) (k : KeyRec) (es : List Edit) : Type 0 where
  over : is_ended k.status ≡ true → es ≡ [] → Disconnects s peer k es
  alone : ((e : Exchange) (name : KeyName) → exchange_with peer s ≡ Some e → SendsName e.kind name → name ≢ k.name) → es ≡ PutKey (with_status k Ended) ∷ [] → Disconnects s peer k es
  dropping : (l : Option LinkRec) → es ≡ dropped l ++ (PutKey (with_status k Ended) ∷ DropExchange peer ∷ []) → Disconnects s peer k es
  with_behind : (j : KeyRec) → OtherTwin s peer k j → es ≡ PutKey (with_status k Ended) ∷ PutKey (with_status j Ended) ∷ DropExchange peer ∷ [] → Disconnects s peer k es
  with_front : (j : KeyRec) → OtherTwin s peer k j → es ≡ PutKey (with_status j Ended) ∷ PutKey (with_status k Ended) ∷ DropExchange peer ∷ [] → Disconnects s peer k es

disconnects : (s : Party) (peer : List ℕ) (k : KeyRec) → AllSent s → Disconnects s peer k (disconnected s peer k)
disconnects s peer k sent = by_status (is_ended k.status) refl
  where
    -- the names that an exchange sends are those of its kind
    names_of : (e f : Exchange) (x : Kind) (name : KeyName) → exchange_with peer s ≡ Some e → e.kind ≡ x → exchange_with peer s ≡ Some f → SendsName f.kind name → SendsName x name
    names_of e f x name at is g n = (let same : f ≡ e = one_found f e g at in subst (λ (z : Kind). SendsName z name) (ap (λ (z : Exchange). z.kind) same ∙ is) n)

    same_is : (a b : KeyName) → same_name k.name a ≡ false → b ≡ a → b ≢ k.name
    same_is a b off e i = (let t : same_name k.name a ≡ true = (test_names.decides k.name a).1 (sym i ∙ e) in cc)

    by_sent : (e : Exchange) → exchange_with peer s ≡ Some e → (name : KeyName) (via : Via) → e.kind ≡ kind.KeySent name via → (b : Bool) → same_name k.name name ≡ b
        → Disconnects s peer k ((cond {A = List Edit × List Edit} b (dropped (new_link s peer via), DropExchange peer ∷ []) ([], [])).0 ++ (PutKey (record k { status = Ended }) ∷ (cond {A = List Edit × List Edit} b (dropped (new_link s peer via), DropExchange peer ∷ []) ([], [])).1))
    by_sent e at name via is true b = dropping (new_link s peer via) refl
    by_sent e at name via is false b = alone (λ f other g n. other_name other (names_of e f (kind.KeySent name via) other at is g n)) refl
      where
        other_name : (other : KeyName) → SendsName (kind.KeySent name via) other → other ≢ k.name
        other_name other (inl h) = same_is name other b (sym (some_is name other h))
        other_name other (inr h) = absurd (cc)

    none_sent : (e : Exchange) (x : Kind) → exchange_with peer s ≡ Some e → e.kind ≡ x → ((name : KeyName) → SendsName x name → ⊥) → (f : Exchange) (name : KeyName) → exchange_with peer s ≡ Some f → SendsName f.kind name → name ≢ k.name
    none_sent e x at is none f name g n = absurd (none name (names_of e f x name at is g n))

    by_ending : (b : Bool) → ((e : Exchange) (name : KeyName) → exchange_with peer s ≡ Some e → SendsName e.kind name → name ≢ k.name)
        → Disconnects s peer k ((cond {A = List Edit × List Edit} b ([], DropExchange peer ∷ []) ([], [])).0 ++ (PutKey (record k { status = Ended }) ∷ (cond {A = List Edit × List Edit} b ([], DropExchange peer ∷ []) ([], [])).1))
    by_ending true f = dropping None refl
    by_ending false f = alone f refl

    by_pair : (e : Exchange) → exchange_with peer s ≡ Some e → (name : KeyName) → e.kind ≡ kind.PairSent name → (first second : Option KeyRec) → record_of s peer name ≡ first → record_of s peer (name_behind name) ≡ second → (b c : Bool) → same_name k.name name ≡ b → same_name k.name (name_behind name) ≡ c
        → Disconnects s peer k ((cond {A = List Edit × List Edit} b ([], ended second ++ DropExchange peer ∷ []) (cond {A = List Edit × List Edit} c (ended first, DropExchange peer ∷ []) ([], []))).0 ++ (PutKey (record k { status = Ended }) ∷ (cond {A = List Edit × List Edit} b ([], ended second ++ DropExchange peer ∷ []) (cond {A = List Edit × List Edit} c (ended first, DropExchange peer ∷ []) ([], []))).1))
    by_pair e at name is first None f g true c b_is c_is = dropping None refl
    by_pair e at name is first (Some j) f g true c b_is c_is =
        let r = record_is s peer (name_behind name) j g in
        let same : k.name ≡ name = (test_names.decides k.name name).0 b_is in
        with_behind j (record { found = r.0; peer_is = r.1; other = behind_other (record_key k) (record_key j) (sym r.2 ∙ ap name_behind (sym same)); pending = (sent peer e (name_behind name) at (inr (ap second_name_by is))).pending j g }) refl
    by_pair e at name is None second f g false true b_is c_is = dropping None refl
    by_pair e at name is (Some j) second f g false true b_is c_is =
        let r = record_is s peer name j f in
        let same : k.name ≡ name_behind name = (test_names.decides k.name (name_behind name)).0 c_is in
        with_front j (record { found = r.0; peer_is = r.1; other = λ q. behind_other (record_key j) (record_key k) (same ∙ ap name_behind r.2) (sym q); pending = (sent peer e name at (inl (ap sent_name_by is))).pending j f }) refl
    by_pair e at name is first second f g false false b_is c_is = alone (λ h other i n. other_name other (names_of e h (kind.PairSent name) other at is i n)) refl
      where
        other_name : (other : KeyName) → SendsName (kind.PairSent name) other → other ≢ k.name
        other_name other (inl h) = same_is name other b_is (sym (some_is name other h))
        other_name other (inr h) = same_is (name_behind name) other c_is (sym (some_is (name_behind name) other h))

    no_name : (name : KeyName) → ((None ≡ Some name) ⊎ (None ≡ Some name)) → ⊥
    no_name name (inl h) = cc
    no_name name (inr h) = cc

    by_kind : (e : Exchange) → exchange_with peer s ≡ Some e → (x : Kind) → e.kind ≡ x → Disconnects s peer k ((left_by s peer k.name x).0 ++ (PutKey (record k { status = Ended }) ∷ (left_by s peer k.name x).1))
    by_kind e at (kind.KeySent name via) is = by_sent e at name via is (same_name k.name name) refl
    by_kind e at (kind.Ending name) is = by_ending (same_name k.name name) (none_sent e (kind.Ending name) at is no_name)
    by_kind e at (kind.Asked ultimate) is = alone (none_sent e (kind.Asked ultimate) at is no_name) refl
    by_kind e at (kind.Translating ultimate value cta) is = alone (none_sent e (kind.Translating ultimate value cta) at is no_name) refl
    by_kind e at (kind.PairSent name) is = by_pair e at name is (record_of s peer name) (record_of s peer (name_behind name)) refl refl (same_name k.name name) (same_name k.name (name_behind name)) refl refl

    by_exchange : (o : Option Exchange) → exchange_with peer s ≡ o → Disconnects s peer k ((left_in s peer k.name o).0 ++ (PutKey (record k { status = Ended }) ∷ (left_in s peer k.name o).1))
    by_exchange None at = alone (λ e name g n. absurd (let h : Some e ≡ None = sym g ∙ at in cc)) refl
    by_exchange (Some e) at = by_kind e at e.kind refl

    by_status : (b : Bool) → is_ended k.status ≡ b → Disconnects s peer k (cond b [] ((left_in s peer k.name (exchange_with peer s)).0 ++ (PutKey (record k { status = Ended }) ∷ (left_in s peer k.name (exchange_with peer s)).1)))
    by_status true b = over b refl
    by_status false b = by_exchange (exchange_with peer s) refl

drop_parts : (s : Party) (peer : List ℕ) (l : Option LinkRec) (k : KeyRec) → ((apply (dropped l ++ (PutKey k ∷ DropExchange peer ∷ [])) s).own ≡ s.own) × ((apply (dropped l ++ (PutKey k ∷ DropExchange peer ∷ [])) s).keys ≡ put_row record_key same_record k s.keys) × ((apply (dropped l ++ (PutKey k ∷ DropExchange peer ∷ [])) s).exchanges ≡ drop_row exchange_key bytes_eq peer s.exchanges)
drop_parts s peer None k = (refl, refl, refl)
drop_parts s peer (Some l) k = (refl, refl, refl)

-- no exchange with the peer stands
abbrev NoneLeft : Party → List ℕ → Type 0
NoneLeft t peer = (q : List ℕ) (e : Exchange) → exchange_with q t ≡ Some e → q ≢ peer

-- the records that it leaves
data LeftKeys (s t : Party) (peer : List ℕ) (k : KeyRec) : Type 0 where
  one_left : t.keys ≡ put_row record_key same_record (with_status k Ended) s.keys → LeftKeys s t peer k
  behind_left : (j : KeyRec) → OtherTwin s peer k j → NoneLeft t peer → t.keys ≡ put_row record_key same_record (with_status j Ended) (put_row record_key same_record (with_status k Ended) s.keys) → LeftKeys s t peer k
  front_left : (j : KeyRec) → OtherTwin s peer k j → NoneLeft t peer → t.keys ≡ put_row record_key same_record (with_status k Ended) (put_row record_key same_record (with_status j Ended) s.keys) → LeftKeys s t peer k

-- a record afterwards: that of the key, or that of the other key, which ended too, or one from before
data FoundLeft (s t : Party) (peer : List ℕ) (k : KeyRec) (z : RecordKey) (r : KeyRec) : Type 0 where
  the_key : z ≡ record_key k → r.status ≡ Ended → FoundLeft s t peer k z r
  the_other : z.peer ≡ peer → NoneLeft t peer → r.status ≡ Ended → FoundLeft s t peer k z r
  old_one : z ≢ record_key k → record_with z s ≡ Some r → FoundLeft s t peer k z r

found_left : (s t : Party) (peer : List ℕ) (k : KeyRec) → LeftKeys s t peer k → (z : RecordKey) (r : KeyRec) → record_with z t ≡ Some r → FoundLeft s t peer k z r
found_left s t peer k left z r h = by_key (same_record z (record_key k)) refl
  where
    status_of : (m n : KeyRec) → m ≡ n → m.status ≡ Ended → n.status ≡ Ended
    status_of m n e i = subst (λ (x : KeyRec). x.status ≡ Ended) e i

    of_key : z ≡ record_key k → LeftKeys s t peer k → r.status ≡ Ended
    of_key key (one_left ks) = status_of (with_status k Ended) r (put_is s.keys z (with_status k Ended) r key (rw (← ks) h)) refl
    of_key key (behind_left j o none ks) = status_of (with_status k Ended) r (put_is s.keys z (with_status k Ended) r key (put_under (put_row record_key same_record (with_status k Ended) s.keys) z (with_status j Ended) r (λ e. o.other (sym e ∙ key)) (rw (← ks) h))) refl
    of_key key (front_left j o none ks) = status_of (with_status k Ended) r (put_is (put_row record_key same_record (with_status j Ended) s.keys) z (with_status k Ended) r key (rw (← ks) h)) refl

    of_other : z ≢ record_key k → LeftKeys s t peer k → FoundLeft s t peer k z r
    of_other ne (one_left ks) = elim (put_case s.keys z (with_status k Ended) r (rw (← ks) h)) [
      | inl a ↦ absurd (ne a.0)
      | inr a ↦ old_one ne a
    ]
    of_other ne (behind_left j o none ks) = elim (put_case (put_row record_key same_record (with_status k Ended) s.keys) z (with_status j Ended) r (rw (← ks) h)) [
      | inl a ↦ the_other (ap (λ (x : RecordKey). x.peer) a.0 ∙ o.peer_is) none (status_of (with_status j Ended) r a.1 refl)
      | inr b ↦ elim (put_case s.keys z (with_status k Ended) r b) [
        | inl a ↦ absurd (ne a.0)
        | inr a ↦ old_one ne a
      ]
    ]
    of_other ne (front_left j o none ks) = elim (put_case (put_row record_key same_record (with_status j Ended) s.keys) z (with_status k Ended) r (rw (← ks) h)) [
      | inl a ↦ absurd (ne a.0)
      | inr b ↦ elim (put_case s.keys z (with_status j Ended) r b) [
        | inl a ↦ the_other (ap (λ (x : RecordKey). x.peer) a.0 ∙ o.peer_is) none (status_of (with_status j Ended) r a.1 refl)
        | inr a ↦ old_one ne a
      ]
    ]

    by_key : (b : Bool) → same_record z (record_key k) ≡ b → FoundLeft s t peer k z r
    by_key true e = (let key : z ≡ record_key k = (test_records.decides z (record_key k)).0 e in the_key key (of_key key left))
    by_key false e = of_other (λ i. (let u : same_record z (record_key k) ≡ true = (test_records.decides z (record_key k)).1 i in cc)) left

-- what it leaves
record Left (s t : Party) (peer : List ℕ) (k : KeyRec) : Type 0 where
  keys : LeftKeys s t peer k
  stood : (q : List ℕ) (e : Exchange) → exchange_with q t ≡ Some e → exchange_with q s ≡ Some e
  unnamed : (q : List ℕ) (e : Exchange) (n : KeyName) → exchange_with q t ≡ Some e → SendsName e.kind n → q ≡ peer → n ≢ k.name

left_so : (s : Party) (peer : List ℕ) (k : KeyRec) (es : List Edit) → AllSent s → record_with (record_key k) s ≡ Some k → k.peer ≡ peer → Disconnects s peer k es → Left s (apply es s) peer k
left_so s peer k es sent at_k peer_is (over e q) = subst (λ (z : List Edit). Left s (apply z s) peer k) (sym q) (record {
  keys = one_left stays;
  stood = λ p x h. h;
  unnamed = λ p x n h m is j. (let o : SentOk s p n = sent p x n h m in
      let key : record_key k ≡ record { peer = p; name = n } = (let a = peer_is ∙ sym is in let b = sym j in λ i. record { peer = a i; name = b i }) in
      let pending : k.status ≡ Pending = o.pending k (subst (λ (z : RecordKey). record_with z s ≡ Some k) key at_k) in
      let a : is_ended Pending ≡ true = subst (λ (z : KeyStatus). is_ended z ≡ true) pending e in cc);
})
  where
    stays : s.keys ≡ put_row record_key same_record (with_status k Ended) s.keys
    stays =
        let st : k.status ≡ Ended = ended_is k.status e in
        let same : k ≡ with_status k Ended = (λ j. record { peer = k.peer; name = k.name; value = k.value; status = st j }) in
        subst (λ (m : KeyRec). s.keys ≡ put_row record_key same_record m s.keys) same (sym (put_stands record_key same_record k s.keys at_k))
left_so s peer k es sent at_k peer_is (alone f q) = subst (λ (z : List Edit). Left s (apply z s) peer k) (sym q) (record {
  keys = one_left refl;
  stood = λ p x h. h;
  unnamed = λ p x n h m is. f x n (subst (λ (z : List ℕ). exchange_with z s ≡ Some x) is h) m;
})
left_so s peer k es sent at_k peer_is (dropping l q) = subst (λ (z : List Edit). Left s (apply z s) peer k) (sym q) (let parts = drop_parts s peer l (with_status k Ended) in record {
  keys = one_left parts.1;
  stood = λ p x h. (ex_drop s.exchanges peer p x (subst (λ (z : List Exchange). find_row exchange_key bytes_eq p z ≡ Some x) parts.2 h)).0;
  unnamed = λ p x n h m is. absurd ((ex_drop s.exchanges peer p x (subst (λ (z : List Exchange). find_row exchange_key bytes_eq p z ≡ Some x) parts.2 h)).1 is);
})
left_so s peer k es sent at_k peer_is (with_behind j o q) = subst (λ (z : List Edit). Left s (apply z s) peer k) (sym q) (record {
  keys = behind_left j o (λ p x h. (ex_drop s.exchanges peer p x h).1) refl;
  stood = λ p x h. (ex_drop s.exchanges peer p x h).0;
  unnamed = λ p x n h m is. absurd ((ex_drop s.exchanges peer p x h).1 is);
})
left_so s peer k es sent at_k peer_is (with_front j o q) = subst (λ (z : List Edit). Left s (apply z s) peer k) (sym q) (record {
  keys = front_left j o (λ p x h. (ex_drop s.exchanges peer p x h).1) refl;
  stood = λ p x h. (ex_drop s.exchanges peer p x h).0;
  unnamed = λ p x n h m is. absurd ((ex_drop s.exchanges peer p x h).1 is);
})

module _ (v : Lists) (p : List ℕ) (x : Member) (space : Space) (at : member_at p v.members ≡ Some x) (i : Agreed v) (w : Waits x.party) where
  sent : AllSent x.party
  sent = i.sent p x at

  pub dsm_agreeing : (o : Option LinkKey) (a : Arrival) (m : Dsm) (found : Option NamedKey) → named_by x.party m ≡ found → IsSound o x.party (authenticated_text a) (dsm_on x.party a m found) → Agreeing v x space (authenticated_text a) (dsm_on x.party a m found)
  dsm_agreeing o a m None e sound = refused_agreeing v p x space at i (authenticated_text a) (verdict_of (dsm_front x.party m false))
  dsm_agreeing o a m (Some n) e sound = record {
    back = passes_backed v.members x.party (disconnected x.party m.originator n.key) (dsm_passes x.party a m n w);
    news = news_from x.party (apply (disconnected x.party m.originator n.key) x.party) (λ q g new j s. left.stood q g j);
    keys = keys_move left.keys;
    exchanges = sent_keep x.party (apply (disconnected x.party m.originator n.key) x.party) grown.own (λ q g name j s. inl (left.stood q g j, λ r f. unput q g name r j s (found_left x.party (apply (disconnected x.party m.originator n.key) x.party) m.originator n.key left.keys (record { peer = q; name = name }) r f))) sent;
    waits = moved;
    replies = new;
    new = tt;
    accepts = record { ksm = λ class. absurd (cc); answer = λ class. absurd (cc); dsm = λ class u among. subst (DsmOk (lists_after v x space (authenticated_text a) (dsm_on x.party a m (Some n))) x.party.own) (of_one (full_name x.party.own n.key) u among) ended_key };
  }
    where
      is : (record_with (record_key n.key) x.party ≡ Some n.key) × (n.key.peer ≡ m.originator) × (m.idd ≡ n.key.name)
      is = record_is x.party m.originator m.idd n.key (named_at x.party m n e)

      grown : PartyGrows o x.party (apply (disconnected x.party m.originator n.key) x.party)
      grown = change_grows o (disconnected x.party m.originator n.key) x.party sound.edits

      left : Left x.party (apply (disconnected x.party m.originator n.key) x.party) m.originator n.key
      left = left_so x.party m.originator n.key (disconnected x.party m.originator n.key) sent is.0 is.1 (disconnects x.party m.originator n.key sent)

      moved : WaitsMove x.party (apply (disconnected x.party m.originator n.key) x.party)
      moved = waits_from x.party (apply (disconnected x.party m.originator n.key) x.party) (λ q g y j s. inl (left.stood q g j))

      known_s : Known v x.party (record_key n.key)
      known_s = i.known p x at (record_key n.key) n.key is.0

      known_k : Known (lists_after v x space (authenticated_text a) (dsm_on x.party a m (Some n))) (apply (disconnected x.party m.originator n.key) x.party) (record_key n.key)
      known_k = known_later v p x space at i o (authenticated_text a) (dsm_on x.party a m (Some n)) (record_key n.key) grown moved known_s

      new : HasAccepted (acceptances_after v.acceptances x (authenticated_text a) (dsm_on x.party a m (Some n))) OfDsm x.party.own (full_name x.party.own n.key)
      new = record { acceptance = record { party = x.party.own; text = authenticated_text a; class = OfDsm; names = full_name x.party.own n.key ∷ [] }; stands = Contains-push v.acceptances _; class_is = refl; party_is = refl; among = first_in (full_name x.party.own n.key) [] }

      fine : KeyFine v (lists_after v x space (authenticated_text a) (dsm_on x.party a m (Some n))) x.party (apply (disconnected x.party m.originator n.key) x.party) (with_status n.key Ended)
      fine = status_fine v p x space at i o (authenticated_text a) (dsm_on x.party a m (Some n)) n.key Ended grown moved is.0 (λ g. refl) (λ no own. absurd no) (λ held. inr (inl new))

      other_fine : (j : KeyRec) → OtherTwin x.party m.originator n.key j → KeyFine v (lists_after v x space (authenticated_text a) (dsm_on x.party a m (Some n))) x.party (apply (disconnected x.party m.originator n.key) x.party) (with_status j Ended)
      other_fine j t = status_fine v p x space at i o (authenticated_text a) (dsm_on x.party a m (Some n)) j Ended grown moved t.found (λ g. refl) (λ no own. absurd no) (λ held. absurd (pending_not_held j.status t.pending held))

      keys_move : LeftKeys x.party (apply (disconnected x.party m.originator n.key) x.party) m.originator n.key → KeysMove v (lists_after v x space (authenticated_text a) (dsm_on x.party a m (Some n))) x.party (apply (disconnected x.party m.originator n.key) x.party)
      keys_move (one_left ks) = one (with_status n.key Ended) ks fine
      keys_move (behind_left j t none ks) = two (with_status n.key Ended) (with_status j Ended) t.other ks fine (other_fine j t)
      keys_move (front_left j t none ks) = two (with_status j Ended) (with_status n.key Ended) (λ e. t.other (sym e)) ks (other_fine j t) fine

      unput : (q : List ℕ) (g : Exchange) (name : KeyName) (r : KeyRec) → exchange_with q (apply (disconnected x.party m.originator n.key) x.party) ≡ Some g → SendsName g.kind name → FoundLeft x.party (apply (disconnected x.party m.originator n.key) x.party) m.originator n.key (record { peer = q; name = name }) r → record_with (record { peer = q; name = name }) x.party ≡ Some r
      unput q g name r j s (the_key z e) = absurd (left.unnamed q g name j s (ap (λ (y : RecordKey). y.peer) z ∙ is.1) (ap (λ (y : RecordKey). y.name) z))
      unput q g name r j s (the_other z none e) = absurd (none q g j z)
      unput q g name r j s (old_one ne f) = f

      after_here : member_at x.party.own (members_after v.members x space (dsm_on x.party a m (Some n))) ≡ Some (after x space (dsm_on x.party a m (Some n)))
      after_here = after_is v p x space at i o (dsm_on x.party a m (Some n)) grown

      ended : IsEndedAt (members_after v.members x space (dsm_on x.party a m (Some n))) x.party.own (full_name x.party.own n.key)
      ended y z r f g full_r = go (found_left x.party (apply (disconnected x.party m.originator n.key) x.party) m.originator n.key left.keys z r (subst (λ (q : Member). record_with z q.party ≡ Some r) (sym (one_found (after x space (dsm_on x.party a m (Some n))) y after_here f)) g))
        where
          go : FoundLeft x.party (apply (disconnected x.party m.originator n.key) x.party) m.originator n.key z r → r.status ≡ Ended
          go (the_key k e) = e
          go (the_other k none e) = e
          go (old_one ne old) =
              let key : z ≡ record_key r = find_key record_key same_record test_records z r x.party.keys old in
              let kr : Known v x.party (record_key r) = subst (Known v x.party) key (i.known p x at z r old) in
              absurd (ne (key ∙ one_key v x.party (record_key r) (record_key n.key) kr known_s full_r))

      ended_key : DsmOk (lists_after v x space (authenticated_text a) (dsm_on x.party a m (Some n))) x.party.own (full_name x.party.own n.key)
      ended_key = record { ended = ended; key = record_key n.key; full_is = refl; known = λ y f. subst (λ (z : Member). Known (lists_after v x space (authenticated_text a) (dsm_on x.party a m (Some n))) z.party (record_key n.key)) (one_found (after x space (dsm_on x.party a m (Some n))) y after_here f) known_k }
