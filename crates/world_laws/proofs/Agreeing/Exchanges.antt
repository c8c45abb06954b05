-- How records and exchanges move, and what an exchange is about.
use Rattle.std.proofs.Common.{◌≡◌, ◌≢◌, ◌⊎◌, inl, inr, ℕ, ◌≤◌, Bool, true, false, cond, Option, Some, None, List, refl, sym, ◌∙◌, ap, subst, bytes_eq}
use Rattle.x_base.specs.declared.key_name.KeyName.{KeyName}
use Rattle.party_tables.specs.declared.link.LinkRec.{LinkRec}
use Rattle.party_tables.specs.declared.key.RecordKey.{RecordKey}
use Rattle.party_tables.specs.declared.key.KeyRec.{KeyRec}
use Rattle.party_tables.specs.declared.key.KeyStatus.TheVariants.{Pending}
use Rattle.party_tables.specs.declared.exchange.Exchange.{Exchange}
use Rattle.party_tables.specs.declared.exchange.Kind.{Kind}
use Rattle.party_tables.specs.declared.exchange.Kind.TheVariants as kind
use Rattle.party_tables.specs.Tables.{find_row, put_row}
use Rattle.party_tables.specs.Keys.{same_record, record_key, exchange_key, sends}
use Rattle.party_state.specs.State.{Party, centre_label, link_with, record_with, exchange_with}
use Rattle.party_tables.proofs.Keys.{test_idents, test_records}
use Rattle.party_tables.proofs.Tables.{one_found, find_put}
use Rattle.bank_keys.specs.declared.waits.KeyAtCentre.{KeyAtCentre}
use Rattle.std.specs.Prelude.{option_map}
use Rattle.party_tables.specs.Tables.{drop_row}
use Rattle.party_tables.proofs.Tables.{find_key, find_put_same, find_drop}
use Rattle.party_tables.specs.declared.exchange.Via.{Via}
use Rattle.role_base.specs.declared.exchanges.Sent.{Sent}
use Rattle.role_base.specs.Exchanges.{record_of, sent_by, sent_in, sent_to, twins_to, ending_by, ending_in, ending_with}
use Rattle.role_base.specs.declared.exchanges.Twins.{Twins}
use Rattle.role_base.proofs.TwinKeys.{twins_at, behind_other}
use Rattle.party_tables.specs.Names.{name_behind}
use Rattle.bank_keys.specs.Waiting.{waiting_by, waiting_in}
use Rattle.world_laws.proofs.Agreeing.Lists.{WaitsMove}
use Rattle.world_laws.proofs.Agreeing.Waiting.{NewsMove, sent_name_by, second_name_by, mark_of, SendsName, SentOk, AllSent}

-- Records

-- a record under another key than the one that was put
pub put_other : (s t : Party) (k : RecordKey) (m r : KeyRec) → t.keys ≡ put_row record_key same_record m s.keys → k ≢ record_key m → record_with k t ≡ Some r → record_with k s ≡ Some r
put_other s t k m r is ne h = go (same_record k (record_key m)) refl
  where
    at_put : (b : Bool) → same_record k (record_key m) ≡ b → cond b (Some m) (record_with k s) ≡ Some r
    at_put b i = rw (← i, ← find_put record_key same_record test_records k m s.keys, ← is) h

    go : (b : Bool) → same_record k (record_key m) ≡ b → record_with k s ≡ Some r
    go true i = absurd (ne ((test_records.decides k (record_key m)).0 i))
    go false i = at_put false i

pub put_other_two : (s t : Party) (k : RecordKey) (m n r : KeyRec) → t.keys ≡ put_row record_key same_record n (put_row record_key same_record m s.keys) → k ≢ record_key m → k ≢ record_key n → record_with k t ≡ Some r → record_with k s ≡ Some r
put_other_two s t k m n r is ne_m ne_n h = put_other s (record s { keys = put_row record_key same_record m s.keys }) k m r refl ne_m (put_other (record s { keys = put_row record_key same_record m s.keys }) t k n r is ne_n h)

pub put_same : (s t : Party) (k : RecordKey) (m r : KeyRec) → t.keys ≡ put_row record_key same_record m s.keys → k ≡ record_key m → record_with k t ≡ Some r → m ≡ r
put_same s t k m r is key h =
    let e : record_with (record_key m) t ≡ Some r = rw (← key) h in
    let f : find_row record_key same_record (record_key m) t.keys ≡ Some m = rw is (find_put_same record_key same_record test_records m s.keys) in
    one_found m r f e

-- Exchanges

pub ex_drop : (es : List Exchange) (j peer : List ℕ) (e : Exchange) → find_row exchange_key bytes_eq peer (drop_row exchange_key bytes_eq j es) ≡ Some e → (find_row exchange_key bytes_eq peer es ≡ Some e) × (peer ≢ j)
ex_drop es j peer e h = go (bytes_eq peer j) refl
  where
    at_drop : (b : Bool) → bytes_eq peer j ≡ b → cond b None (find_row exchange_key bytes_eq peer es) ≡ Some e
    at_drop b i = rw (← i, ← find_drop exchange_key bytes_eq test_idents peer j es) h

    go : (b : Bool) → bytes_eq peer j ≡ b → (find_row exchange_key bytes_eq peer es ≡ Some e) × (peer ≢ j)
    go true i = (let n = at_drop true i in absurd (cc))
    go false i = (at_drop false i, λ q. (let t : bytes_eq peer j ≡ true = (test_idents.decides peer j).1 q in cc))

pub ex_put : (es : List Exchange) (n : Exchange) (peer : List ℕ) (e : Exchange) → find_row exchange_key bytes_eq peer (put_row exchange_key bytes_eq n es) ≡ Some e → ((peer ≡ n.peer) × (n ≡ e)) ⊎ ((find_row exchange_key bytes_eq peer es ≡ Some e) × (peer ≢ n.peer))
ex_put es n peer e h = go (bytes_eq peer n.peer) refl
  where
    at_put : (b : Bool) → bytes_eq peer n.peer ≡ b → cond b (Some n) (find_row exchange_key bytes_eq peer es) ≡ Some e
    at_put b i = rw (← i, ← find_put exchange_key bytes_eq test_idents peer n es) h

    go : (b : Bool) → bytes_eq peer n.peer ≡ b → ((peer ≡ n.peer) × (n ≡ e)) ⊎ ((find_row exchange_key bytes_eq peer es ≡ Some e) × (peer ≢ n.peer))
    go true i = inl ((test_idents.decides peer n.peer).0 i, (let q = at_put true i in cc))
    go false i = inr (at_put false i, λ q. (let t : bytes_eq peer n.peer ≡ true = (test_idents.decides peer n.peer).1 q in cc))

pub waiting_some : (o : Option Exchange) (v : KeyAtCentre) → waiting_in o ≡ Some v → (e : Exchange) × (o ≡ Some e) × (waiting_by e.kind ≡ Some v)
waiting_some None v h = absurd (cc)
waiting_some (Some e) v h = (e, refl, h)

pub waits_from : (s t : Party) → ((peer : List ℕ) (e : Exchange) (v : KeyAtCentre) → exchange_with peer t ≡ Some e → waiting_by e.kind ≡ Some v → (exchange_with peer s ≡ Some e) ⊎ ((l : LinkRec) × (link_with (sends peer centre_label) s ≡ Some l) × (l.next ≤ v.cta))) → WaitsMove s t
waits_from s t f peer v h =
    let w = waiting_some (exchange_with peer t) v h in
    elim (f peer w.0 v w.1 w.2) [ inl a ↦ inl (ap waiting_in a ∙ w.2) | inr a ↦ inr a ]

pub waits_drop : (s t : Party) (j : List ℕ) → t.exchanges ≡ drop_row exchange_key bytes_eq j s.exchanges → WaitsMove s t
waits_drop s t j is = waits_from s t (λ peer e v h k. inl (ex_drop s.exchanges j peer e (rw (← is) h)).0)

pub waits_put : (s t : Party) (n : Exchange) → t.exchanges ≡ put_row exchange_key bytes_eq n s.exchanges → waiting_by n.kind ≡ None → WaitsMove s t
waits_put s t n is none = waits_from s t (λ peer e v h k. elim (ex_put s.exchanges n peer e (rw (← is) h)) [
  | inl a ↦ (let q : waiting_by e.kind ≡ None = ap (λ (z : Exchange). waiting_by z.kind) (sym a.1) ∙ none in absurd (cc))
  | inr a ↦ inl a.0
])

pub waits_both : (s t : Party) (j : List ℕ) (n : Exchange) → t.exchanges ≡ put_row exchange_key bytes_eq n (drop_row exchange_key bytes_eq j s.exchanges) → waiting_by n.kind ≡ None → WaitsMove s t
waits_both s t j n is none = waits_from s t (λ peer e v h k. elim (ex_put (drop_row exchange_key bytes_eq j s.exchanges) n peer e (rw (← is) h)) [
  | inl a ↦ (let q : waiting_by e.kind ≡ None = ap (λ (z : Exchange). waiting_by z.kind) (sym a.1) ∙ none in absurd (cc))
  | inr a ↦ inl (ex_drop s.exchanges j peer e a.0).0
])

-- no exchange with a new label comes, and none for two keys
pub news_from : (s t : Party) → ((peer : List ℕ) (e : Exchange) (new : List ℕ) → exchange_with peer t ≡ Some e → mark_of e.kind ≡ Some new → exchange_with peer s ≡ Some e) → NewsMove s t
news_from s t f peer e name new h n w = inl (f peer e new h w)

pub news_drop : (s t : Party) (j : List ℕ) → t.exchanges ≡ drop_row exchange_key bytes_eq j s.exchanges → NewsMove s t
news_drop s t j is = news_from s t (λ peer e v h k. (ex_drop s.exchanges j peer e (rw (← is) h)).0)

pub news_put : (s t : Party) (n : Exchange) → t.exchanges ≡ put_row exchange_key bytes_eq n s.exchanges → mark_of n.kind ≡ None → NewsMove s t
news_put s t n is none = news_from s t (λ peer e v h k. elim (ex_put s.exchanges n peer e (rw (← is) h)) [
  | inl a ↦ absurd (let q : mark_of e.kind ≡ None = ap (λ (z : Exchange). mark_of z.kind) (sym a.1) ∙ none in cc)
  | inr a ↦ a.0
])

pub news_both : (s t : Party) (j : List ℕ) (n : Exchange) → t.exchanges ≡ put_row exchange_key bytes_eq n (drop_row exchange_key bytes_eq j s.exchanges) → mark_of n.kind ≡ None → NewsMove s t
news_both s t j n is none = news_from s t (λ peer e v h k. elim (ex_put (drop_row exchange_key bytes_eq j s.exchanges) n peer e (rw (← is) h)) [
  | inl a ↦ absurd (let q : mark_of e.kind ≡ None = ap (λ (z : Exchange). mark_of z.kind) (sym a.1) ∙ none in cc)
  | inr a ↦ (ex_drop s.exchanges j peer e a.0).0
])

-- an exchange that waits for one key
sends_one : (k : Kind) (name : KeyName) → second_name_by k ≡ None → SendsName k name → sent_name_by k ≡ Some name
sends_one k name none (inl h) = h
sends_one k name none (inr h) = absurd (let e : None ≡ Some name = sym none ∙ h in cc)

-- what waits for a key goes on waiting for it, where its record isn't the one that was put
pub sent_keep : (s t : Party) → t.own ≡ s.own → ((peer : List ℕ) (e : Exchange) (name : KeyName) → exchange_with peer t ≡ Some e → SendsName e.kind name → ((exchange_with peer s ≡ Some e) × ((r : KeyRec) → record_with (record { peer = peer; name = name }) t ≡ Some r → record_with (record { peer = peer; name = name }) s ≡ Some r)) ⊎ SentOk t peer name) → AllSent s → AllSent t
sent_keep s t own f a peer e name h n = elim (f peer e name h n) [
  | inl g ↦ (let o = a peer e name g.0 n in record { own = o.own ∙ sym own; pending = λ r at. o.pending r (g.1 r at) })
  | inr g ↦ g
]

peer_ne : (q j : List ℕ) (name : KeyName) (m : KeyRec) → m.peer ≡ j → q ≢ j → record { peer = q; name = name } ≢ record_key m
peer_ne q j name m is ne e = ne (ap (λ (k : RecordKey). k.peer) e ∙ is)

-- the exchange with the peer of the record that is put goes
pub sent_drop : (s t : Party) (j : List ℕ) (m : KeyRec) → t.own ≡ s.own → t.exchanges ≡ drop_row exchange_key bytes_eq j s.exchanges → t.keys ≡ put_row record_key same_record m s.keys → m.peer ≡ j → AllSent s → AllSent t
sent_drop s t j m own ex ks is = sent_keep s t own (λ peer e name h n. (let d = ex_drop s.exchanges j peer e (rw (← ex) h) in inl (d.0, λ r at. put_other s t (record { peer = peer; name = name }) m r ks (peer_ne peer j name m is d.1) at)))

-- or another takes its place
pub sent_put : (s t : Party) (n : Exchange) (m : KeyRec) → t.own ≡ s.own → t.exchanges ≡ put_row exchange_key bytes_eq n s.exchanges → t.keys ≡ put_row record_key same_record m s.keys → m.peer ≡ n.peer → ((name : KeyName) → sent_name_by n.kind ≡ Some name → (name ≡ m.name) × (name.originator ≡ s.own) × (m.status ≡ Pending)) → second_name_by n.kind ≡ None → AllSent s → AllSent t
sent_put s t n m own ex ks is new single = sent_keep s t own (λ peer e name h k. elim (ex_put s.exchanges n peer e (rw (← ex) h)) [
  | inl a ↦ inr (new_ok s t n m own ks is new peer e name a.0 a.1 (sends_one e.kind name (ap (λ (z : Exchange). second_name_by z.kind) (sym a.1) ∙ single) k))
  | inr a ↦ inl (a.0, λ r at. put_other s t (record { peer = peer; name = name }) m r ks (peer_ne peer n.peer name m is a.1) at)
])
  where
    new_ok : (s t : Party) (n : Exchange) (m : KeyRec) → t.own ≡ s.own → t.keys ≡ put_row record_key same_record m s.keys → m.peer ≡ n.peer → ((name : KeyName) → sent_name_by n.kind ≡ Some name → (name ≡ m.name) × (name.originator ≡ s.own) × (m.status ≡ Pending)) → (peer : List ℕ) (e : Exchange) (name : KeyName) → peer ≡ n.peer → n ≡ e → sent_name_by e.kind ≡ Some name → SentOk t peer name
    new_ok s t n m own ks is new peer e name p same k =
        let q = new name (ap (λ (z : Exchange). sent_name_by z.kind) same ∙ k) in
        let key : record { peer = peer; name = name } ≡ record_key m = (let a = p ∙ sym is in let b = q.0 in λ j. record { peer = a j; name = b j }) in
        record { own = q.1 ∙ sym own; pending = λ r f. ap (λ (z : KeyRec). z.status) (sym (put_same s t (record { peer = peer; name = name }) m r ks key f)) ∙ q.2 }

-- or one goes and another comes
pub sent_both : (s t : Party) (j : List ℕ) (n : Exchange) (m : KeyRec) → t.own ≡ s.own → t.exchanges ≡ put_row exchange_key bytes_eq n (drop_row exchange_key bytes_eq j s.exchanges) → t.keys ≡ put_row record_key same_record m s.keys → (m.peer ≡ j) ⊎ (m.peer ≡ n.peer) → ((name : KeyName) → sent_name_by n.kind ≡ Some name → (name ≡ m.name) × (name.originator ≡ s.own) × (m.status ≡ Pending) × (m.peer ≡ n.peer)) → second_name_by n.kind ≡ None → AllSent s → AllSent t
sent_both s t j n m own ex ks is new single = sent_keep s t own (λ peer e name h k. elim (ex_put (drop_row exchange_key bytes_eq j s.exchanges) n peer e (rw (← ex) h)) [
  | inl a ↦ inr (new_ok peer e name a.0 a.1 (sends_one e.kind name (ap (λ (z : Exchange). second_name_by z.kind) (sym a.1) ∙ single) k))
  | inr a ↦ (let d = ex_drop s.exchanges j peer e a.0 in inl (d.0, λ r at. put_other s t (record { peer = peer; name = name }) m r ks (ne peer name d.1 a.1 is) at))
])
  where
    ne : (peer : List ℕ) (name : KeyName) → peer ≢ j → peer ≢ n.peer → (m.peer ≡ j) ⊎ (m.peer ≡ n.peer) → record { peer = peer; name = name } ≢ record_key m
    ne peer name a b (inl i) = peer_ne peer j name m i a
    ne peer name a b (inr i) = peer_ne peer n.peer name m i b

    new_ok : (peer : List ℕ) (e : Exchange) (name : KeyName) → peer ≡ n.peer → n ≡ e → sent_name_by e.kind ≡ Some name → SentOk t peer name
    new_ok peer e name p same k =
        let q = new name (ap (λ (z : Exchange). sent_name_by z.kind) same ∙ k) in
        let key : record { peer = peer; name = name } ≡ record_key m = (let a = p ∙ sym q.3 in let b = q.0 in λ i. record { peer = a i; name = b i }) in
        record { own = q.1 ∙ sym own; pending = λ r f. ap (λ (z : KeyRec). z.status) (sym (put_same s t (record { peer = peer; name = name }) m r ks key f)) ∙ q.2 }

-- the keys stay, and the new exchange waits for none
pub sent_other : (s t : Party) (n : Exchange) → t.own ≡ s.own → t.exchanges ≡ put_row exchange_key bytes_eq n s.exchanges → t.keys ≡ s.keys → sent_name_by n.kind ≡ None → second_name_by n.kind ≡ None → AllSent s → AllSent t
sent_other s t n own ex ks none single = sent_keep s t own (λ peer e name h k. elim (ex_put s.exchanges n peer e (rw (← ex) h)) [
  | inl a ↦ absurd (let q : sent_name_by e.kind ≡ None = ap (λ (z : Exchange). sent_name_by z.kind) (sym a.1) ∙ none in let h : sent_name_by e.kind ≡ Some name = sends_one e.kind name (ap (λ (z : Exchange). second_name_by z.kind) (sym a.1) ∙ single) k in cc)
  | inr a ↦ inl (a.0, λ r at. rw (← ks) at)
])

pub sent_less : (s t : Party) (j : List ℕ) → t.own ≡ s.own → t.exchanges ≡ drop_row exchange_key bytes_eq j s.exchanges → t.keys ≡ s.keys → AllSent s → AllSent t
sent_less s t j own ex ks = sent_keep s t own (λ peer e name h k. inl ((ex_drop s.exchanges j peer e (rw (← ex) h)).0, λ r at. rw (← ks) at))

pub sent_same : (s t : Party) → t.own ≡ s.own → t.exchanges ≡ s.exchanges → ((k : RecordKey) (r : KeyRec) → record_with k t ≡ Some r → record_with k s ≡ Some r) → AllSent s → AllSent t
sent_same s t own ex ks = sent_keep s t own (λ peer e name h k. inl (rw (← ex) h, λ r at. ks (record { peer = peer; name = name }) r at))

-- two records are put, and the exchange with their peer goes
pub sent_drop_two : (s t : Party) (j : List ℕ) (m n : KeyRec) → t.own ≡ s.own → t.exchanges ≡ drop_row exchange_key bytes_eq j s.exchanges → t.keys ≡ put_row record_key same_record n (put_row record_key same_record m s.keys) → m.peer ≡ j → n.peer ≡ j → AllSent s → AllSent t
sent_drop_two s t j m n own ex ks is_m is_n = sent_keep s t own (λ peer e name h k. (let d = ex_drop s.exchanges j peer e (rw (← ex) h) in inl (d.0, λ r at. put_other_two s t (record { peer = peer; name = name }) m n r ks (peer_ne peer j name m is_m d.1) (peer_ne peer j name n is_n d.1) at)))

-- or one that waits for both takes its place
pub sent_put_two : (s t : Party) (e : Exchange) (m n : KeyRec) → t.own ≡ s.own → t.exchanges ≡ put_row exchange_key bytes_eq e s.exchanges → t.keys ≡ put_row record_key same_record n (put_row record_key same_record m s.keys) → m.peer ≡ e.peer → n.peer ≡ e.peer → ((name : KeyName) → SendsName e.kind name → SentOk t e.peer name) → AllSent s → AllSent t
sent_put_two s t x m n own ex ks is_m is_n new = sent_keep s t own (λ peer e name h k. elim (ex_put s.exchanges x peer e (rw (← ex) h)) [
  | inl a ↦ inr (subst (λ (q : List ℕ). SentOk t q name) (sym a.0) (new name (subst (λ (z : Exchange). SendsName z.kind name) (sym a.1) k)))
  | inr a ↦ inl (a.0, λ r at. put_other_two s t (record { peer = peer; name = name }) m n r ks (peer_ne peer x.peer name m is_m a.1) (peer_ne peer x.peer name n is_n a.1) at)
])

-- What an exchange is about

pub record_is : (s : Party) (peer : List ℕ) (name : KeyName) (k : KeyRec) → record_of s peer name ≡ Some k → (record_with (record_key k) s ≡ Some k) × (k.peer ≡ peer) × (name ≡ k.name)
record_is s peer name k i =
    let n : RecordKey = record { peer = peer; name = name } in
    let key : n ≡ record_key k = find_key record_key same_record test_records n k s.keys i in
    (subst (λ (m : RecordKey). record_with m s ≡ Some k) key i, ap (λ (m : RecordKey). m.peer) (sym key), ap (λ (m : RecordKey). m.name) key)

pub record SentIs (s : Party) (peer : List ℕ) (x : Sent) : Type 0 where
  pub at : record_with (record_key x.key) s ≡ Some x.key
  pub peer_is : x.key.peer ≡ peer
  pub exchange : Exchange
  pub stands : exchange_with peer s ≡ Some exchange
  pub kind_is : exchange.kind ≡ kind.KeySent x.key.name x.via

pub sent_is : (s : Party) (peer : List ℕ) (x : Sent) → sent_to s peer ≡ Some x → SentIs s peer x
sent_is s peer x h = go (exchange_with peer s) refl h
  where
    with_record : (e : Exchange) (name : KeyName) (via : Via) (o : Option KeyRec) → exchange_with peer s ≡ Some e → e.kind ≡ kind.KeySent name via → record_of s peer name ≡ o → option_map (λ (k : KeyRec). let t : Sent = record { key = k; via = via } in t) o ≡ Some x → SentIs s peer x
    with_record e name via None i k j h = absurd (cc)
    with_record e name via (Some q) i k j h =
        let t : Sent = record { key = q; via = via } in let is : t ≡ x = cc in
        let r = record_is s peer name q j in
        let kind_q : e.kind ≡ kind.KeySent q.name via = k ∙ ap (λ (n : KeyName). kind.KeySent n via) r.2 in
        subst (SentIs s peer) is (record { at = r.0; peer_is = r.1; exchange = e; stands = i; kind_is = kind_q })

    by_kind : (e : Exchange) (k : Kind) → exchange_with peer s ≡ Some e → e.kind ≡ k → sent_by s peer k ≡ Some x → SentIs s peer x
    by_kind e (kind.KeySent name via) i k h = with_record e name via (record_of s peer name) i k refl h
    by_kind e (kind.Asked u) i k h = absurd (cc)
    by_kind e (kind.Translating u value cta) i k h = absurd (cc)
    by_kind e (kind.Ending name) i k h = absurd (cc)
    by_kind e (kind.PairSent name) i k h = absurd (cc)

    go : (o : Option Exchange) → exchange_with peer s ≡ o → sent_in s peer o ≡ Some x → SentIs s peer x
    go None i h = absurd (cc)
    go (Some e) i h = by_kind e e.kind i refl h

-- the record of an exchange that waits is the party's own, and pending
pub sent_own : (s : Party) (peer : List ℕ) (x : Sent) → AllSent s → SentIs s peer x → (x.key.name.originator ≡ s.own) × (x.key.status ≡ Pending)
sent_own s peer x a h =
    let o = a peer h.exchange x.key.name h.stands (inl (ap sent_name_by h.kind_is)) in
    let key : record_key x.key ≡ record { peer = peer; name = x.key.name } = (let p = h.peer_is in λ i. record { peer = p i; name = x.key.name }) in
    (o.own, o.pending x.key (subst (λ (m : RecordKey). record_with m s ≡ Some x.key) key h.at))

-- two keys that were sent at once: their records stand
pub record TwinsIs (s : Party) (peer : List ℕ) (x : Twins) : Type 0 where
  pub first : record_with (record_key x.first) s ≡ Some x.first
  pub second : record_with (record_key x.second) s ≡ Some x.second
  pub peer_is : x.first.peer ≡ peer
  pub other_peer : x.second.peer ≡ peer
  pub behind : x.second.name ≡ name_behind x.first.name
  pub exchange : Exchange
  pub stands : exchange_with peer s ≡ Some exchange
  pub kind_is : exchange.kind ≡ kind.PairSent x.first.name

pub twins_is : (s : Party) (peer : List ℕ) (x : Twins) → twins_to s peer ≡ Some x → TwinsIs s peer x
twins_is s peer x h =
    let t = twins_at s peer x h in
    let a = record_is s peer t.name x.first t.first in
    let b = record_is s peer (name_behind t.name) x.second t.second in
    record { first = a.0; second = b.0; peer_is = a.1; other_peer = b.1; behind = sym b.2 ∙ ap name_behind a.2; exchange = t.exchange; stands = t.at; kind_is = t.kind_is ∙ ap (λ (n : KeyName). kind.PairSent n) a.2 }

-- they are the party's own, and pending
pub twins_own : (s : Party) (peer : List ℕ) (x : Twins) → AllSent s → TwinsIs s peer x → (x.first.name.originator ≡ s.own) × (x.first.status ≡ Pending) × (x.second.name.originator ≡ s.own) × (x.second.status ≡ Pending)
twins_own s peer x a h =
    let o = a peer h.exchange x.first.name h.stands (inl (ap sent_name_by h.kind_is)) in
    let q = a peer h.exchange x.second.name h.stands (inr (ap second_name_by h.kind_is ∙ (λ i. Some ((sym h.behind) i)))) in
    let key : record_key x.first ≡ record { peer = peer; name = x.first.name } = (let p = h.peer_is in λ i. record { peer = p i; name = x.first.name }) in
    let other : record_key x.second ≡ record { peer = peer; name = x.second.name } = (let p = h.other_peer in λ i. record { peer = p i; name = x.second.name }) in
    (o.own, o.pending x.first (subst (λ (m : RecordKey). record_with m s ≡ Some x.first) key h.first), q.own, q.pending x.second (subst (λ (m : RecordKey). record_with m s ≡ Some x.second) other h.second))

pub twins_apart : (s : Party) (peer : List ℕ) (x : Twins) → TwinsIs s peer x → record_key x.second ≢ record_key x.first
twins_apart s peer x h = behind_other (record_key x.first) (record_key x.second) h.behind

pub ending_is : (s : Party) (peer : List ℕ) (k : KeyRec) → ending_with s peer ≡ Some k → (record_with (record_key k) s ≡ Some k) × (k.peer ≡ peer)
ending_is s peer k h = go (exchange_with peer s) h
  where
    by_kind : (q : Kind) → ending_by s peer q ≡ Some k → (record_with (record_key k) s ≡ Some k) × (k.peer ≡ peer)
    by_kind (kind.Ending name) h = let r = record_is s peer name k h in (r.0, r.1)
    by_kind (kind.KeySent name via) h = absurd (cc)
    by_kind (kind.Asked u) h = absurd (cc)
    by_kind (kind.Translating u value cta) h = absurd (cc)
    by_kind (kind.PairSent name) h = absurd (cc)

    go : (o : Option Exchange) → ending_in s peer o ≡ Some k → (record_with (record_key k) s ≡ Some k) × (k.peer ≡ peer)
    go None h = absurd (cc)
    go (Some e) h = by_kind e.kind h
