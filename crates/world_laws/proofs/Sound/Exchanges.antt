-- What a bank's exchanges tell: no new key-encrypting key waits, and the links and records that are found stand.
use Rattle.std.proofs.Common.{◌≡◌, ℕ, Option, Some, None, List, option_map, refl, sym, ap, subst, Bool, true, false, cond}
use Rattle.x_base.specs.declared.key_name.KeyName.{KeyName}
use Rattle.party_tables.specs.declared.link.LinkKey.{LinkKey}
use Rattle.party_tables.specs.declared.link.LinkRec.{LinkRec}
use Rattle.party_tables.specs.declared.key.RecordKey.{RecordKey}
use Rattle.party_tables.specs.declared.key.KeyRec.{KeyRec}
use Rattle.party_tables.specs.declared.exchange.Via.{Via}
use Rattle.party_tables.specs.declared.exchange.Via.TheVariants as vias
use Rattle.party_tables.specs.declared.exchange.Kind.{Kind}
use Rattle.party_tables.specs.declared.exchange.Kind.TheVariants as kind
use Rattle.party_tables.specs.declared.exchange.Exchange.{Exchange}
use Rattle.party_tables.specs.Keys.{link_key, record_key, same_record, sends}
use Rattle.party_state.specs.State.{Party, centre_label, link_with, record_with, exchange_with}
use Rattle.party_tables.proofs.Keys.{test_records}
use Rattle.party_tables.proofs.Tables.{find_key}
use Rattle.role_base.specs.declared.exchanges.Sent.{Sent}
use Rattle.bank_arrivals.specs.declared.error_message.ErrorSubject.{ErrorSubject}
use Rattle.bank_arrivals.specs.declared.error_message.ErrorSubject.TheVariants.{SentKey, SentTwins, Translated}
use Rattle.role_base.specs.declared.exchanges.Twins.{Twins}
use Rattle.party_tables.specs.Names.{name_behind}
use Rattle.role_base.specs.Exchanges.{record_of, both_of, sent_by, sent_in, sent_to, new_link, new_label, new_link_at}
use Rattle.bank_arrivals.specs.Esm.{subject_by, subject_in, subject_with, via_link, subject_link, is_renewed}
use Rattle.world_laws.proofs.Links.Found.{LinkAt, link_at}

-- a record stands under its key
pub record RecordAt (p : Party) (peer : List ℕ) (name : KeyName) (k : KeyRec) : Type 0 where
  pub found : record_with (record { peer = peer; name = name }) p ≡ Some k
  pub peer_is : k.peer ≡ peer
  pub name_is : k.name ≡ name

pub record_at : (p : Party) (peer : List ℕ) (name : KeyName) (k : KeyRec) → record_of p peer name ≡ Some k → RecordAt p peer name k
record_at p peer name k h =
    let key : record { peer = peer; name = name } ≡ record_key k = find_key record_key same_record test_records _ k p.keys h in
    record { found = h; peer_is = ap (λ (z : RecordKey). z.peer) (sym key); name_is = ap (λ (z : RecordKey). z.name) (sym key) }

-- the exchange with the peer waits for the answer to this key
pub record SentAt (p : Party) (peer : List ℕ) (s : Sent) : Type 0 where
  pub exchange : Exchange
  pub at : exchange_with peer p ≡ Some exchange
  pub name : KeyName
  pub kind_is : exchange.kind ≡ kind.KeySent name s.via
  pub key : RecordAt p peer name s.key

pub sent_at : (p : Party) (peer : List ℕ) (s : Sent) → sent_to p peer ≡ Some s → SentAt p peer s
sent_at p peer s h = by_exchange (exchange_with peer p) refl h
  where
    by_record : (e : Exchange) (name : KeyName) (via : Via) → exchange_with peer p ≡ Some e → e.kind ≡ kind.KeySent name via → (o : Option KeyRec) → record_of p peer name ≡ o → option_map (λ (k : KeyRec). let t : Sent = record { key = k; via = via } in t) o ≡ Some s → SentAt p peer s
    by_record e name via at k None f h = absurd (cc)
    by_record e name via at k (Some r) f h =
        let t : Sent = record { key = r; via = via } in
        let is : t ≡ s = cc in
        subst (SentAt p peer) is (record { exchange = e; at = at; name = name; kind_is = k; key = record_at p peer name r f })

    by_kind : (e : Exchange) → exchange_with peer p ≡ Some e → (k : Kind) → e.kind ≡ k → sent_by p peer k ≡ Some s → SentAt p peer s
    by_kind e at (kind.KeySent name via) k h = by_record e name via at k (record_of p peer name) refl h
    by_kind e at (kind.Asked ultimate) k h = absurd (cc)
    by_kind e at (kind.Translating ultimate value cta) k h = absurd (cc)
    by_kind e at (kind.Ending name) k h = absurd (cc)
    by_kind e at (kind.PairSent name) k h = absurd (cc)

    by_exchange : (o : Option Exchange) → exchange_with peer p ≡ o → sent_in p peer o ≡ Some s → SentAt p peer s
    by_exchange None at h = absurd (cc)
    by_exchange (Some e) at h = by_kind e at e.kind refl h

-- an error message speaks of a key that was sent
pub subject_sent : (p : Party) (peer : List ℕ) (s : Sent) → subject_with p peer ≡ Some (SentKey s) → sent_to p peer ≡ Some s
subject_sent p peer s h = by_exchange (exchange_with peer p) h
  where
    by_option : (o : Option Sent) → option_map SentKey o ≡ Some (SentKey s) → o ≡ Some s
    by_option None h = absurd (cc)
    by_option (Some t) h = (let is : t ≡ s = cc in ap (λ (z : Sent). let o : Option Sent = Some z in o) is)

    by_twins : {A : Type 0} (o : Option Twins) → option_map SentTwins o ≡ Some (SentKey s) → A
    by_twins None h = absurd (cc)
    by_twins (Some t) h = absurd (cc)

    by_kind : (k : Kind) → subject_by p peer k ≡ Some (SentKey s) → sent_by p peer k ≡ Some s
    by_kind (kind.KeySent name via) h = by_option (sent_by p peer (kind.KeySent name via)) h
    by_kind (kind.Asked ultimate) h = absurd (cc)
    by_kind (kind.Translating ultimate value cta) h = absurd (cc)
    by_kind (kind.Ending name) h = absurd (cc)
    by_kind (kind.PairSent name) h = by_twins (both_of (record_of p peer name) (record_of p peer (name_behind name))) h

    by_exchange : (o : Option Exchange) → subject_in p peer o ≡ Some (SentKey s) → sent_in p peer o ≡ Some s
    by_exchange None h = absurd (cc)
    by_exchange (Some e) h = by_kind e.kind h

-- the link of a new key-encrypting key is one with the peer
pub new_peer : (p : Party) (peer : List ℕ) (via : Via) (l : LinkRec) → new_link p peer via ≡ Some l → l.peer ≡ peer
new_peer p peer via l h = by_label (new_label via) h
  where
    by_label : (o : Option (List ℕ)) → new_link_at p peer o ≡ Some l → l.peer ≡ peer
    by_label None h = absurd (cc)
    by_label (Some label) h = (let at : LinkAt p (sends peer label) l = link_at p (sends peer label) l h in ap (λ (k : LinkKey). k.peer) at.key)

-- the link whose count an error message tells
pub subject_link_at : (p : Party) (peer : List ℕ) (s : ErrorSubject) (l : LinkRec) → subject_link p peer s ≡ Some l → link_with (link_key l) p ≡ Some l
subject_link_at p peer (SentKey s) l h = by_via s.via h
  where
    by_new : (label : List ℕ) (b : Bool) → cond b None (link_with (sends peer label) p) ≡ Some l → link_with (link_key l) p ≡ Some l
    by_new label true h = absurd (cc)
    by_new label false h = (let at : LinkAt p (sends peer label) l = link_at p (sends peer label) l h in rw at.key h)

    by_via : (w : Via) → via_link p peer w ≡ Some l → link_with (link_key l) p ≡ Some l
    by_via (vias.Direct label new) h = by_new label (is_renewed label new) h
    by_via (vias.Distribution centre cta) h = absurd (cc)
    by_via (vias.Translation centre) h = absurd (cc)
subject_link_at p peer (SentTwins t) l h = (let at : LinkAt p (sends peer t.first.name.label) l = link_at p (sends peer t.first.name.label) l h in rw at.key h)
subject_link_at p peer (Translated value cta) l h = (let at : LinkAt p (sends peer centre_label) l = link_at p (sends peer centre_label) l h in rw at.key h)
