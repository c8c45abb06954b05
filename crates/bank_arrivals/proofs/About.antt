-- What an exchange is about, where it was looked up; and a record that is put in place of another.
use Rattle.std.proofs.Common.{◌≡◌, ◌≢◌, ◌↔◌, ℕ, true, false, Option, Some, None, List, [], option_map, refl, sym, ap, ◌∙◌}
use Rattle.x_base.specs.declared.key_name.KeyName.{KeyName}
use Rattle.party_tables.specs.declared.link.LinkRec.{LinkRec}
use Rattle.party_tables.specs.declared.key.KeyRec.{KeyRec}
use Rattle.party_tables.specs.declared.exchange.Via.{Via}
use Rattle.party_tables.specs.declared.exchange.Kind.{Kind}
use Rattle.party_tables.specs.declared.exchange.Kind.TheVariants as kind
use Rattle.party_tables.specs.declared.exchange.Exchange.{Exchange}
use Rattle.std.proofs.lemmas.Bool.{false_from_ne_true}
use Rattle.party_tables.specs.declared.key.RecordKey.{RecordKey}
use Rattle.party_tables.specs.Keys.{record_key, same_record, same_name, link_key, sends}
use Rattle.party_state.specs.State.{Party, exchange_with, apply_edit}
use Rattle.party_state.specs.declared.edit.Edit.TheVariants.{PutLink, PutKey}
use Rattle.party_tables.specs.Names.{name_behind}
use Rattle.role_base.specs.declared.exchanges.Sent.{Sent}
use Rattle.role_base.specs.declared.exchanges.Twins.{Twins}
use Rattle.role_base.proofs.TwinKeys.{twins_at}
use Rattle.role_base.specs.Exchanges.{record_of, sent_by, sent_in, sent_to, both_of, twins_to, ending_by, ending_in, ending_with}
use Rattle.bank_arrivals.specs.declared.error_message.ErrorSubject.{ErrorSubject}
use Rattle.bank_arrivals.specs.declared.error_message.ErrorSubject.TheVariants.{SentKey, SentTwins, Translated}
use Rattle.bank_arrivals.specs.Esm.{subject_by, subject_in, subject_with}
use Rattle.role_base.specs.Conditions.{is_for}
use Rattle.role_base.proofs.Addressed.{for_me}
use Rattle.role_base.proofs.PartyLaws.{LinkLaws, KeyLaws, put_over, key_put_over}
use Rattle.bank_arrivals.specs.Heard.{IsAbout, HasKey, HasLink, IsTo}

-- when two names are one
pub names_same : KeyLaws → (a b : KeyName) → (same_name a b ≡ true) ↔ (a ≡ b)
names_same keys a b =
    let same : (same_name a b ≡ true) ↔ (record { peer = []; name = a } ≡ record { peer = []; name = b }) = keys.same (record { peer = []; name = a }) (record { peer = []; name = b }) in
    (λ h. ap (λ (k : RecordKey). k.name) (same.0 h), λ e. same.1 (ap (λ (n : KeyName). record { peer = []; name = n }) e))

-- a record that is put in place of the one that stands
pub put_found : KeyLaws → (p : Party) (peer : List ℕ) (name : KeyName) (k x : KeyRec) → HasKey p peer name k → record_key x ≡ record_key k → HasKey (apply_edit (PutKey x) p) peer name x
put_found keys p peer name k x h e = key_put_over keys (record { peer = peer; name = name }) k x p h e

-- a record that is put beside the one that stands
pub put_beside : KeyLaws → (p : Party) (peer : List ℕ) (name : KeyName) (k x : KeyRec) → HasKey p peer name k → record_key x ≢ record_key k → HasKey (apply_edit (PutKey x) p) peer name k
put_beside keys p peer name k x h ne =
    let key : RecordKey = record { peer = peer; name = name } in
    let is : key ≡ record_key k = keys.found key k p h in
    let other : same_record key (record_key x) ≡ false = false_from_ne_true (same_record key (record_key x)) (λ e. ne (sym ((keys.same key (record_key x)).0 e) ∙ is)) in
    keys.put key x p ∙ (rw other refl ∙ h)

-- the same of a link
pub put_link_found : LinkLaws → (p : Party) (peer label : List ℕ) (l x : LinkRec) → HasLink p peer label l → link_key x ≡ link_key l → HasLink (apply_edit (PutLink x) p) peer label x
put_link_found links p peer label l x h e = put_over links (sends peer label) l x p h e

-- who a message is for
pub is_to : (p : Party) (receiver originator : List ℕ) → is_for p receiver originator ≡ true → IsTo p receiver originator
is_to p receiver originator h = let w : (receiver ≡ p.own) × (originator ≢ p.own) = for_me p receiver originator h in record { receiver = w.0; originator = w.1 }

-- a key that was sent
pub record FoundSent (p : Party) (peer : List ℕ) (s : Sent) : Type 0 where
  pub name : KeyName
  pub sent : IsAbout p peer (kind.KeySent name s.via)
  pub stands : HasKey p peer name s.key

sent_named : (p : Party) (peer : List ℕ) (s : Sent) (name : KeyName) (via : Via) (o : Option KeyRec) → IsAbout p peer (kind.KeySent name via) → record_of p peer name ≡ o → option_map (λ (k : KeyRec). let t : Sent = record { key = k; via = via } in t) o ≡ Some s → FoundSent p peer s
sent_named p peer s name via None a f h = absurd (cc)
sent_named p peer s name via (Some k) a f h =
    let t : Sent = record { key = k; via = via } in
    let e : s ≡ t = cc in
    rw e (record { name = name; sent = a; stands = f })

sent_kind : (p : Party) (peer : List ℕ) (s : Sent) (x : Kind) → IsAbout p peer x → sent_by p peer x ≡ Some s → FoundSent p peer s
sent_kind p peer s (kind.KeySent name via) a h = sent_named p peer s name via (record_of p peer name) a refl h
sent_kind p peer s (kind.Asked ultimate) a h = absurd (cc)
sent_kind p peer s (kind.Translating ultimate value cta) a h = absurd (cc)
sent_kind p peer s (kind.Ending name) a h = absurd (cc)
sent_kind p peer s (kind.PairSent name) a h = absurd (cc)

about : (p : Party) (peer : List ℕ) (e : Exchange) → exchange_with peer p ≡ Some e → IsAbout p peer e.kind
about p peer e f = ap (λ (o : Option Exchange). option_map (λ (x : Exchange). x.kind) o) f

pub found_sent : (p : Party) (peer : List ℕ) (s : Sent) → sent_to p peer ≡ Some s → FoundSent p peer s
found_sent p peer s h = go (exchange_with peer p) refl h
  where
    go : (o : Option Exchange) → exchange_with peer p ≡ o → sent_in p peer o ≡ Some s → FoundSent p peer s
    go None f h = absurd (cc)
    go (Some e) f h = sent_kind p peer s e.kind (about p peer e f) h

-- a key whose end was sent
pub record FoundEnding (p : Party) (peer : List ℕ) (k : KeyRec) : Type 0 where
  pub name : KeyName
  pub ending : IsAbout p peer (kind.Ending name)
  pub stands : HasKey p peer name k

pub found_ending : (p : Party) (peer : List ℕ) (k : KeyRec) → ending_with p peer ≡ Some k → FoundEnding p peer k
found_ending p peer k h = go (exchange_with peer p) refl h
  where
    by_kind : (x : Kind) → IsAbout p peer x → ending_by p peer x ≡ Some k → FoundEnding p peer k
    by_kind (kind.Ending name) a h = record { name = name; ending = a; stands = h }
    by_kind (kind.KeySent name via) a h = absurd (cc)
    by_kind (kind.Asked ultimate) a h = absurd (cc)
    by_kind (kind.Translating ultimate value cta) a h = absurd (cc)
    by_kind (kind.PairSent name) a h = absurd (cc)

    go : (o : Option Exchange) → exchange_with peer p ≡ o → ending_in p peer o ≡ Some k → FoundEnding p peer k
    go None f h = absurd (cc)
    go (Some e) f h = by_kind e.kind (about p peer e f) h

-- two keys that were sent in one message
pub record FoundTwins (p : Party) (peer : List ℕ) (t : Twins) : Type 0 where
  pub name : KeyName
  pub sent : IsAbout p peer (kind.PairSent name)
  pub first : HasKey p peer name t.first
  pub second : HasKey p peer (name_behind name) t.second

pub found_twins : (p : Party) (peer : List ℕ) (t : Twins) → twins_to p peer ≡ Some t → FoundTwins p peer t
found_twins p peer t h =
    let at = twins_at p peer t h in
    record { name = at.name; sent = about p peer at.exchange at.at ∙ ap (λ (k : Kind). Some k) at.kind_is; first = at.first; second = at.second }

-- what an error message speaks of
abbrev pub FoundSubject : Party → List ℕ → ErrorSubject → Type 0
FoundSubject p peer (SentKey s) = FoundSent p peer s
FoundSubject p peer (SentTwins t) = FoundTwins p peer t
FoundSubject p peer (Translated value cta) = (u : List ℕ) × IsAbout p peer (kind.Translating u value cta)

pub found_subject : (p : Party) (peer : List ℕ) (s : ErrorSubject) → subject_with p peer ≡ Some s → FoundSubject p peer s
found_subject p peer s h = go (exchange_with peer p) refl h
  where
    by_sent : (x : Kind) (o : Option Sent) → IsAbout p peer x → sent_by p peer x ≡ o → option_map SentKey o ≡ Some s → FoundSubject p peer s
    by_sent x None a f h = absurd (cc)
    by_sent x (Some t) a f h = let e : s ≡ SentKey t = cc in rw e (sent_kind p peer t x a f)

    by_records : (name : KeyName) (i j : Option KeyRec) → IsAbout p peer (kind.PairSent name) → record_of p peer name ≡ i → record_of p peer (name_behind name) ≡ j → option_map SentTwins (both_of i j) ≡ Some s → FoundSubject p peer s
    by_records name None j a f g h = absurd (cc)
    by_records name (Some i) None a f g h = absurd (cc)
    by_records name (Some i) (Some j) a f g h =
        let t : Twins = record { first = i; second = j } in
        let e : s ≡ SentTwins t = cc in
        rw e (record { name = name; sent = a; first = f; second = g })

    by_kind : (x : Kind) → IsAbout p peer x → subject_by p peer x ≡ Some s → FoundSubject p peer s
    by_kind (kind.KeySent name via) a h = by_sent (kind.KeySent name via) (sent_by p peer (kind.KeySent name via)) a refl h
    by_kind (kind.Translating ultimate value cta) a h = let e : s ≡ Translated value cta = cc in rw e (ultimate, a)
    by_kind (kind.Asked ultimate) a h = absurd (cc)
    by_kind (kind.Ending name) a h = absurd (cc)
    by_kind (kind.PairSent name) a h = by_records name (record_of p peer name) (record_of p peer (name_behind name)) a refl refl h

    go : (o : Option Exchange) → exchange_with peer p ≡ o → subject_in p peer o ≡ Some s → FoundSubject p peer s
    go None f h = absurd (cc)
    go (Some e) f h = by_kind e.kind (about p peer e f) h
