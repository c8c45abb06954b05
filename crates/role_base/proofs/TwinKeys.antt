-- Two keys that were sent at once: what the exchange tells of their records, whose keys differ.
use Rattle.std.proofs.Common.{arith, ◌≡◌, ◌≢◌, ◌+◌, ℕ, false, Option, Some, None, List, refl, sym, ◌∙◌, ap, subst}
use Rattle.std.proofs.lemmas.Bool.{false_from_ne_true}
use Rattle.x_base.specs.declared.key_name.KeyName.{KeyName}
use Rattle.party_tables.specs.declared.exchange.Exchange.{Exchange}
use Rattle.party_tables.specs.declared.exchange.Kind.{Kind}
use Rattle.party_tables.specs.declared.exchange.Kind.TheVariants as kind
use Rattle.party_tables.specs.declared.key.KeyRec.{KeyRec}
use Rattle.party_tables.specs.declared.key.RecordKey.{RecordKey}
use Rattle.party_state.specs.declared.edit.Edit.TheVariants.{PutKey}
use Rattle.party_tables.specs.Keys.{same_record, record_key}
use Rattle.party_tables.specs.Names.{name_behind}
use Rattle.party_state.specs.State.{Party, record_with, exchange_with, apply_edit}
use Rattle.role_base.specs.declared.exchanges.Twins.{Twins}
use Rattle.role_base.specs.Exchanges.{record_of, both_of, twins_by, twins_in, twins_to}
use Rattle.role_base.proofs.PartyLaws.{KeysFound, KeyLaws, KeysInRange, key_put_same}
use Rattle.party_tables.specs.Ranges.{IsRecord}
use Rattle.party_state.specs.Ranges.{IsParty}
use Rattle.x_base.specs.Count.{IsCount}

-- the exchange with the peer waits for the answer to these two keys
pub record TwinsAt (p : Party) (peer : List ℕ) (t : Twins) : Type 0 where
  pub exchange : Exchange
  pub at : exchange_with peer p ≡ Some exchange
  pub name : KeyName
  pub kind_is : exchange.kind ≡ kind.PairSent name
  pub first : record_of p peer name ≡ Some t.first
  pub second : record_of p peer (name_behind name) ≡ Some t.second

pub twins_at : (p : Party) (peer : List ℕ) (t : Twins) → twins_to p peer ≡ Some t → TwinsAt p peer t
twins_at p peer t h = by_exchange (exchange_with peer p) refl h
  where
    by_records : (e : Exchange) (name : KeyName) → exchange_with peer p ≡ Some e → e.kind ≡ kind.PairSent name → (a b : Option KeyRec) → record_of p peer name ≡ a → record_of p peer (name_behind name) ≡ b → both_of a b ≡ Some t → TwinsAt p peer t
    by_records e name at k None b f g h = absurd (cc)
    by_records e name at k (Some r) None f g h = absurd (cc)
    by_records e name at k (Some r) (Some s) f g h =
        let made : Twins = record { first = r; second = s } in
        let is : made ≡ t = cc in
        subst (TwinsAt p peer) is (record { exchange = e; at = at; name = name; kind_is = k; first = f; second = g })

    by_kind : (e : Exchange) → exchange_with peer p ≡ Some e → (k : Kind) → e.kind ≡ k → twins_by p peer k ≡ Some t → TwinsAt p peer t
    by_kind e at (kind.PairSent name) k h = by_records e name at k (record_of p peer name) (record_of p peer (name_behind name)) refl refl h
    by_kind e at (kind.KeySent name via) k h = absurd (cc)
    by_kind e at (kind.Asked ultimate) k h = absurd (cc)
    by_kind e at (kind.Translating ultimate value cta) k h = absurd (cc)
    by_kind e at (kind.Ending name) k h = absurd (cc)

    by_exchange : (o : Option Exchange) → exchange_with peer p ≡ o → twins_in p peer o ≡ Some t → TwinsAt p peer t
    by_exchange None at h = absurd (cc)
    by_exchange (Some e) at h = by_kind e at e.kind refl h

-- no record stands behind the last count
pub none_behind : KeysFound → KeysInRange → (p : Party) (peer : List ℕ) (name : KeyName) (o : Option KeyRec) → IsParty p → (IsCount (name.count + 1) → ⊥) → o ≡ None → o ≡ record_of p peer (name_behind name)
none_behind found in_range p peer name o w last n = n ∙ sym (go (record_of p peer (name_behind name)) refl)
  where
    go : (r : Option KeyRec) → record_of p peer (name_behind name) ≡ r → r ≡ None
    go None f = refl
    go (Some k) f =
        let key : record { peer = peer; name = name_behind name } ≡ record_key k = found (record { peer = peer; name = name_behind name }) k p f in
        let named : k.name ≡ name_behind name = ap (λ (z : RecordKey). z.name) (sym key) in
        let range : IsRecord k = in_range (record { peer = peer; name = name_behind name }) k p w f in
        absurd (last (subst (λ (n : KeyName). IsCount n.count) named range.name.count))

-- a name isn't the one behind it
pub behind_other : (j k : RecordKey) → k.name ≡ name_behind j.name → k ≢ j
behind_other j k e i = let count : k.name.count ≡ j.name.count + 1 = ap (λ (n : KeyName). n.count) e in let same : k.name.count ≡ j.name.count = ap (λ (z : RecordKey). z.name.count) i in omega (arith, count, same)

-- a record isn't another
pub other_record : KeyLaws → (j k : RecordKey) → k ≢ j → same_record k j ≡ false
other_record keys j k ne = false_from_ne_true (same_record k j) (λ e. ne ((keys.same k j).0 e))

-- a record that was put stands, also where another is put behind it
pub key_put_then : KeyLaws → (p : Party) (j k : KeyRec) → record_key k ≢ record_key j → record_with (record_key j) (apply_edit (PutKey k) (apply_edit (PutKey j) p)) ≡ Some j
key_put_then keys p j k ne =
    let other : same_record (record_key j) (record_key k) ≡ false = other_record keys (record_key k) (record_key j) (λ e. ne (sym e)) in
    keys.put (record_key j) k (apply_edit (PutKey j) p) ∙ (rw other refl ∙ key_put_same keys j p)

-- the records of a name, and of the one behind it
pub records_apart : KeysFound → (p : Party) (peer : List ℕ) (name : KeyName) (j k : KeyRec) → record_of p peer name ≡ Some j → record_of p peer (name_behind name) ≡ Some k → record_key k ≢ record_key j
records_apart found p peer name j k f g =
    let fj : record { peer = peer; name = name } ≡ record_key j = found (record { peer = peer; name = name }) j p f in
    let fk : record { peer = peer; name = name_behind name } ≡ record_key k = found (record { peer = peer; name = name_behind name }) k p g in
    behind_other (record_key j) (record_key k) (ap (λ (z : RecordKey). z.name) (sym fk) ∙ ap (λ (z : RecordKey). name_behind z.name) fj)
