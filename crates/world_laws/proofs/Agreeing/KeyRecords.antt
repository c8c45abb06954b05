-- How key records change: why one may be put, and what stays of the others.
use Rattle.std.proofs.Common.{arith, ◌≡◌, ◌≢◌, ◌⊎◌, inl, inr, ℕ, ◌≤◌, Bool, true, false, not, cond, Some, List, refl, sym, ◌∙◌, ap, subst, filter}
use Rattle.x_base.specs.declared.key_name.FullName.{FullName}
use Rattle.party_tables.specs.declared.link.LinkRec.{LinkRec}
use Rattle.party_tables.specs.declared.key.RecordKey.{RecordKey}
use Rattle.party_tables.specs.declared.key.KeyRec.{KeyRec}
use Rattle.party_tables.specs.declared.key.KeyStatus.{KeyStatus}
use Rattle.party_tables.specs.declared.key.KeyStatus.TheVariants.{Pending, Live, Held, Closing, Ended}
use Rattle.party_tables.specs.Tables.{Distinct, find_row, put_row}
use Rattle.party_tables.specs.Keys.{same_record, record_key, sends}
use Rattle.party_tables.specs.Names.{full_name}
use Rattle.party_tables.specs.Statuses.{is_ended}
use Rattle.party_state.specs.State.{Party, link_with, record_with}
use Rattle.party_state.specs.Rows.{OfKsm, OfDsm, OfAnswer}
use Rattle.party_tables.proofs.Keys.{test_records}
use Rattle.party_tables.proofs.Tables.{one_found, find_put, find_put_same, filter_keeps}
use Rattle.party_tables.proofs.Distinct.{filter_back}
use Rattle.world_laws.specs.World.{Acceptance}
use Rattle.world_laws.specs.Laws.{IsHeld, HasAccepted}
use Rattle.world_laws.proofs.Agreeing.Lists.{Counts, Lists, to_peer, to_own}
use Rattle.world_laws.proofs.Agreeing.Known.{Issued, Mine, counted, issued, Known, mine, theirs, full_theirs}

-- an end of the key was accepted
abbrev pub Gone : List Acceptance → List ℕ → FullName → Type 0
Gone accs p u = HasAccepted accs OfDsm p u ⊎ HasAccepted accs OfAnswer p u

abbrev pub NotTaken : List Acceptance → List ℕ → RecordKey → Type 0
NotTaken accs own k = ¬ (HasAccepted accs OfKsm own (to_own k own))

-- why a record may be put: it stands, or its name is new
pub data KeyPut (v : Lists) (s : Party) (m : KeyRec) : Type 0 where
  changed : (k : KeyRec) → record_with (record_key m) s ≡ Some k → m.value ≡ k.value → (k.status ≡ Ended → m.status ≡ Ended) → KeyPut v s m
  fresh : (l : LinkRec) → link_with (sends m.peer m.name.label) s ≡ Some l → l.next ≤ m.name.count → m.name.originator ≡ s.own → m.name.issuer ≡ s.own → KeyPut v s m
  taken : m.name.originator ≢ s.own → NotTaken v.acceptances s.own (record_key m) → KeyPut v s m
  brought : m.name.originator ≡ s.own → m.name.issuer ≢ s.own → ¬ (Issued v.facts s (record_key m)) → KeyPut v s m

-- a name of the party's own that is past isn't put anew
pub data StandsBefore (s : Party) (m : KeyRec) : Type 0 where
  before : (k : KeyRec) → record_with (record_key m) s ≡ Some k → m.value ≡ k.value → (k.status ≡ Ended → m.status ≡ Ended) → StandsBefore s m

pub mine_stands : (v : Lists) (s : Party) (k : RecordKey) (m : KeyRec) → k ≡ record_key m → k.name.originator ≡ s.own → Mine v.facts s k → KeyPut v s m → StandsBefore s m
mine_stands v s k m e own p (changed u at value ended) = before u at value ended
mine_stands v s k m e own (counted i l h r below) (fresh j at low o i') =
    let peer : k.peer ≡ m.peer = ap (λ (n : RecordKey). n.peer) e in
    let label : k.name.label ≡ m.name.label = ap (λ (n : RecordKey). n.name.label) e in
    let count : k.name.count ≡ m.name.count = ap (λ (n : RecordKey). n.name.count) e in
    let at_j : link_with (sends k.peer k.name.label) s ≡ Some j = rw (peer, label) at in
    let next : l.next ≡ j.next = ap (λ (y : LinkRec). y.next) (one_found l j h at_j) in
    absurd (omega (arith, below, low, next, count))
mine_stands v s k m e own (issued other i) (fresh j at low o i') = absurd (other (ap (λ (n : RecordKey). n.name.issuer) e ∙ i'))
mine_stands v s k m e own p (taken other not_before) = absurd (other (sym (ap (λ (n : RecordKey). n.name.originator) e) ∙ own))
mine_stands v s k m e own (counted i l h r below) (brought o other not_before) = absurd (other (sym (ap (λ (n : RecordKey). n.name.issuer) e) ∙ i))
mine_stands v s k m e own (issued other i) (brought o other' not_before) = absurd (not_before (subst (Issued v.facts s) e i))

-- nor is any other name that is past
pub known_stands : (v : Lists) (s : Party) (k : RecordKey) (m : KeyRec) → k ≡ record_key m → Known v s k → KeyPut v s m → StandsBefore s m
known_stands v s k m e (mine own p) put = mine_stands v s k m e own p put
known_stands v s k m e (theirs o peer a) (changed u at value ended) = before u at value ended
known_stands v s k m e (theirs o peer a) (fresh l j low own i) = absurd (o (ap (λ (z : RecordKey). z.name.originator) e ∙ own))
known_stands v s k m e (theirs o peer a) (taken other not_before) = absurd (not_before (subst (λ (z : RecordKey). HasAccepted v.acceptances OfKsm s.own (to_own z s.own)) e a))
known_stands v s k m e (theirs o peer a) (brought own i not_before) = absurd (o (ap (λ (z : RecordKey). z.name.originator) e ∙ own))

pub record KeyFine (v w : Lists) (s t : Party) (m : KeyRec) : Type 0 where
  pub put : KeyPut v s m
  pub live : Counts m.status → m.name.originator ≡ s.own → HasAccepted w.acceptances OfKsm m.peer (to_peer (record_key m))
  pub known : Known w t (record_key m)
  pub gone : (k : KeyRec) → record_with (record_key m) s ≡ Some k → IsHeld k.status → IsHeld m.status ⊎ Gone w.acceptances s.own (full_name s.own m)

pub data KeysMove (v w : Lists) (s t : Party) : Type 0 where
  unmoved : t.keys ≡ s.keys → KeysMove v w s t
  one : (m : KeyRec) → t.keys ≡ put_row record_key same_record m s.keys → KeyFine v w s t m → KeysMove v w s t
  two : (m n : KeyRec) → record_key n ≢ record_key m → t.keys ≡ put_row record_key same_record n (put_row record_key same_record m s.keys) → KeyFine v w s t m → KeyFine v w s t n → KeysMove v w s t
  purged : t.keys ≡ filter (λ (k : KeyRec). not (is_ended k.status)) s.keys → KeysMove v w s t

pub record IsPut (v w : Lists) (s t : Party) (k : RecordKey) (r : KeyRec) : Type 0 where
  pub key : k ≡ record_key r
  pub fine : KeyFine v w s t r

-- what is found after a record was put is that one, or was found before
pub put_case : (ks : List KeyRec) (k : RecordKey) (m r : KeyRec) → find_row record_key same_record k (put_row record_key same_record m ks) ≡ Some r → ((k ≡ record_key m) × (m ≡ r)) ⊎ (find_row record_key same_record k ks ≡ Some r)
put_case ks k m r h = go (same_record k (record_key m)) refl (sym (find_put record_key same_record test_records k m ks) ∙ h)
  where
    go : (b : Bool) → same_record k (record_key m) ≡ b → cond b (Some m) (find_row record_key same_record k ks) ≡ Some r → ((k ≡ record_key m) × (m ≡ r)) ⊎ (find_row record_key same_record k ks ≡ Some r)
    go true i h = inl ((test_records.decides k (record_key m)).0 i, cc)
    go false i h = inr h

-- under its key it is found, and under another what was found before

pub put_is : (ks : List KeyRec) (k : RecordKey) (m r : KeyRec) → k ≡ record_key m → find_row record_key same_record k (put_row record_key same_record m ks) ≡ Some r → m ≡ r
put_is ks k m r key h = one_found m r (subst (λ (z : RecordKey). find_row record_key same_record z (put_row record_key same_record m ks) ≡ Some m) (sym key) (find_put_same record_key same_record test_records m ks)) h

pub put_under : (ks : List KeyRec) (k : RecordKey) (m r : KeyRec) → k ≢ record_key m → find_row record_key same_record k (put_row record_key same_record m ks) ≡ Some r → find_row record_key same_record k ks ≡ Some r
put_under ks k m r ne h = elim (put_case ks k m r h) [ inl a ↦ absurd (ne a.0) | inr a ↦ a ]

-- or as it was found before
pub put_then : (ks : List KeyRec) (k : RecordKey) (m : KeyRec) → ((k ≡ record_key m) × (find_row record_key same_record k (put_row record_key same_record m ks) ≡ Some m)) ⊎ (find_row record_key same_record k (put_row record_key same_record m ks) ≡ find_row record_key same_record k ks)
put_then ks k m = go (same_record k (record_key m)) refl (find_put record_key same_record test_records k m ks)
  where
    go : (b : Bool) → same_record k (record_key m) ≡ b → find_row record_key same_record k (put_row record_key same_record m ks) ≡ cond b (Some m) (find_row record_key same_record k ks) → ((k ≡ record_key m) × (find_row record_key same_record k (put_row record_key same_record m ks) ≡ Some m)) ⊎ (find_row record_key same_record k (put_row record_key same_record m ks) ≡ find_row record_key same_record k ks)
    go true i h = inl ((test_records.decides k (record_key m)).0 i, h)
    go false i h = inr h

pub put_beside : (ks : List KeyRec) (k : RecordKey) (m : KeyRec) → k ≢ record_key m → find_row record_key same_record k (put_row record_key same_record m ks) ≡ find_row record_key same_record k ks
put_beside ks k m ne = elim (put_then ks k m) [ inl a ↦ absurd (ne a.0) | inr a ↦ a ]

pub key_cases : (v w : Lists) (s t : Party) → Distinct record_key same_record s.keys → KeysMove v w s t → (k : RecordKey) (r : KeyRec) → record_with k t ≡ Some r → (record_with k s ≡ Some r) ⊎ IsPut v w s t k r
key_cases v w s t d (unmoved e) k r h = inl (rw (← e) h)
key_cases v w s t d (purged e) k r h = inl (filter_back record_key same_record test_records (λ (y : KeyRec). not (is_ended y.status)) k r s.keys d (rw (← e) h))
key_cases v w s t d (one m e fine) k r h = elim (put_case s.keys k m r (rw (← e) h)) [
  | inl a ↦ inr (subst (λ (n : KeyRec). IsPut v w s t k n) a.1 (record { key = a.0; fine = fine }))
  | inr a ↦ inl a
]
key_cases v w s t d (two m n ne e fine other) k r h = elim (put_case (put_row record_key same_record m s.keys) k n r (rw (← e) h)) [
  | inl a ↦ inr (subst (λ (z : KeyRec). IsPut v w s t k z) a.1 (record { key = a.0; fine = other }))
  | inr b ↦ elim (put_case s.keys k m r b) [
    | inl a ↦ inr (subst (λ (z : KeyRec). IsPut v w s t k z) a.1 (record { key = a.0; fine = fine }))
    | inr a ↦ inl a
  ]
]

pub held_not_ended : (x : KeyStatus) → IsHeld x → not (is_ended x) ≡ true
held_not_ended Pending h = refl
held_not_ended Live h = refl
held_not_ended Held h = refl
held_not_ended Closing h = refl
held_not_ended Ended h = absurd h

-- another's key that is put
put_forward : (v w : Lists) (s t : Party) (k : RecordKey) (r : KeyRec) → record_with k s ≡ Some r → IsHeld r.status → k.name.originator ≢ s.own → k.peer ≡ k.name.originator → HasAccepted v.acceptances OfKsm s.own (to_own k s.own) → (m : KeyRec) → KeyFine v w s t m → k ≡ record_key m → record_with k t ≡ Some m → ((q : KeyRec) × (record_with k t ≡ Some q) × IsHeld q.status × (q.value ≡ r.value)) ⊎ Gone w.acceptances s.own (to_own k s.own)
put_forward v w s t k r h held other peer a m fine key at = go (known_stands v s k m key (theirs other peer a) fine.put)
  where
    go : StandsBefore s m → ((q : KeyRec) × (record_with k t ≡ Some q) × IsHeld q.status × (q.value ≡ r.value)) ⊎ Gone w.acceptances s.own (to_own k s.own)
    go (before u i value ended) =
        let i_k : record_with (record_key m) s ≡ Some r = rw (← key) h in
        let is : u ≡ r = one_found u r i i_k in
        let u_held : IsHeld u.status = subst (λ (z : KeyRec). IsHeld z.status) (sym is) held in
        let other_m : m.name.originator ≢ s.own = (λ o. other (ap (λ (z : RecordKey). z.name.originator) key ∙ o)) in
        let full_is : full_name s.own m ≡ to_own k s.own = full_theirs s.own (record_key m) other_m ∙ ap (λ (z : RecordKey). to_own z s.own) (sym key) in
        elim (fine.gone u i u_held) [
          | inl x ↦ inl (m, at, x, value ∙ ap (λ (z : KeyRec). z.value) is)
          | inr x ↦ inr (subst (Gone w.acceptances s.own) full_is x)
        ]

-- another's key that was accepted is held on with its value, or gone
pub held_forward : (v w : Lists) (s t : Party) → KeysMove v w s t → (k : RecordKey) (r : KeyRec) → record_with k s ≡ Some r → IsHeld r.status → k.name.originator ≢ s.own → k.peer ≡ k.name.originator → HasAccepted v.acceptances OfKsm s.own (to_own k s.own) → ((q : KeyRec) × (record_with k t ≡ Some q) × IsHeld q.status × (q.value ≡ r.value)) ⊎ Gone w.acceptances s.own (to_own k s.own)
held_forward v w s t (unmoved e) k r h held other peer a = inl (r, rw e h, held, refl)
held_forward v w s t (purged e) k r h held other peer a = inl (r, rw e (filter_keeps record_key same_record (λ (y : KeyRec). not (is_ended y.status)) k r s.keys (held_not_ended r.status held) h), held, refl)
held_forward v w s t (one m e fine) k r h held other peer a = elim (put_then s.keys k m) [
  | inl b ↦ put_forward v w s t k r h held other peer a m fine b.0 (rw e b.1)
  | inr b ↦ inl (r, rw e (b ∙ h), held, refl)
]
held_forward v w s t (two m n ne e fine second) k r h held other peer a = elim (put_then (put_row record_key same_record m s.keys) k n) [
  | inl b ↦ put_forward v w s t k r h held other peer a n second b.0 (rw e b.1)
  | inr b ↦ elim (put_then s.keys k m) [
    | inl c ↦ put_forward v w s t k r h held other peer a m fine c.0 (rw e (b ∙ c.1))
    | inr c ↦ inl (r, rw e (b ∙ (c ∙ h)), held, refl)
  ]
]
