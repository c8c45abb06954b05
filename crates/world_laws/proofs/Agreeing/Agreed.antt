-- What each moment of an honest run keeps.
use Rattle.std.proofs.Common.{◌≡◌, ◌⊎◌, ℕ, true, not, Some, None, List}
use Rattle.party_tables.specs.declared.link.LinkRec.{LinkRec}
use Rattle.party_tables.specs.declared.key.RecordKey.{RecordKey}
use Rattle.party_tables.specs.declared.key.KeyRec.{KeyRec}
use Rattle.party_tables.specs.Tables.{Distinct, put_row}
use Rattle.party_tables.specs.Keys.{same_record, record_key, sends, takes}
use Rattle.party_tables.specs.Statuses.{is_ended}
use Rattle.party_state.specs.State.{Party, centre_label, link_with, record_with, exchange_with}
use Rattle.party_tables.proofs.Keys.{test_records}
use Rattle.member.specs.Member.{Member}
use Rattle.world_laws.specs.World.{member_at}
use Rattle.world_laws.specs.Starts.{HasOtherEnd}
use Rattle.world_laws.specs.Facts.{IsMadeBySender, KsmApart}
use Rattle.std.proofs.Common.{AllPairs, All}
use Rattle.party_tables.proofs.Distinct.{distinct_put, distinct_filter}
use Rattle.world_laws.proofs.Agreeing.Lists.{Lists, Goes, WaitsMove}
use Rattle.world_laws.proofs.Agreeing.Waiting.{NewsMove, AllSent}
use Rattle.world_laws.proofs.Agreeing.Known.{KeysKnown}
use Rattle.world_laws.proofs.Agreeing.KeyRecords.{KeysMove, unmoved, one, two, purged, IsPut}
use Rattle.world_laws.proofs.Agreeing.Facts.{FactOk, RtrApart, AcceptedOk, LiveAccepted}

pub keys_on : (v w : Lists) (s t : Party) → KeysMove v w s t → Distinct record_key same_record s.keys → Distinct record_key same_record t.keys
keys_on v w s t (unmoved e) d = rw e d
keys_on v w s t (one m e fine) d = rw e (distinct_put record_key same_record test_records m s.keys d)
keys_on v w s t (two m n ne e fine second) d = rw e (distinct_put record_key same_record test_records n (put_row record_key same_record m s.keys) (distinct_put record_key same_record test_records m s.keys d))
keys_on v w s t (purged e) d = rw e (distinct_filter record_key same_record (λ (k : KeyRec). not (is_ended k.status)) s.keys d)

-- a member before and after
pub record Forward (v w : Lists) (x : Member) (t : Party) (z y : Member) : Type 0 where
  pub goes : Goes z.party y.party
  pub waits : WaitsMove z.party y.party
  pub news : NewsMove z.party y.party
  pub sending : (peer label : List ℕ) (m : LinkRec) → link_with (sends peer label) y.party ≡ Some m → ((l : LinkRec) × (link_with (sends peer label) z.party ≡ Some l) × (m.pair ≡ l.pair)) ⊎ (exchange_with peer z.party ≡ None)
  pub keys : (k : RecordKey) (r : KeyRec) → record_with k y.party ≡ Some r → (record_with k z.party ≡ Some r) ⊎ ((z ≡ x) × IsPut v w x.party t k r)

-- each link for sending to a centre is ready
abbrev pub CentresReady : List Member → Type 0
CentresReady ms = (p : List ℕ) (x : Member) (peer : List ℕ) (l : LinkRec) → member_at p ms ≡ Some x → link_with (sends peer centre_label) x.party ≡ Some l → l.ready ≡ true

-- each ready link for sending has its other end
abbrev pub ReadyEnds : List Member → Type 0
ReadyEnds ms = (p : List ℕ) (x : Member) (peer label : List ℕ) (l : LinkRec) → member_at p ms ≡ Some x → link_with (sends peer label) x.party ≡ Some l → l.ready ≡ true → HasOtherEnd ms peer (takes p label) l

-- what each moment of an honest run keeps
pub record Agreed (v : Lists) : Type 0 where
  pub centres : CentresReady v.members
  pub ends : ReadyEnds v.members
  pub tables : (p : List ℕ) (x : Member) → member_at p v.members ≡ Some x → Distinct record_key same_record x.party.keys
  pub known : (p : List ℕ) (x : Member) → member_at p v.members ≡ Some x → KeysKnown v x.party
  pub sent : (p : List ℕ) (x : Member) → member_at p v.members ≡ Some x → AllSent x.party
  pub facts : All (FactOk v) v.facts
  pub apart : AllPairs RtrApart v.facts
  pub names : AllPairs KsmApart v.facts
  pub made : All IsMadeBySender v.facts
  pub accepted : All (AcceptedOk v) v.acceptances
  pub live : LiveAccepted v
