-- What holds of the end of every run, or of every honest one (this project's profile).
use Rattle.std.specs.Prelude.{◌≡◌, ◌≢◌, ◌⊎◌, ℕ, Some, List, All, AllPairs, Contains, cond, bytes_eq}
use Rattle.x_base.specs.declared.key_name.KeyName.{KeyName}
use Rattle.x_base.specs.declared.key_name.FullName.{FullName}
use Rattle.party_tables.specs.declared.key.RecordKey.{RecordKey}
use Rattle.party_tables.specs.declared.key.KeyRec.{KeyRec}
use Rattle.party_tables.specs.declared.key.KeyStatus.{KeyStatus}
use Rattle.party_tables.specs.declared.key.KeyStatus.TheVariants.{Pending, Live, Held, Closing, Ended}
use Rattle.party_tables.specs.Names.{full_name}
use Rattle.party_state.specs.State.{record_with}
use Rattle.party_state.specs.Rows.{Class, OfKsm, OfAnswer, OfDsm}
use Rattle.member.specs.Member.{Member}
use Rattle.world_laws.specs.World.{KkUse, Acceptance, World, member_at}

-- no count of a key-encrypting key is used twice

abbrev pub SameCount : KkUse → KkUse → Type 0
SameCount a b = (a.kk ≡ b.kk) × (a.count ≡ b.count)

abbrev pub OneKeyPerCount : World → Type 0
OneKeyPerCount w = AllPairs (λ a b. ¬ (SameCount a b)) w.uses

-- each key service message takes effect at most once: of two that one party accepted, neither a name of their keys nor
-- their texts are the same

abbrev pub AcceptedApart : Acceptance → Acceptance → Type 0
AcceptedApart a b = a.class ≡ OfKsm → b.class ≡ OfKsm → a.party ≡ b.party → ((u : FullName) → Contains a.names u → ¬ (Contains b.names u)) × (a.text ≢ b.text)

abbrev pub Once : World → Type 0
Once w = AllPairs AcceptedApart w.acceptances

-- a key that its originator counts as live is held by its partner, with the same value, name and counter, unless the
-- partner accepted its end

abbrev pub IsLive : KeyStatus → Type 0
IsLive Pending = ⊥
IsLive Live = Unit {0}
IsLive Held = ⊥
IsLive Closing = Unit {0}
IsLive Ended = ⊥

abbrev pub IsHeld : KeyStatus → Type 0
IsHeld Pending = ⊥
IsHeld Live = ⊥
IsHeld Held = Unit {0}
IsHeld Closing = Unit {0}
IsHeld Ended = ⊥

-- a party accepted a message of this class about this key
pub record HasAccepted (accs : List Acceptance) (class : Class) (party : List ℕ) (under : FullName) : Type 0 where
  pub acceptance : Acceptance
  pub stands : Contains accs acceptance
  pub class_is : acceptance.class ≡ class
  pub party_is : acceptance.party ≡ party
  pub among : Contains acceptance.names under

-- the partner holds the key of this record, with this value
pub record HoldsKey (ms : List Member) (partner : List ℕ) (k : RecordKey) (value : ℕ) : Type 0 where
  pub member : Member
  pub at : member_at partner ms ≡ Some member
  pub entry : KeyRec
  pub found : record_with k member.party ≡ Some entry
  pub held : IsHeld entry.status
  pub value_is : entry.value ≡ value

abbrev pub Agreement : World → Type 0
Agreement w = (p : List ℕ) (x : Member) (q : List ℕ) (name : KeyName) (k : KeyRec) → member_at p w.members ≡ Some x → record_with (record { peer = q; name = name }) x.party ≡ Some k
    → name.originator ≡ p → IsLive k.status
    → HoldsKey w.members q (record { peer = p; name = name }) k.value ⊎ HasAccepted w.acceptances OfDsm q (record { name = name; recipient = q })

-- where a party accepted the answer to the end of a key, the partner's record of it is ended or absent

abbrev pub partner_of : List ℕ → FullName → List ℕ
partner_of p u = cond (bytes_eq u.name.originator p) u.recipient u.name.originator

-- each record of this full name at this party is ended
abbrev pub IsEndedAt : List Member → List ℕ → FullName → Type 0
IsEndedAt ms p u = (x : Member) (k : RecordKey) (r : KeyRec) → member_at p ms ≡ Some x → record_with k x.party ≡ Some r → full_name p r ≡ u → r.status ≡ Ended

abbrev pub EndedBoth : World → Type 0
EndedBoth w = All (λ (a : Acceptance). a.class ≡ OfAnswer → (u : FullName) → Contains a.names u → IsEndedAt w.members (partner_of a.party u) u) w.acceptances
