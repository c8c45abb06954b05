-- A run in which a key becomes live (this project's profile).
use Rattle.std.specs.Prelude.{◌≡◌, ℕ, List, [], ◌∷◌, Some, Contains}
use Rattle.x_base.specs.declared.key_name.FullName.{FullName}
use Rattle.x_base.specs.declared.party.Role.{Role}
use Rattle.x_base.specs.declared.key_name.KeyName.{KeyName}
use Rattle.party_tables.specs.declared.key.RecordKey.{RecordKey}
use Rattle.party_tables.specs.declared.key.KeyRec.{KeyRec}
use Rattle.party_tables.specs.declared.key.KeyStatus.TheVariants.{Live, Ended}
use Rattle.party_tables.specs.Names.{name_behind}
use Rattle.party_state.specs.Rows.{OfKsm, OfAnswer, OfDsm}
use Rattle.party_state.specs.State.{record_with}
use Rattle.member.specs.Member.{Member}
use Rattle.world_laws.specs.World.{Fact, Birth, Acceptance, World, member_at}
use Rattle.world_laws.specs.Events.{Event, CutNew, AreEvents}
use Rattle.world_laws.specs.Steps.{step, run}
use Rattle.world_laws.specs.Honest.{HonestRun, IsForged}
use Rattle.world_laws.specs.Starts.{IsStart}
use Rattle.world_laws.specs.Laws.{IsLive, HoldsKey, HasAccepted}

-- a key is live at its originator, and its partner holds it
pub record HasLiveKey (w : World) : Type 0 where
  pub member : Member
  pub at : member_at member.party.own w.members ≡ Some member
  pub key : RecordKey
  pub mine : key.name.originator ≡ member.party.own
  pub entry : KeyRec
  pub found : record_with key member.party ≡ Some entry
  pub live : entry.status ≡ Live
  pub held : HoldsKey w.members key.peer (record { peer = member.party.own; name = key.name }) entry.value

-- an honest run from a start that ends so
pub record LiveRun : Type 0 where
  pub start : World
  pub events : List Event
  pub is_start : IsStart start
  pub are_events : AreEvents events
  pub honest : HonestRun 1 start events
  pub live : HasLiveKey (run 1 start events)

-- what kind of key it is

abbrev pub LiveKind : Type 1
LiveKind = (w : World) → HasLiveKey w → Type 0

-- a centre of this role issued it
pub record IsIssuedBy (role : Role) (w : World) (l : HasLiveKey w) : Type 0 where
  pub centre : Member
  pub at : member_at l.key.name.issuer w.members ≡ Some centre
  pub role_is : centre.party.role ≡ role

-- it went under a key-encrypting key that was made in the run
pub record IsUnderNewKk (w : World) (l : HasLiveKey w) : Type 0 where
  pub birth : Birth
  pub stands : Contains w.births birth
  pub originator : birth.originator ≡ l.member.party.own
  pub recipient : birth.recipient ≡ l.key.peer
  pub label : birth.label ≡ l.key.name.label

-- it went with another in one message: the key whose count is one higher is live and held too
pub record IsFirstOfTwo (w : World) (l : HasLiveKey w) : Type 0 where
  pub entry : KeyRec
  pub found : record_with (record { peer = l.key.peer; name = name_behind l.key.name }) l.member.party ≡ Some entry
  pub live : entry.status ≡ Live
  pub held : HoldsKey w.members l.key.peer (record { peer = l.member.party.own; name = name_behind l.key.name }) entry.value
  pub taken : Acceptance
  pub stands : Contains w.acceptances taken
  pub class_is : taken.class ≡ OfKsm
  pub names_are : taken.names ≡ record { name = l.key.name; recipient = l.key.peer } ∷ record { name = name_behind l.key.name; recipient = l.key.peer } ∷ []

pub record EndsWithLive (Kind : LiveKind) (w : World) : Type 0 where
  pub live : HasLiveKey w
  pub kind : Kind w live

-- an honest run from a start that ends with a live key of this kind
pub record LiveRunOf (Kind : LiveKind) : Type 0 where
  pub start : World
  pub events : List Event
  pub is_start : IsStart start
  pub are_events : AreEvents events
  pub honest : HonestRun 1 start events
  pub end : EndsWithLive Kind (run 1 start events)

-- an honest run from a start that ends so
pub record HonestRunTo (P : World → Type 0) : Type 0 where
  pub start : World
  pub events : List Event
  pub is_start : IsStart start
  pub are_events : AreEvents events
  pub honest : HonestRun 1 start events
  pub end : P (run 1 start events)

-- of two keys that went in one message the partner ended the first before its answer came: both are ended at their originator,
-- and the partner holds the second
pub record LeavesSecond (w : World) : Type 0 where
  pub member : Member
  pub at : member_at member.party.own w.members ≡ Some member
  pub peer : List ℕ
  pub name : KeyName
  pub first : KeyRec
  pub first_found : record_with (record { peer = peer; name = name }) member.party ≡ Some first
  pub first_ended : first.status ≡ Ended
  pub second : KeyRec
  pub second_found : record_with (record { peer = peer; name = name_behind name }) member.party ≡ Some second
  pub second_ended : second.status ≡ Ended
  pub held : HoldsKey w.members peer (record { peer = member.party.own; name = name_behind name }) second.value

-- the first event of the run was cut off with the new state: a code was made at it, and nothing was written; its key becomes live
pub record LivesAfterCut (start : World) (events : List Event) : Type 0 where
  pub first : Event
  pub rest : List Event
  pub events_are : events ≡ first ∷ rest
  pub cut : first.completion ≡ CutNew
  pub fact : Fact
  pub made : Contains (step 1 start first).facts fact
  pub unwritten : (step 1 start first).texts ≡ []
  pub live : HasLiveKey (run 1 start events)

pub record RunAfterCut : Type 0 where
  pub start : World
  pub events : List Event
  pub is_start : IsStart start
  pub are_events : AreEvents events
  pub honest : HonestRun 1 start events
  pub lives : LivesAfterCut start events

-- a key counts as live at its originator, and its partner accepted its end: the partner's record of it is ended
pub record PartnerEnded (w : World) : Type 0 where
  pub member : Member
  pub at : member_at member.party.own w.members ≡ Some member
  pub key : RecordKey
  pub mine : key.name.originator ≡ member.party.own
  pub entry : KeyRec
  pub found : record_with key member.party ≡ Some entry
  pub counts : IsLive entry.status
  pub accepted : HasAccepted w.acceptances OfDsm key.peer (record { name = key.name; recipient = key.peer })
  pub partner : Member
  pub partner_at : member_at key.peer w.members ≡ Some partner
  pub other : KeyRec
  pub other_found : record_with (record { peer = member.party.own; name = key.name }) partner.party ≡ Some other
  pub ended : other.status ≡ Ended

-- the answer to the end of a key was accepted, and the key is ended at both ends
pub record EndsAnswered (w : World) : Type 0 where
  pub member : Member
  pub at : member_at member.party.own w.members ≡ Some member
  pub key : RecordKey
  pub under : FullName
  pub under_is : under ≡ record { name = key.name; recipient = key.peer }
  pub answered : HasAccepted w.acceptances OfAnswer member.party.own under
  pub entry : KeyRec
  pub found : record_with key member.party ≡ Some entry
  pub ended : entry.status ≡ Ended
  pub partner : Member
  pub partner_at : member_at key.peer w.members ≡ Some partner
  pub other : KeyRec
  pub other_found : record_with (record { peer = member.party.own; name = key.name }) partner.party ≡ Some other
  pub other_ended : other.status ≡ Ended

-- a run from a start with a forged event
pub record ForgedRun : Type 0 where
  pub start : World
  pub events : List Event
  pub is_start : IsStart start
  pub are_events : AreEvents events
  pub number : ℕ
  pub forged : IsForged 1 start events number
