-- A play that ends early: for what the disks stand, and what was written (this project's profile).
use Rattle.std.specs.Prelude.{◌≡◌, ◌≤◌, ◌++◌, ℕ, true, List, [], ◌∷◌, Option, Some}
use Rattle.x_base.specs.Edge.{AppendsTo}
use Rattle.x_disk.specs.Disk.{View, Tells, IsDurable}
use Rattle.scenario.specs.declared.line.Line.{Line}
use Rattle.member.specs.Member.{Member}
use Rattle.world_laws.specs.World.{member_at}
use Rattle.world_laws.specs.Events.{Event}
use Rattle.world_laws.specs.Steps.{step}
use Rattle.world_laws.specs.Honest.{HonestAt}
use Rattle.node_core.specs.Turns.{member_of, IsImageOf}
use Rattle.course.specs.Course.{Course, LinesLead}
use Rattle.replay.specs.Course.{IsAt}
use Rattle.course.specs.LineEvents.{LineEvent}
use Rattle.open_parties.specs.OpenParties.{IsOf, AreOpen}
use Rattle.replay.specs.Crash.{IsBehind}
use Rattle.open_parties.specs.Crash.{held_of, disk_of}
use Rattle.open_parties.specs.declared.failure.Ending.{Ending}
use Rattle.course.specs.declared.progress.Progress.{Progress}
use Rattle.replay.specs.declared.play_state.PlayState.{PlayState}
use Rattle.open_parties.specs.declared.open_party.OpenParty.{OpenParty}
use Rattle.open_parties.specs.declared.open_party.PartyDisk.{PartyDisk}
use Rattle.open_parties.specs.declared.open_party.PartyDisk.TheVariants.{Open, Closed, Away}
use Rattle.course.specs.Parts.{IsEventOf, IsPartDone, IsPartOf, MakesEventOrNone}
use Rattle.open_parties.specs.declared.failure.Ending.TheVariants as ending
use Rattle.open_parties.specs.declared.failure.Failure.TheVariants as failure

-- the disk tells its bytes, and what a read gives of it stands for the member
pub record TellsAndReadsAs (v : View) (x : Member) : Type 0 where
  pub tells : Tells v
  pub stands : (image : List ℕ) → v.now ≡ Some image → IsImageOf x image

-- the disk under each member's identity stands for it, as a read of it gives
abbrev pub AreOnShelf : (List ℕ → View) → List Member → Type 0
AreOnShelf entry members = (own : List ℕ) (x : Member) → member_at own members ≡ Some x → TellsAndReadsAs (entry own) x

-- a crash leaves of the disk under each member's identity what a read gives
abbrev pub AreDurable : (List ℕ → View) → List Member → Type 0
AreDurable entry members = (own : List ℕ) (x : Member) → member_at own members ≡ Some x → IsDurable (entry own)

-- what is held of a party, or its disk on the shelf where nothing is held, stands for this member
abbrev pub StandsForMember : {D : Type 0} → (D → View) → (List ℕ → View) → List ℕ → PartyDisk D → Member → Type 0
StandsForMember told entry own (Open node) x = IsOf true told own node × (member_of node ≡ x)
StandsForMember told entry own (Closed disk) x = (x.party.own ≡ own) × TellsAndReadsAs (told disk) x
StandsForMember told entry own Away x = (x.party.own ≡ own) × TellsAndReadsAs (entry own) x

-- the open parties stand for these members, in their order
abbrev pub StandForAll : {D : Type 0} → (D → View) → (List ℕ → View) → List (OpenParty D) → List Member → Type 0
StandForAll told entry [] [] = Unit {0}
StandForAll told entry [] (x ∷ members) = ⊥
StandForAll told entry (s ∷ open_parties) [] = ⊥
StandForAll told entry (s ∷ open_parties) (x ∷ members) = StandsForMember told entry s.own s.held x × StandForAll told entry open_parties members

-- nothing is held of the party of this name, or not its open disk
abbrev pub IsShut : {D : Type 0} → PartyDisk D → Type 0
IsShut (Open node) = ⊥
IsShut (Closed disk) = Unit {0}
IsShut Away = Unit {0}

-- of the disk of each member that isn't open, a crash leaves an image for the member before what happens, or behind it
abbrev pub LeavesShut : {D : Type 0} → (D → View) → (List ℕ → View) → Course → LineEvent → List (OpenParty D) → Type 0
LeavesShut told entry c h open_parties = (own : List ℕ) (x : Member) → member_at own c.world.members ≡ Some x → IsShut (held_of open_parties own)
    → (image : List ℕ) → (disk_of told entry open_parties own).may_leave image → IsBehind c h own image

-- an honest event was whole or cut, or none has begun; the disks stand for the network behind it, and a beginning of its
-- lines is out. Where the sink failed, the event is done
pub record IsBrokenAt {D : Type 0} (told : D → View) (entry : List ℕ → View) (before after : ℕ) (start : Option (List ℕ)) (c : Course) (h : LineEvent) (new : PlayState D) (written : Option (List ℕ)) (why : Ending) : Type 0 where
  pub event : Event
  pub is : IsEventOf c.now.moment h event
  pub honest : HonestAt c.world.facts (member_at event.party c.world.members) event.action
  pub stands : StandForAll told entry new.parties (step c.now.number c.world event).members
  pub part : List ℕ
  pub part_is : IsPartOf before after c h event part
  pub done : why ≡ ending.Write → IsPartDone before after c h event part
  -- each disk is open where the sink failed
  pub opened : why ≡ ending.Write → AreOpen new.parties
  -- of a disk that isn't, a crash leaves the party before what happens or behind it
  pub leaves : LeavesShut told entry c h new.parties
  pub out : AppendsTo start written (c.transcript ++ part)

-- the play broke off, and not at an image that stands for no party
abbrev pub IsBreak : Ending → Type 0
IsBreak (ending.Forged n) = ⊥
IsBreak ending.Write = Unit {0}
IsBreak (ending.Failed failure.Fault) = Unit {0}
IsBreak (ending.Failed failure.NoMemory) = Unit {0}
IsBreak (ending.Failed (failure.Damaged place)) = ⊥

-- the lines led up to one at which the play broke off
pub record IsBrokenIn {D : Type 0} (told : D → View) (entry : List ℕ → View) (before after : ℕ) (start : Option (List ℕ)) (lines : List Line) (c : Course) (new : PlayState D) (written : Option (List ℕ)) (why : Ending) : Type 0 where
  pub front : List Line
  pub line : Line
  pub back : List Line
  pub split : lines ≡ front ++ line ∷ back
  pub mid : Course
  pub leads : LinesLead true before after front c mid
  pub line_event : LineEvent
  pub makes_event : MakesEventOrNone line mid.world.texts line_event
  pub broken : IsBrokenAt told entry before after start mid line_event new written why

abbrev pub BreaksIn : {D : Type 0} → (D → View) → (List ℕ → View) → ℕ → ℕ → List Line → PlayState D → PlayState D → Progress → Option (List ℕ) → Option (List ℕ) → Ending → Type 0
BreaksIn told entry low high lines old new p written next why = (before after : ℕ) → before ≤ low → high ≤ after → (start : Option (List ℕ)) (c : Course) → IsAt true told start c old p written
    → IsBreak why × IsBrokenIn told entry before after start lines c new next why
