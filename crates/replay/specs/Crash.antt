-- What a crash may leave of the disks of a scenario's parties, at any moment of its playing (this project's profile).
use Rattle.std.specs.Prelude.{◌≡◌, ◌⊎◌, ◌++◌, ◌≤◌, ℕ, true, List, [], ◌∷◌, take, Option, Some, Contains}
use Rattle.x_disk.specs.Disk.{View, LeavesOnly}
use Rattle.key_journal.specs.Journal.{is_blank}
use Rattle.scenario.specs.declared.line.Line.{Line}
use Rattle.member.specs.Member.{Member}
use Rattle.node_core.specs.Turns.{IsImageOf}
use Rattle.world_laws.specs.World.{World, member_at}
use Rattle.world_laws.specs.Events.{Event}
use Rattle.world_laws.specs.Steps.{step}
use Rattle.world_laws.specs.Honest.{HonestAt}
use Rattle.course.specs.Acts.{Means}
use Rattle.course.specs.Course.{Course, LinesLead}
use Rattle.course.specs.LineEvents.{LineEvent, MakesEvent, IsFormed}
use Rattle.course.specs.Parties.{line_of_party, new_member}
use Rattle.course.specs.Parts.{IsBegun}
use Rattle.course.specs.Starts.{loads_of, start_course, with_loads}
use Rattle.course.specs.declared.act.LineAct.{LineAct}
use Rattle.course.specs.declared.declaring.NewParty.{NewParty}
use Rattle.course.specs.declared.progress.Progress.{Progress}
use Rattle.replay.specs.Course.{IsAt}
use Rattle.replay.specs.PlayState.{Shows}
use Rattle.replay.specs.declared.play_state.PlayState.{PlayState}
use Rattle.open_parties.specs.declared.open_party.OpenParty.{OpenParty}
use Rattle.open_parties.specs.Crash.{disk_of, IsHeldStill}

-- at any moment from `old` to `new` a crash leaves an image that has P, or one that it could leave at first
abbrev pub AddsOnly : View → View → (List ℕ → Type 0) → Type 0
AddsOnly old new P = LeavesOnly old new (λ image. P image ⊎ old.may_leave image)

-- ---- which images may be left

-- the image stands for the party of this name in the network, with its room
pub record IsPartyOf (w : World) (own image : List ℕ) : Type 0 where
  pub member : Member
  pub at : member_at own w.members ≡ Some member
  pub stands : IsImageOf member image

-- the image stands for the party of this name behind an honest event of what happens, which is whole or cut
pub record IsBehind (c : Course) (h : LineEvent) (own image : List ℕ) : Type 0 where
  pub event : Event
  pub is : IsBegun c.now.moment h event
  pub honest : HonestAt c.world.facts (member_at event.party c.world.members) event.action
  pub party : IsPartyOf (step c.now.number c.world event) own image

-- behind the event of the next line, if there is one
pub record IsBehindLine (line : Line) (c : Course) (own image : List ℕ) : Type 0 where
  pub line_event : LineEvent
  pub makes_event : MakesEvent line c.world.texts line_event
  pub formed : IsFormed line_event
  pub behind : IsBehind c line_event own image

abbrev pub IsBehindNext : List Line → Course → List ℕ → List ℕ → Type 0
IsBehindNext [] c own image = ⊥
IsBehindNext (line ∷ back) c own image = IsBehindLine line c own image

-- some of the lines, from the first on, lead to a course. The image stands for the party of this name there, or behind the
-- event of the next line, which is whole or cut
pub record IsOfLines (before after : ℕ) (lines : List Line) (start : Course) (own image : List ℕ) : Type 0 where
  pub front : List Line
  pub back : List Line
  pub split : lines ≡ front ++ back
  pub course : Course
  pub leads : LinesLead true before after front start course
  pub party : IsPartyOf course.world own image ⊎ IsBehindNext back course own image

-- the image stands for the party of this name as its line declares it, with none or some of its links, in their order, and with
-- the room that they leave
pub record IsMadeInPart (lines : List Line) (own image : List ℕ) : Type 0 where
  pub party : NewParty
  pub declared : Contains lines (line_of_party party)
  pub named : party.own ≡ own
  pub links : ℕ
  pub stands : IsImageOf (with_loads (new_member party) (take links (loads_of own lines))) image

-- in the set-up: no party yet, or a part of it
abbrev pub IsSetUpInPart : List Line → List ℕ → List ℕ → Type 0
IsSetUpInPart lines own image = (is_blank image ≡ true) ⊎ IsMadeInPart lines own image

-- in the whole play, between counts of the shelf's faults
abbrev pub IsOfPlay : ℕ → ℕ → List Line → List ℕ → List ℕ → Type 0
IsOfPlay before after lines own image = IsSetUpInPart lines own image ⊎ IsOfLines before after lines (start_course lines) own image

-- ---- one event

-- in what happens nothing is done to a party's disk, or a crash leaves at any moment of it the party behind it, whole or cut
abbrev pub IsCrossed : {D : Type 0} → (D → View) → (List ℕ → View) → (List ℕ → View) → List (OpenParty D) → List (OpenParty D) → Course → LineEvent → List ℕ → Type 0
IsCrossed told before after old new c h own = IsHeldStill told before after old new own ⊎ LeavesOnly (disk_of told before old own) (disk_of told after new own) (IsBehind c h own)

-- from every course that the old state shows; `before` and `after` are what the shelf tells
abbrev pub Crosses : {D : Type 0} → (D → View) → (List ℕ → View) → (List ℕ → View) → LineAct → PlayState D → PlayState D → Progress → Type 0
Crosses told before after a old new now = (c : Course) (h : LineEvent) → c.now ≡ now → Shows true told c.world old → Means a h → (own : List ℕ) → IsCrossed told before after old.parties new.parties c h own

-- ---- some lines

abbrev pub CrossesLines : {D : Type 0} → (D → View) → (List ℕ → View) → (List ℕ → View) → ℕ → ℕ → List Line → PlayState D → PlayState D → Progress → Option (List ℕ) → Type 0
CrossesLines told first last low high lines old new now written = (before after : ℕ) → before ≤ low → high ≤ after → (start : Option (List ℕ)) (c : Course) → IsAt true told start c old now written
    → (own : List ℕ) → AddsOnly (disk_of told first old.parties own) (disk_of told last new.parties own) (IsOfLines before after lines c own)
