-- How the parties of a scenario are set up on their disks (this project's profile).
use Rattle.std.specs.Prelude.{◌≡◌, ◌≢◌, ◌⊎◌, ◌+◌, ◌*◌, ◌<◌, ◌≤◌, ◌++◌, ℕ, Bool, true, false, length, take, List, [], ◌∷◌, Contains, Option, Some, None, is_some, codes}
use Rattle.x_disk.specs.Disk.{View, Tells, LeavesOnly}
use Rattle.x_disk.specs.Shelf.{IsAlike, AllStay, OthersStay}
use Rattle.key_journal.specs.Journal.{is_blank}
use Rattle.key_journal.specs.declared.cause.Cause.{Cause}
use Rattle.party_state.specs.Limits.{most_links}
use Rattle.x_base.specs.declared.party.Side.TheVariants.{Takes}
use Rattle.party_tables.specs.declared.link.LinkRec.{LinkRec}
use Rattle.party_state.specs.declared.edit.Edit.TheVariants.{PutLink}
use Rattle.change_code.specs.Cost.{cost}
use Rattle.change_code.specs.declared.format.Format.TheVariants.{Two}
use Rattle.key_store.specs.Store.{Stored, space}
use Rattle.scenario.specs.declared.line.Line.{Line}
use Rattle.member.specs.Member.{Member}
use Rattle.node_core.specs.Turns.{member_of, IsImageOf, IsOldOrNext}
use Rattle.replay.specs.Breaking.{AreOnShelf, AreDurable}
use Rattle.replay.specs.Crash.{AddsOnly, IsSetUpInPart}
use Rattle.open_parties.specs.Crash.{disk_of}
use Rattle.open_parties.specs.Failing.{IsFailing}
use Rattle.open_parties.specs.Closing.{AllSlots, AreApart, OtherDisksStay}
use Rattle.open_parties.specs.OpenParties.{open_party, members, owners, AreOpen, AreIn}
use Rattle.course.specs.Starts.{with_load, with_loads, loads_of, members_by}
use Rattle.open_parties.specs.declared.failure.Failure.{Failure}
use Rattle.course.specs.declared.declaring.NewParty.{NewParty}
use Rattle.replay.specs.declared.making.SetUpEnd.{SetUpEnd}
use Rattle.replay.specs.declared.making.SetUpEnd.TheVariants.{NotEmpty, Failed}
use Rattle.open_parties.specs.declared.open_party.OpenParty.{OpenParty}
use Rattle.open_parties.specs.declared.open_party.PartyDisk.TheVariants.{Open}
use Rattle.course.specs.Parties.{line_of_party, parties_in, new_member, full_member}
use Rattle.key_journal.specs.declared.cause.Cause.TheVariants as cause
use Rattle.open_parties.specs.declared.failure.Failure.TheVariants as failure

-- ---- the parties of a scenario, and their disks

-- each party's disk tells its bytes
abbrev pub AllTell : (List ℕ → View) → List (List ℕ) → Type 0
AllTell entry [] = Unit {0}
AllTell entry (own ∷ owners) = Tells (entry own) × AllTell entry owners

abbrev pub ReadsBlank : View → Type 0
ReadsBlank v = (image : List ℕ) → v.now ≡ Some image → is_blank image ≡ true

abbrev pub AllReadBlank : (List ℕ → View) → List (List ℕ) → Type 0
AllReadBlank entry [] = Unit {0}
AllReadBlank entry (own ∷ owners) = ReadsBlank (entry own) × AllReadBlank entry owners

-- ---- one party is set up on a disk

-- a load whose code is as long as any: identities and labels have at most 16 bytes
abbrev pub longest_link : LinkRec
longest_link = record { peer = codes "AAAAAAAAAAAAAAAA"; label = codes "AAAAAAAAAAAAAAAA"; side = Takes; pair = record { left = 0; right = 0 }; next = 1; ready = true }

-- what a load costs at most
unfoldable pub longest_load : ℕ
longest_load = cost Two (PutLink longest_link ∷ [])

-- the room of a party that has begun, at least: one byte more than all its loads take
abbrev pub least_room : ℕ
least_room = most_links * longest_load + 1

-- the disk was blank, and stands for the party that begins
pub record HasBegun {D : Type 0} (told : D → View) (old : View) (party : NewParty) (s : Stored D) : Type 0 where
  pub blank : ReadsBlank old
  pub tells : is_some (told s.disk).now ≡ is_some old.now
  pub member : member_of s ≡ new_member party
  pub room : least_room ≤ (space s).room

-- one more link has its place, in the party and on its disk
pub record HasPlace {D : Type 0} (s : Stored D) : Type 0 where
  pub few : length s.party.links < most_links
  pub room : longest_load < (space s).room

abbrev pub CanLoad : {D : Type 0} → Stored D → Option LinkRec → Type 0
CanLoad s None = Unit {0}
CanLoad s (Some l) = HasPlace s

-- a link is loaded, as a frame of its own
pub record IsLoad {D : Type 0} (told : D → View) (old new : Stored D) (l : LinkRec) : Type 0 where
  pub member : member_of new ≡ with_load (member_of old) l
  pub tells : is_some (told new.disk).now ≡ is_some (told old.disk).now
  pub links : length new.party.links ≤ length old.party.links + 1
  pub room : (space old).room ≤ (space new).room + longest_load
  -- a crash at any moment of it leaves the member without the link, or with it
  pub any_moment : Tells (told old.disk) → LeavesOnly (told old.disk) (told new.disk) (IsOldOrNext (member_of old) (with_load (member_of old) l))

abbrev pub IsLoadOrSame : {D : Type 0} → (D → View) → Stored D → Stored D → Option LinkRec → Type 0
IsLoadOrSame told old new None = new ≡ old
IsLoadOrSame told old new (Some l) = IsLoad told old new l

-- the image stands for the member with none or some of the loads, in order
abbrev pub IsLoadedInPart : Member → List LinkRec → List ℕ → Type 0
IsLoadedInPart x loads image = (k : ℕ) × IsImageOf (with_loads x (take k loads)) image

-- the store of a party, from which the lines so far were loaded
pub record IsLoadedTo {D : Type 0} (told : D → View) (old new : Stored D) (loads : List LinkRec) : Type 0 where
  pub member : member_of new ≡ with_loads (member_of old) loads
  pub tells : is_some (told new.disk).now ≡ is_some (told old.disk).now
  pub links : length new.party.links ≤ length loads
  pub room : (space old).room ≤ (space new).room + longest_load * length loads
  pub any_moment : Tells (told old.disk) → LeavesOnly (told old.disk) (told new.disk) (IsLoadedInPart (member_of old) loads)

-- a failure left the disk of this member with none or some of the loads, in order
pub record IsPartlyLoaded (old new : View) (x : Member) (loads : List LinkRec) (why : Failure) : Type 0 where
  pub failing : Tells old → IsFailing why
  pub tells : is_some new.now ≡ is_some old.now
  pub partly : Tells old → (image : List ℕ) → new.now ≡ Some image → IsLoadedInPart x loads image
  pub any_moment : Tells old → LeavesOnly old new (IsLoadedInPart x loads)
  pub fault : why ≡ failure.Fault → 0 < new.faults

-- the disk was blank, and the open one stands for this member
pub record IsSetUp {D : Type 0} (told : D → View) (old : View) (x : Member) (node : Stored D) : Type 0 where
  pub blank : ReadsBlank old
  pub tells : is_some (told node.disk).now ≡ is_some old.now
  pub member : member_of node ≡ x

-- the disk read blank, and the image is blank, or stands for the member with none or some of its loads, in order
abbrev pub BeginsInPart : View → Member → List LinkRec → List ℕ → Type 0
BeginsInPart old x loads image = ReadsBlank old × ((is_blank image ≡ true) ⊎ IsLoadedInPart x loads image)

-- what a read gives of the disk of the party at hand: what it gave before, or a part of the set-up
abbrev pub IsBeginning : View → Member → List LinkRec → List ℕ → Type 0
IsBeginning old x loads image = (old.now ≡ Some image) ⊎ BeginsInPart old x loads image

-- what a crash at any moment leaves of it: a part of the set-up, or what it could leave before
abbrev pub BeginsOnly : View → View → Member → List LinkRec → Type 0
BeginsOnly old new x loads = Tells old → AddsOnly old new (BeginsInPart old x loads)

-- the disk isn't blank, and a read of it gives what it gave before
pub record IsNotBlank (old new : View) : Type 0 where
  pub filled : (image : List ℕ) → old.now ≡ Some image → is_blank image ≡ false
  pub stays : new.now ≡ old.now

-- the set-up of the party broke off
pub record IsHalfSetUp (old new : View) (x : Member) (loads : List LinkRec) (why : Failure) : Type 0 where
  pub failing : IsFailing why
  pub tells : Tells new
  pub begins : (image : List ℕ) → new.now ≡ Some image → IsBeginning old x loads image

-- why a party isn't set up, and what is left
abbrev pub IsFailedSetUp : View → View → Member → List LinkRec → SetUpEnd → Type 0
IsFailedSetUp old new x loads NotEmpty = IsNotBlank old new
IsFailedSetUp old new x loads (Failed why) = IsHalfSetUp old new x loads why

-- the same of a disk in hand
pub record IsFailedSetUpDisk (old new : View) (x : Member) (loads : List LinkRec) (why : SetUpEnd) : Type 0 where
  pub failed_set_up : Tells old → IsFailedSetUp old new x loads why
  pub any_moment : BeginsOnly old new x loads
  pub fault : why ≡ Failed failure.Fault → 0 < new.faults

-- a cause for which no party begins
abbrev pub EndsBy : Cause → SetUpEnd → Type 0
EndsBy cause.Blank e = ⊥
EndsBy cause.NotEmpty e = e ≡ NotEmpty
EndsBy (cause.Damaged place) e = ⊥
EndsBy cause.Fault e = e ≡ Failed failure.Fault
EndsBy cause.NoMemory e = e ≡ Failed failure.NoMemory

-- the end, or a failure in its place
abbrev pub IsOrFails : SetUpEnd → SetUpEnd → Type 0
IsOrFails end new = (new ≡ end) ⊎ ((why : Failure) × IsFailing why × (new ≡ Failed why))

-- ---- a party is added

-- the party of a line is set up, and stands behind the others
pub record IsAddedNext {D : Type 0} (told : D → View) (lines : List Line) (p : NewParty) (old new : List ℕ → View) (slot : List ℕ → Type 0) (was open_parties : List (OpenParty D)) : Type 0 where
  pub node : Stored D
  pub behind : open_parties ≡ was ++ open_party p.own (Open node) ∷ []
  pub made : IsSetUp told (old p.own) (full_member lines p) node
  pub any_moment : BeginsOnly (old p.own) (told node.disk) (new_member p) (loads_of p.own lines)
  pub placed : slot p.own
  pub others : OthersStay p.own old new

-- where the line declares none, nothing changes
abbrev pub AddsNext : {D : Type 0} → (D → View) → List Line → Option NewParty → (List ℕ → View) → (List ℕ → View) → (List ℕ → Type 0) → List (OpenParty D) → List (OpenParty D) → Type 0
AddsNext told lines None old new slot was open_parties = (open_parties ≡ was) × AllStay old new
AddsNext told lines (Some p) old new slot was open_parties = IsAddedNext told lines p old new slot was open_parties

-- the party of a line isn't set up, and the other disks stay
pub record IsFailedSetUpNext (lines : List Line) (p : NewParty) (old new : List ℕ → View) (why : SetUpEnd) : Type 0 where
  pub failed_set_up : Tells (old p.own) → IsFailedSetUp (old p.own) (new p.own) (new_member p) (loads_of p.own lines) why
  pub any_moment : BeginsOnly (old p.own) (new p.own) (new_member p) (loads_of p.own lines)
  pub others : OthersStay p.own old new

abbrev pub FailsSetUpNext : List Line → Option NewParty → (List ℕ → View) → (List ℕ → View) → SetUpEnd → Type 0
FailsSetUpNext lines None old new why = ⊥
FailsSetUpNext lines (Some p) old new why = IsFailedSetUpNext lines p old new why

-- ---- all parties

-- the open parties stand for the members that the lines in front declare; whether the disks tell their bytes comes first
pub record ShowMembers {D : Type 0} (tell : Bool) (told : D → View) (lines front : List Line) (old : List ℕ → View) (open_parties : List (OpenParty D)) : Type 0 where
  pub all_open : AreIn tell told open_parties
  pub members_are : members open_parties ≡ members_by lines front
  pub blank : AllReadBlank old (parties_in front)

-- the disk of the party of this name read blank, and the image is a part of its set-up
abbrev pub IsOfSetUp : List Line → List ℕ → View → List ℕ → Type 0
IsOfSetUp lines own old image = ReadsBlank old × IsSetUpInPart lines own image

-- a crash at any moment leaves such an image, or what it could leave before
abbrev pub SetsUpOnly : List Line → List ℕ → View → View → Type 0
SetsUpOnly lines own old new = AddsOnly old new (IsOfSetUp lines own old)

-- the parties of the lines in front are set up, with all that the lines load, and each stands in its place; `old` and `entry`
-- are what the shelf told at first, and what it tells now
pub record AreSetUp {D : Type 0} (told : D → View) (lines front : List Line) (old entry : List ℕ → View) (slot : List ℕ → Type 0) (open_parties : List (OpenParty D)) : Type 0 where
  pub opened : AreOpen open_parties
  pub owners_are : owners open_parties ≡ parties_in front
  pub apart : AreApart open_parties
  pub slots : AllSlots slot (owners open_parties)
  pub others : OtherDisksStay old entry open_parties
  pub shown : (tell : Bool) → (tell ≡ true → AllTell old (parties_in front)) → ShowMembers tell told lines front old open_parties
  pub any_moment : AllTell old (parties_in front) → (own : List ℕ) → SetsUpOnly lines own (old own) (disk_of told entry open_parties own)

-- the set-up came to a party: the disks of those before it stand for them, as they are set up; and those of all others stay
pub record IsSetUpTo (lines front : List Line) (name : List ℕ) (old entry : List ℕ → View) : Type 0 where
  pub images : AreOnShelf entry (members_by lines front)
  pub durable : AreDurable entry (members_by lines front)
  pub blank : AllReadBlank old (parties_in front)
  pub others : (own : List ℕ) → (Contains (parties_in front) own → ⊥) → own ≢ name → IsAlike (old own) (entry own)

-- the set-up ended at the party of a PARTY line
pub record IsSetUpEnd (lines : List Line) (old entry : List ℕ → View) (why : SetUpEnd) : Type 0 where
  pub front : List Line
  pub party : NewParty
  pub back : List Line
  pub split : lines ≡ front ++ line_of_party party ∷ back
  pub to : IsSetUpTo lines front party.own old entry
  pub failed_set_up : IsFailedSetUp (old party.own) (entry party.own) (new_member party) (loads_of party.own lines) why
  -- a crash leaves of its disk a part of its set-up, or what it could leave before
  pub leaves : (image : List ℕ) → (entry party.own).may_leave image → BeginsInPart (old party.own) (new_member party) (loads_of party.own lines) image ⊎ (old party.own).may_leave image
