-- Calls over a network whose parties keep one disk or two, one after the other, with failures of power and losses of a disk (this
-- project's profile). `mirror` names the second disk of each party that keeps two. `old`, `mid` and `new` are what the shelf tells of
-- each disk before, where a call ends, and afterwards.
use Rattle.std.specs.Prelude.{◌≡◌, ◌≢◌, ℕ, suc, true, false, Option, Some, None, is_some, List, [], ◌∷◌}
use Rattle.x_disk.specs.Disk.{View, IsDurable, IsUntouched, Tells}
use Rattle.x_disk.specs.Shelf.{OthersStay}
use Rattle.key_journal.specs.Journal.{is_blank}
use Rattle.party_state.specs.declared.command.Input.{Input}
use Rattle.party_state.specs.declared.command.Input.TheVariants as input
use Rattle.member.specs.Member.{Member}
use Rattle.csm_batch.specs.declared.entry.Entry.{Entry}
use Rattle.disk_pair.specs.Pairs.{ThirdsStay}
use Rattle.x_party.specs.Images.{DiskStandsFor}
use Rattle.x_party.specs.Outcomes.{CompactsParty, MigratesParty, WipesParty, IsSafeCompaction, IsSafeMigration, IsSafeWiping}
use Rattle.x_party.specs.declared.outcome.Outcome.{Outcome}
use Rattle.x_pair.specs.Outcomes.{BothStand, MakesPair, IsSafePair, showing, turning}
use Rattle.x_spool.specs.Outcomes.{MakesBatch}
use Rattle.x_spool.specs.Onward.{GoesOnward}
use Rattle.x_spool.specs.declared.outcome.SpoolOutcome.{SpoolOutcome}
use Rattle.world_laws.specs.World.{World, member_at}
use Rattle.world_laws.specs.Events.{Action, Orders, Hears, Compacts, Migrates, IsAction}
use Rattle.call_laws.specs.Sessions.{IsMade, IsOff}
use Rattle.mirror_laws.specs.Runs.{Which, FirstDisk, SecondDisk}

-- what is done with one disk of a party, which stays as it is: the party is written whole in its format, or in format 2, or what
-- doesn't count of the file is wiped
pub data Tending : Type 0 where
  Compacting Migrating Wiping : Tending

-- what is done: the party of this name is called over its one disk or its two, at a moment, with an outcome; it is called, and the
-- power fails at some moment from the beginning of the call to the end that it would have; it is shown over its two disks, with or
-- without such a failure; one disk of it is tended, with or without such a failure; a batch of these bytes and entries is taken at it,
-- with the spool of that name; something is done that writes no party's disk; the power fails while no such disk is written; or one of
-- a party's two disks is lost between two calls
pub data PairDeed : Type 0 where
  Called CutOff : List ℕ → Action → ℕ → Outcome → PairDeed
  Shown ShowCutOff : List ℕ → PairDeed
  Tended TendCutOff : List ℕ → Which → Tending → ℕ → Outcome → PairDeed
  Batched : List ℕ → List ℕ → List ℕ → List Entry → SpoolOutcome → PairDeed
  Aside PowerFails : PairDeed
  Lost : List ℕ → Which → PairDeed

-- no two disks of the members of a network have one name
pub record HaveOwnDisks (mirror : List ℕ → Option (List ℕ)) (w : World) : Type 0 where
  pub firsts : (p q : List ℕ) (x y : Member) → member_at p w.members ≡ Some x → member_at q w.members ≡ Some y → mirror q ≢ Some p
  pub seconds : (p q second : List ℕ) (x y : Member) → member_at p w.members ≡ Some x → member_at q w.members ≡ Some y → p ≢ q → mirror p ≡ Some second → mirror q ≢ Some second

-- the two disks tell, and stand for the member
pub record StandsOnBoth (first second : View) (x : Member) : Type 0 where
  pub first_tells : Tells first
  pub second_tells : Tells second
  pub stand : BothStand first second x

-- so does its one disk, or its two
abbrev pub StandsOnOwn : Option (List ℕ) → List ℕ → (List ℕ → View) → Member → Type 0
StandsOnOwn None name disks x = Tells (disks name) × DiskStandsFor (disks name) x.party x.space
StandsOnOwn (Some second) name disks x = StandsOnBoth (disks name) (disks second) x

-- each member of the network does
abbrev pub AllStandOnOwn : (List ℕ → Option (List ℕ)) → (List ℕ → View) → World → Type 0
AllStandOnOwn mirror disks w = (name : List ℕ) (x : Member) → member_at name w.members ≡ Some x → StandsOnOwn (mirror name) name disks x

-- what the turn of the party of this name with an input promises of two disks
pub record IsTurned (name : List ℕ) (i : Input) (moment : ℕ) (o : Outcome) (first second first_after second_after : View) : Type 0 where
  pub makes : MakesPair (turning name i moment) first second first_after second_after o
  pub safe : IsSafePair (turning name i moment) first second first_after second_after

-- what the call of this action promises of them: it is a command, or a message that is heard
abbrev pub IsPairMade : List ℕ → Action → ℕ → Outcome → View → View → View → View → Type 0
IsPairMade name (Orders c) moment o first second first_after second_after = IsTurned name (input.Ordered c) moment o first second first_after second_after
IsPairMade name (Hears bytes (Some a)) moment o first second first_after second_after = IsTurned name (input.Arrived a) moment o first second first_after second_after
IsPairMade name (Hears bytes None) moment o first second first_after second_after = ⊥
IsPairMade name Compacts moment o first second first_after second_after = ⊥
IsPairMade name Migrates moment o first second first_after second_after = ⊥

-- what it promises of the party's one disk, or of its two
abbrev pub IsMadeOn : Option (List ℕ) → List ℕ → Action → ℕ → Outcome → (List ℕ → View) → (List ℕ → View) → Type 0
IsMadeOn None name action moment o old new = IsMade name action moment o (old name) (new name)
IsMadeOn (Some second) name action moment o old new = IsPairMade name action moment o (old name) (old second) (new name) (new second)

-- all disks stay but its one disk, or its two
abbrev pub AllButOwnStay : Option (List ℕ) → List ℕ → (List ℕ → View) → (List ℕ → View) → Type 0
AllButOwnStay None name old new = OthersStay name old new
AllButOwnStay (Some second) name old new = ThirdsStay name second old new

-- a member of the network is called by an action that is an event, over its own disks; the others stay
pub record IsPairCalled (start : World) (mirror : List ℕ → Option (List ℕ)) (name : List ℕ) (action : Action) (moment : ℕ) (o : Outcome) (old new : List ℕ → View) : Type 0 where
  pub member : Member
  pub at : member_at name start.members ≡ Some member
  pub is_action : IsAction action
  pub made : IsMadeOn (mirror name) name action moment o old new
  pub others : AllButOwnStay (mirror name) name old new

-- a member is shown over its own two disks, one of which may be made anew then; the others stay
pub record IsPairShown (start : World) (mirror : List ℕ → Option (List ℕ)) (name : List ℕ) (old new : List ℕ → View) : Type 0 where
  pub member : Member
  pub at : member_at name start.members ≡ Some member
  pub second : List ℕ
  pub has : mirror name ≡ Some second
  pub safe : IsSafePair showing (old name) (old second) (new name) (new second)
  pub others : AllButOwnStay (mirror name) name old new

-- what the call that tends a disk promises of it
abbrev pub IsTendedDisk : Tending → Outcome → View → View → Type 0
IsTendedDisk Compacting o old new = CompactsParty old new o × IsSafeCompaction old new
IsTendedDisk Migrating o old new = MigratesParty old new o × IsSafeMigration old new
IsTendedDisk Wiping o old new = WipesParty old new o × IsSafeWiping old new

-- the disk of a party: its first, which may be its only one; or its second, where it has one
abbrev pub own_disk : (List ℕ → Option (List ℕ)) → List ℕ → Which → Option (List ℕ)
own_disk mirror name FirstDisk = Some name
own_disk mirror name SecondDisk = mirror name

-- one disk of a member of the network is tended; the others stay, the other one of this member too
pub record IsTended (start : World) (mirror : List ℕ → Option (List ℕ)) (name : List ℕ) (which : Which) (t : Tending) (o : Outcome) (old new : List ℕ → View) : Type 0 where
  pub member : Member
  pub at : member_at name start.members ≡ Some member
  pub disk : List ℕ
  pub own : own_disk mirror name which ≡ Some disk
  pub made : IsTendedDisk t o (old disk) (new disk)
  pub others : OthersStay disk old new

-- no disk of a member is written, at any moment; all else on the shelf may change in any way
pub record IsAside (start : World) (mirror : List ℕ → Option (List ℕ)) (old new : List ℕ → View) : Type 0 where
  pub firsts : (name : List ℕ) (x : Member) → member_at name start.members ≡ Some x → IsUntouched (old name) (new name)
  pub seconds : (name second : List ℕ) (x : Member) → member_at name start.members ≡ Some x → mirror name ≡ Some second → IsUntouched (old second) (new second)

-- a file is no disk of a member
pub record IsNobodys (start : World) (mirror : List ℕ → Option (List ℕ)) (file : List ℕ) : Type 0 where
  pub no_first : (x : Member) → member_at file start.members ≢ Some x
  pub no_second : (name : List ℕ) (x : Member) → member_at name start.members ≡ Some x → mirror name ≢ Some file

-- a batch is taken at a member that keeps one disk, beside a spool on a file that is no disk of a member; all others stay. There is no
-- deed in which the power fails amid a batch: that is one with a fault, as each call of a disk fails from some moment on, and a failure
-- of power behind it
pub record IsBatchTaken (start : World) (mirror : List ℕ → Option (List ℕ)) (name spool text : List ℕ) (entries : List Entry) (o : SpoolOutcome) (old new : List ℕ → View) : Type 0 where
  pub member : Member
  pub at : member_at name start.members ≡ Some member
  pub alone : mirror name ≡ None
  pub nobodys : IsNobodys start mirror spool
  pub made : MakesBatch name text entries (old name) (old spool) (new name) (new spool) o
  pub onward : GoesOnward name text entries (old name) (old spool) (new name) (new spool) o
  pub tells : is_some (new name).now ≡ is_some (old name).now
  pub others : ThirdsStay name spool old new

-- the power failed at some moment of the call of this name: of each of its disks one of the images is read that could be left then,
-- which need not be of the same moment
pub record PairOffWithin (mirror : List ℕ → Option (List ℕ)) (name : List ℕ) (old mid new : List ℕ → View) : Type 0 where
  pub first : IsOff ((mid name).left_since (old name).moment) (new name)
  pub second : (other : List ℕ) → mirror name ≡ Some other → IsOff ((mid other).left_since (old other).moment) (new other)
  pub others : (other : List ℕ) → other ≢ name → mirror name ≢ Some other → IsOff (old other).may_leave (new other)

-- the power failed while no disk of a member was written: of each one of the images is read that could be left; all else on the shelf
-- may be in any way
pub record AllOwnOff (start : World) (mirror : List ℕ → Option (List ℕ)) (old new : List ℕ → View) : Type 0 where
  pub firsts : (name : List ℕ) (x : Member) → member_at name start.members ≡ Some x → IsOff (old name).may_leave (new name)
  pub seconds : (name second : List ℕ) (x : Member) → member_at name start.members ≡ Some x → mirror name ≡ Some second → IsOff (old second).may_leave (new second)

-- the disk that is lost of the two, and the other one

abbrev pub lost_disk : List ℕ → List ℕ → Which → List ℕ
lost_disk first second FirstDisk = first
lost_disk first second SecondDisk = second

abbrev pub other_disk : List ℕ → List ℕ → Which → List ℕ
other_disk first second FirstDisk = second
other_disk first second SecondDisk = first

-- one of a member's two disks becomes blank, and a crash leaves nothing else of it, where no crash could leave the other one blank; all
-- others stay
pub record IsLost (start : World) (mirror : List ℕ → Option (List ℕ)) (name : List ℕ) (which : Which) (old new : List ℕ → View) : Type 0 where
  pub member : Member
  pub at : member_at name start.members ≡ Some member
  pub second : List ℕ
  pub has : mirror name ≡ Some second
  pub image : List ℕ
  pub reads : (new (lost_disk name second which)).now ≡ Some image
  pub blank : is_blank image ≡ true
  pub durable : IsDurable (new (lost_disk name second which))
  pub left : (other : List ℕ) → (old (other_disk name second which)).may_leave other → is_blank other ≡ false
  pub others : OthersStay (lost_disk name second which) old new

abbrev pub IsDeedDone : World → (List ℕ → Option (List ℕ)) → PairDeed → (List ℕ → View) → (List ℕ → View) → (List ℕ → View) → Type 0
IsDeedDone start mirror (Called name action moment o) old mid new = IsPairCalled start mirror name action moment o old new
IsDeedDone start mirror (CutOff name action moment o) old mid new = IsPairCalled start mirror name action moment o old mid × PairOffWithin mirror name old mid new
IsDeedDone start mirror (Shown name) old mid new = IsPairShown start mirror name old new
IsDeedDone start mirror (ShowCutOff name) old mid new = IsPairShown start mirror name old mid × PairOffWithin mirror name old mid new
IsDeedDone start mirror (Tended name which t moment o) old mid new = IsTended start mirror name which t o old new
IsDeedDone start mirror (TendCutOff name which t moment o) old mid new = IsTended start mirror name which t o old mid × PairOffWithin mirror name old mid new
IsDeedDone start mirror (Batched name spool text entries o) old mid new = IsBatchTaken start mirror name spool text entries o old new
IsDeedDone start mirror Aside old mid new = IsAside start mirror old new
IsDeedDone start mirror PowerFails old mid new = AllOwnOff start mirror old new
IsDeedDone start mirror (Lost name which) old mid new = IsLost start mirror name which old new

-- each deed is done, from the disks of its number to those of the next
abbrev pub AreDeedsDone : World → (List ℕ → Option (List ℕ)) → List PairDeed → ℕ → (ℕ → List ℕ → View) → (ℕ → List ℕ → View) → Type 0
AreDeedsDone start mirror [] k disks ends = Unit {0}
AreDeedsDone start mirror (d ∷ ds) k disks ends = IsDeedDone start mirror d (disks k) (ends k) (disks (suc k)) × AreDeedsDone start mirror ds (suc k) disks ends
