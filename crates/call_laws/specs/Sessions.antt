-- Calls over the disks of a network, one after the other, and failures of power (this project's profile). `old`, `mid` and `new`
-- are what the shelf tells of each party's disk before, where a call ends, and afterwards.
use Rattle.std.specs.Prelude.{◌≡◌, ◌≢◌, ℕ, suc, List, [], ◌∷◌, ◌++◌, Some, None, option_to_list}
use Rattle.x_disk.specs.Disk.{View, IsDurable, Tells}
use Rattle.x_disk.specs.Shelf.{OthersStay}
use Rattle.party_state.specs.declared.command.Input.TheVariants as input
use Rattle.member.specs.Member.{Member}
use Rattle.x_party.specs.Images.{DiskStandsFor}
use Rattle.x_party.specs.Outcomes.{TakesTurn, IsSafe, CompactsParty, MigratesParty, IsSafeCompaction, IsSafeMigration}
use Rattle.x_party.specs.declared.outcome.Outcome.{Outcome}
use Rattle.x_party.specs.declared.outcome.Outcome.TheVariants as outcome
use Rattle.world_laws.specs.World.{World, member_at}
use Rattle.world_laws.specs.Events.{Action, Orders, Hears, Compacts, Migrates, IsAction}

-- what is done: the party of this name is called, at a moment, with an outcome; it is called, and the power fails at some moment
-- from the beginning of the call to the end that it would have; or the power fails between two calls
pub data Deed : Type 0 where
  Called CutOff : List ℕ → Action → ℕ → Outcome → Deed
  PowerFails : Deed

-- what the call of this action promises of the party's disk; of bytes of which nothing is heard there is no call
abbrev pub IsMade : List ℕ → Action → ℕ → Outcome → View → View → Type 0
IsMade name (Orders c) moment o old new = TakesTurn name old new (input.Ordered c) moment o × IsSafe name old new (input.Ordered c) moment
IsMade name (Hears bytes (Some a)) moment o old new = TakesTurn name old new (input.Arrived a) moment o × IsSafe name old new (input.Arrived a) moment
IsMade name (Hears bytes None) moment o old new = ⊥
IsMade name Compacts moment o old new = CompactsParty old new o × IsSafeCompaction old new
IsMade name Migrates moment o old new = MigratesParty old new o × IsSafeMigration old new

-- a member of the network is called by an action that is an event, over its own disk; the others stay
pub record IsCalled (start : World) (name : List ℕ) (action : Action) (moment : ℕ) (o : Outcome) (old new : List ℕ → View) : Type 0 where
  pub member : Member
  pub at : member_at name start.members ≡ Some member
  pub is_action : IsAction action
  pub made : IsMade name action moment o (old name) (new name)
  pub others : OthersStay name old new

-- the power failed: one of the images that could be left is read from then on
pub record IsOff (could : List ℕ → Type 0) (v : View) : Type 0 where
  pub image : List ℕ
  pub reads : v.now ≡ Some image
  pub left : could image
  pub durable : IsDurable v

-- it failed between two calls
abbrev pub AllOff : (List ℕ → View) → (List ℕ → View) → Type 0
AllOff old new = (name : List ℕ) → IsOff (old name).may_leave (new name)

-- it failed at some moment of the call of this name
pub record OffWithin (name : List ℕ) (old mid new : List ℕ → View) : Type 0 where
  pub own : IsOff ((mid name).left_since (old name).moment) (new name)
  pub others : (other : List ℕ) → other ≢ name → IsOff (old other).may_leave (new other)

abbrev pub IsDone : World → Deed → (List ℕ → View) → (List ℕ → View) → (List ℕ → View) → Type 0
IsDone start (Called name action moment o) old mid new = IsCalled start name action moment o old new
IsDone start (CutOff name action moment o) old mid new = IsCalled start name action moment o old mid × OffWithin name old mid new
IsDone start PowerFails old mid new = AllOff old new

-- each deed is done, from the disks of its number to those of the next
abbrev pub AreDone : World → List Deed → ℕ → (ℕ → List ℕ → View) → (ℕ → List ℕ → View) → Type 0
AreDone start [] k disks ends = Unit {0}
AreDone start (d ∷ ds) k disks ends = IsDone start d (disks k) (ends k) (disks (suc k)) × AreDone start ds (suc k) disks ends

-- what was handed out, joined: nothing by a call that failed or was cut off

abbrev pub reply_of : Outcome → List (List ℕ)
reply_of (outcome.Done reply) = option_to_list reply
reply_of (outcome.Refused verdict reply) = option_to_list reply
reply_of (outcome.OtherParty asked found) = []
reply_of (outcome.Damaged place) = []
reply_of outcome.Fault = []
reply_of outcome.NoMemory = []

abbrev pub deed_texts : Deed → List (List ℕ)
deed_texts (Called name action moment o) = reply_of o
deed_texts (CutOff name action moment o) = []
deed_texts PowerFails = []

abbrev pub texts_in : List Deed → List (List ℕ)
texts_in [] = []
texts_in (d ∷ ds) = deed_texts d ++ texts_in ds

-- the disks tell, and stand for the members of the network
abbrev pub StandsOn : (List ℕ → View) → World → Type 0
StandsOn disks w = (name : List ℕ) (x : Member) → member_at name w.members ≡ Some x → Tells (disks name) × DiskStandsFor (disks name) x.party x.space
