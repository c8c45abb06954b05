-- What becomes of a party on a shelf that is kept on two disks (this project's profile). `first` and `second` are what the
-- shelf tells of the two disks before, `first_after` and `second_after` what it tells afterwards.
use Rattle.std.specs.Prelude.{◌≡◌, ◌≢◌, ◌⊎◌, ℕ, true, false, List, [], Option, Some, None}
use Rattle.x_base.specs.declared.verdict.Verdict.{Verdict}
use Rattle.x_base.specs.declared.verdict.Verdict.TheVariants.{Accept, JournalFull, Blank}
use Rattle.x_disk.specs.Disk.{View, IsDurable, LeavesOnly, IsUntouched}
use Rattle.key_journal.specs.Journal.{is_blank}
use Rattle.party_state.specs.declared.command.Input.{Input}
use Rattle.party_state.specs.State.{Party}
use Rattle.party_show.specs.Show.{shown}
use Rattle.change_code.specs.Cost.{space_of_whole}
use Rattle.change_code.specs.Whole.{IsTooLarge}
use Rattle.change_code.specs.declared.format.Format.TheVariants.{Two}
use Rattle.change_code.specs.declared.space.Space.{Space}
use Rattle.key_store.specs.Store.{Stands, StandsWith, IsFirstDamage}
use Rattle.member.specs.Member.{Member, after}
use Rattle.disk_pair.specs.Pairs.{LeavesPair}
use Rattle.mirror_store.specs.Pairs.{PairStands, Recovers, IsMadeAnew, IsAsBefore}
use Rattle.mirror_store.specs.Opening.{AreRead, AreOthers, IsSound, IsTooLargeToWrite, HasFirstSpace, LeavesParty}
use Rattle.mirror_store.specs.Turns.{pair_plan_at}
use Rattle.x_party.specs.Images.{DiskStandsFor, StillTells}
use Rattle.x_party.specs.Outcomes.{IsNoFailure}
use Rattle.x_party.specs.declared.outcome.Outcome.{Outcome}
use Rattle.x_party.specs.declared.outcome.Outcome.TheVariants as outcome

-- each image of either disk that a crash may leave stands for the party of this member; the first has its space left
pub record BothStand (first second : View) (x : Member) : Type 0 where
  pub on_first : DiskStandsFor first x.party x.space
  pub durable : IsDurable second
  pub on_second : (image : List ℕ) → second.now ≡ Some image → Stands image x.party

-- what a call does with the party that is opened of two disks: what is said of a member with an outcome, and the member
-- afterwards; and, by the image of the first disk, the members that a crash may leave beside the party that is opened
pub record Work : Type 1 where
  pub Says : Member → Outcome → Member → Type 0
  pub May : List ℕ → Party → Member → Type 0

-- the party of the name accepts; its edits are kept, and this is answered
pub record Accepts (name : List ℕ) (i : Input) (moment : ℕ) (x : Member) (reply : Option (List ℕ)) (y : Member) : Type 0 where
  pub own : x.party.own ≡ name
  pub accepted : (pair_plan_at x i moment).verdict ≡ Accept
  pub written : reply ≡ (pair_plan_at x i moment).reply
  pub next : y ≡ after x (pair_plan_at x i moment).edits

-- it refuses, or what it decides doesn't fit on a disk; it stays
pub record Refuses (name : List ℕ) (i : Input) (moment : ℕ) (x : Member) (verdict : Verdict) (reply : Option (List ℕ)) (y : Member) : Type 0 where
  pub own : x.party.own ≡ name
  pub refused : verdict ≢ Accept
  pub said : verdict ≡ (pair_plan_at x i moment).verdict
  pub written : reply ≡ (pair_plan_at x i moment).reply
  pub same : y ≡ x

-- the party isn't that of the name, and isn't asked; it stays
pub record IsOther (name : List ℕ) (x : Member) (asked found : List ℕ) (y : Member) : Type 0 where
  pub called : asked ≡ name
  pub own : found ≡ x.party.own
  pub differs : found ≢ name
  pub same : y ≡ x

abbrev pub SaysTurn : List ℕ → Input → ℕ → Member → Outcome → Member → Type 0
SaysTurn name i moment x (outcome.Done reply) y = Accepts name i moment x reply y
SaysTurn name i moment x (outcome.Refused verdict reply) y = Refuses name i moment x verdict reply y
SaysTurn name i moment x (outcome.OtherParty asked found) y = IsOther name x asked found y
SaysTurn name i moment x o y = ⊥

-- the member of the name after what it plans, where that changes anything, with the space that the image of the first disk
-- leaves, or one frame, where it was blank
pub record IsAfter (name : List ℕ) (i : Input) (moment : ℕ) (first : List ℕ) (party : Party) (next : Member) : Type 0 where
  pub own : party.own ≡ name
  pub space : Space
  pub left : HasFirstSpace first party space
  pub changes : (pair_plan_at (record { party = party; space = space }) i moment).edits ≢ []
  pub is : next ≡ after (record { party = party; space = space }) (pair_plan_at (record { party = party; space = space }) i moment).edits

-- the turn of the party of this name with an input at a moment
abbrev pub turning : List ℕ → Input → ℕ → Work
turning name i moment = record { Says = λ x o y. SaysTurn name i moment x o y; May = λ first party next. IsAfter name i moment first party next }

abbrev pub SaysShow : Member → Outcome → Member → Type 0
SaysShow x (outcome.Done reply) y = (reply ≡ Some (shown x.party)) × (y ≡ x)
SaysShow x o y = ⊥

-- a party is shown
abbrev pub showing : Work
showing = record { Says = λ x o y. SaysShow x o y; May = λ first party next. ⊥ }

-- a party is opened of two images, and this is said of it, with the space that its first disk has then; the disks stand for it
-- afterwards
pub record OfOpened (w : Work) (i j : List ℕ) (first_after second_after : View) (o : Outcome) : Type 0 where
  pub member : Member
  pub next : Member
  pub recovers : Recovers i j member.party
  -- that is the space of the first image, or what one frame leaves, where it was blank
  pub space : HasFirstSpace i member.party member.space
  -- where it had to be written, it isn't too large for that frame
  pub small : (PairStands i j member.party → ⊥) → IsTooLarge Two member.party → ⊥
  pub says : w.Says member o next
  pub stand : BothStand first_after second_after next

-- no party stands on either disk
pub record IsNobody (i j : List ℕ) (verdict : Verdict) (reply : Option (List ℕ)) : Type 0 where
  pub first_blank : is_blank i ≡ true
  pub second_blank : is_blank j ≡ true
  pub said : verdict ≡ Blank
  pub written : reply ≡ None

-- the party isn't on both, and is too large for the one frame that would be written
pub record IsTooLargePair (i j : List ℕ) (verdict : Verdict) (reply : Option (List ℕ)) : Type 0 where
  pub too_large : IsTooLargeToWrite i j
  pub said : verdict ≡ JournalFull
  pub written : reply ≡ None

-- the first image is damaged, or else the second
abbrev pub IsDamagedPair : List ℕ → List ℕ → ℕ → Type 0
IsDamagedPair i j place = IsFirstDamage i place ⊎ (IsSound i × IsFirstDamage j place)

-- what becomes of two images of disks that tell them
abbrev pub MakesOf : Work → List ℕ → List ℕ → View → View → Outcome → Type 0
MakesOf w i j first_after second_after (outcome.Done reply) = OfOpened w i j first_after second_after (outcome.Done reply)
MakesOf w i j first_after second_after (outcome.Refused verdict reply) =
    OfOpened w i j first_after second_after (outcome.Refused verdict reply) ⊎ (IsNobody i j verdict reply ⊎ IsTooLargePair i j verdict reply)
MakesOf w i j first_after second_after (outcome.OtherParty one other) = OfOpened w i j first_after second_after (outcome.OtherParty one other) ⊎ AreOthers i j one other
MakesOf w i j first_after second_after (outcome.Damaged place) = IsDamagedPair i j place
MakesOf w i j first_after second_after outcome.Fault = Unit {0}
MakesOf w i j first_after second_after outcome.NoMemory = Unit {0}

abbrev pub MakesPair : Work → View → View → View → View → Outcome → Type 0
MakesPair w first second first_after second_after o = (i j : List ℕ) → AreRead first second i j → MakesOf w i j first_after second_after o

-- the call changes the party that is opened of two images: there is one after it, and where a disk has to be made anew, the party
-- isn't too large for that
pub record Changes (w : Work) (first second : List ℕ) (party : Party) (next : Member) : Type 0 where
  pub may : w.May first party next
  pub small : (PairStands first second party → ⊥) → IsTooLarge Two party → ⊥

-- the space that a member after the call has on its first disk, and on the second, where that is what one frame of it in format 2
-- leaves
abbrev pub left_on_first : Member → Space
left_on_first x = x.space

abbrev pub left_on_second : Member → Space
left_on_second x = space_of_whole Two x.party

-- an image that a crash may leave: it is made anew for the party that is opened, stands for a member after it, with the space that
-- is left then, is blank as it was, stands for the party for which it stood, with the space that it had, or could be left before
pub data MayLeave (w : Work) (left : Member → Space) (first second : List ℕ) (party : Party) (was : List ℕ) (before : List ℕ → Type 0) (image : List ℕ) : Type 0 where
  Opened : IsMadeAnew was party image → MayLeave w left first second party was before image
  After : (next : Member) → Changes w first second party next → StandsWith image next.party (left next) → MayLeave w left first second party was before image
  AsItWas : IsAsBefore was image → MayLeave w left first second party was before image
  Before : before image → MayLeave w left first second party was before image

-- the second disk is as an opening alone leaves it: a crash at any moment leaves an image that is made anew for the party that is
-- opened, is as it was, or could be left before; where both disks stood for the party, or the first was blank, nothing is written
-- on it
pub record IsAsOpened (second second_after : View) (i j : List ℕ) (party : Party) : Type 0 where
  pub moments : LeavesParty second second_after j party
  pub stays : PairStands i j party ⊎ (is_blank i ≡ true) → IsUntouched second second_after

-- the call changes the party that is opened, and each image of the first disk that a crash may leave stands for the member after it
pub record KeepsNext (w : Work) (first_after : View) (i j : List ℕ) (party : Party) : Type 0 where
  pub next : Member
  pub changes : Changes w i j party next
  pub kept : DiskStandsFor first_after next.party next.space

-- what holds of every outcome
pub record IsSafePair (w : Work) (first second first_after second_after : View) : Type 0 where
  -- what a crash at any moment leaves of two disks of which a party is opened
  pub on_first : (i j : List ℕ) (party : Party) → AreRead first second i j → Recovers i j party → LeavesOnly first first_after (MayLeave w left_on_first i j party i first.may_leave)
  pub on_second : (i j : List ℕ) (party : Party) → AreRead first second i j → Recovers i j party → LeavesOnly second second_after (MayLeave w left_on_second i j party j second.may_leave)
  -- the second isn't ahead of the first: the party after it is written there only where the first has kept it
  pub order : (i j : List ℕ) (party : Party) → AreRead first second i j → Recovers i j party → IsAsOpened second second_after i j party ⊎ KeepsNext w first_after i j party
  -- where no party can be opened of them, nothing is written
  pub nobody : (i j : List ℕ) → AreRead first second i j → ((party : Party) → Recovers i j party → ⊥) → IsUntouched first first_after × IsUntouched second second_after
  -- nor where both stand for a party that the call doesn't change
  pub quiet : (i j : List ℕ) (party : Party) → AreRead first second i j → PairStands i j party → ((next : Member) → Changes w i j party next → ⊥)
      → IsUntouched first first_after × IsUntouched second second_after
  -- and where the party that is opened isn't changed, the first is written only if it is blank, and the second only if the first isn't
  pub first_stays : (i j : List ℕ) (party : Party) → AreRead first second i j → Recovers i j party → ((next : Member) → Changes w i j party next → ⊥)
      → is_blank i ≡ false → IsUntouched first first_after
  pub second_stays : (i j : List ℕ) (party : Party) → AreRead first second i j → Recovers i j party → ((next : Member) → Changes w i j party next → ⊥)
      → is_blank i ≡ true → IsUntouched second second_after
  -- neither is written where the party that is opened isn't on both and is too large for the one frame that would be written
  pub too_large : (i j : List ℕ) → AreRead first second i j → IsTooLargeToWrite i j → IsUntouched first first_after × IsUntouched second second_after
  pub first_tells : StillTells first first_after
  pub second_tells : StillTells second second_after

-- what is left of the shelf: both disks are back where the call didn't fail, the others stay, and a fault comes only where the
-- shelf's count of faults rose
abbrev pub LeavesBoth : List ℕ → List ℕ → Outcome → Type 0 → Type 0 → (List ℕ → View) → (List ℕ → View) → ℕ → ℕ → Type 0
LeavesBoth name mirror o first_back second_back old new before after = LeavesPair name mirror (IsNoFailure o) (o ≡ outcome.Fault) first_back second_back old new before after
