-- What became of an input at a party over two disks (this project's profile).
use Rattle.std.specs.Prelude.{◌≡◌, ◌≢◌, ◌⊎◌, ℕ, Bool, true, false, cond, List, [], ◌∷◌, Option, Some}
use Rattle.x_base.specs.Edge.{Rose}
use Rattle.x_base.specs.declared.verdict.Verdict.{Verdict}
use Rattle.x_base.specs.declared.verdict.Verdict.TheVariants.{Accept}
use Rattle.x_base.specs.declared.key_name.FullName.{FullName}
use Rattle.x_disk.specs.Disk.{View, IsDurable, Tells, LeavesOnly}
use Rattle.key_journal.specs.declared.cause.Cause.{Cause}
use Rattle.key_journal.specs.declared.cause.Cause.TheVariants as cause
use Rattle.party_state.specs.declared.command.Input.{Input}
use Rattle.party_state.specs.declared.edit.Edit.{Edit}
use Rattle.party_state.specs.State.{Party, apply}
use Rattle.change_code.specs.declared.format.Format.TheVariants.{Two}
use Rattle.change_code.specs.Cost.{can_compact, fits, space_of_whole}
use Rattle.change_code.specs.Whole.{IsTooLarge}
use Rattle.key_store.specs.Store.{space}
use Rattle.key_store.specs.Replacing.{IsOldOrOther}
use Rattle.member.specs.Member.{Member, Plan, plan_at, as_full, after}
use Rattle.node_core.specs.Turns.{member_of, IsImageOf, IsOldOrNext}
use Rattle.disk_pair.specs.declared.disks.Disks.{Disks}
use Rattle.mirror_store.specs.Pairs.{Twin, IsTwin}
use Rattle.mirror_store.specs.Answers.{twin_disks, turn_disks}
use Rattle.mirror_store.specs.Opening.{KeepsPair}
use Rattle.mirror_store.specs.declared.pair.PairCause.{PairCause}
use Rattle.mirror_store.specs.declared.pair.PairCause.TheVariants.{First, Second}
use Rattle.mirror_store.specs.declared.pair.PairUnmade.{PairUnmade}
use Rattle.mirror_store.specs.declared.mirror.PairTurn.{PairTurn}
use Rattle.mirror_store.specs.declared.mirror.PairTurn.TheVariants.{Done, Refused, Broken, NoMemory}

-- nothing changes, or the party after the edits can be written as one frame of format 2
abbrev pub fits_frame : Party → List Edit → Bool
fits_frame party [] = true
fits_frame party (e ∷ es) = can_compact Two (apply (e ∷ es) party)

-- a plan of a member that has a second disk: where the party after its edits is too large for one frame, nothing is kept or
-- answered
abbrev pub pair_plan : Party → Plan → Plan
pair_plan party plan = cond (fits_frame party plan.edits) plan (as_full plan.lead)

-- what a member that has a second disk will do with an input at a moment
abbrev pub pair_plan_at : Member → Input → ℕ → Plan
pair_plan_at x i moment = pair_plan x.party (plan_at x i moment)

-- the edits don't fit into the space of the first disk, or there are some, and the party after them is too large for one frame
abbrev pub DoesNotFit : Member → List Edit → Type 0
DoesNotFit x es = (fits x.space es ≡ false) ⊎ ((es ≢ []) × IsTooLarge Two (apply es x.party))

-- the edits are kept on the first disk, and the party after them on the second, with the room behind one frame of it; where there
-- are none, neither disk is touched
abbrev pub IsKeptTwice : {D : Type 0} → List Edit → Twin D → Twin D → Type 0
IsKeptTwice [] old new = new ≡ old
IsKeptTwice (e ∷ es) old new = (member_of new.first ≡ after (member_of old.first) (e ∷ es)) × (space new.second ≡ space_of_whole Two (apply (e ∷ es) old.first.party))

-- accepted and kept on both disks: the party is the one after the edits, and the reply is handed out
pub record IsPairDone {D : Type 0} (old : Twin D) (plan : Plan) (new : Twin D) (answer : Option (List ℕ)) (name : Option FullName) : Type 0 where
  pub accepted : plan.verdict ≡ Accept
  pub kept : IsKeptTwice plan.edits old new
  pub party : new.first.party ≡ apply plan.edits old.first.party
  pub own : new.first.party.own ≡ old.first.party.own
  pub reply : answer ≡ plan.reply
  pub under : name ≡ plan.under

-- refused, and nothing changed
pub record IsPairRefused {D : Type 0} (old : Twin D) (plan : Plan) (new : Twin D) (said : Verdict) (answer : Option (List ℕ)) (name : Option FullName) : Type 0 where
  pub same : new ≡ old
  pub refused : said ≢ Accept
  pub verdict : said ≡ plan.verdict
  pub reply : answer ≡ plan.reply
  pub under : name ≡ plan.under

-- a disk failed, or wants memory: of a fault the faults rose
abbrev pub HasFailed : {D : Type 0} → (D → View) → Disks D → Disks D → PairCause → Type 0
HasFailed told old new (First cause.Fault) = Rose (told old.first).faults (told new.first).faults
HasFailed told old new (Second cause.Fault) = Rose (told old.second).faults (told new.second).faults
HasFailed told old new (First cause.NoMemory) = Unit {0}
HasFailed told old new (Second cause.NoMemory) = Unit {0}
HasFailed told old new other = ⊥

-- a disk failed while a change was kept
pub record IsPairCut {D : Type 0} (told : D → View) (old : Twin D) (plan : Plan) (new : PairUnmade D) : Type 0 where
  pub accepted : plan.verdict ≡ Accept
  pub changes : plan.edits ≢ []
  pub own : (apply plan.edits old.first.party).own ≡ old.first.party.own
  pub failed : HasFailed told (twin_disks old) new.disks new.cause
  -- the second isn't touched before the first has kept the edits
  pub order : (reason : Cause) → new.cause ≡ First reason → new.disks.second ≡ old.second.disk
  -- where the second failed, each image of the first that a crash may leave stands for the member after them
  pub durable : (reason : Cause) → new.cause ≡ Second reason → IsDurable (told new.disks.first)
  pub kept : (reason : Cause) → new.cause ≡ Second reason → (image : List ℕ) → (told new.disks.first).now ≡ Some image → IsImageOf (after (member_of old.first) plan.edits) image

-- the answer is the one that the plan calls for; want of memory may be answered to any
abbrev pub IsPairAnswer : {D : Type 0} → (D → View) → Twin D → Plan → PairTurn D → Type 0
IsPairAnswer told old plan (Done new reply under) = IsPairDone old plan new reply under
IsPairAnswer told old plan (Refused new verdict reply under) = IsPairRefused old plan new verdict reply under
IsPairAnswer told old plan (Broken u) = IsPairCut told old plan u
IsPairAnswer told old plan (NoMemory new) = new ≡ old

-- where a mirror is handed out, each image of either disk that a crash may leave stands for its party
abbrev pub BothStand : {D : Type 0} → (D → View) → PairTurn D → Type 0
BothStand told (Done new reply under) = IsTwin told new
BothStand told (Refused new verdict reply under) = IsTwin told new
BothStand told (Broken u) = Unit {0}
BothStand told (NoMemory new) = IsTwin told new

-- a turn of a party over two disks, that has this plan
pub record IsPairTurn {D : Type 0} (told : D → View) (old : Twin D) (plan : Plan) (turn : PairTurn D) : Type 0 where
  pub answer : IsPairAnswer told old plan turn
  pub stand : BothStand told turn
  -- a crash at any moment of it leaves on either disk the party before the plan or the one after it
  pub first_moments : Tells (told old.first.disk) → LeavesOnly (told old.first.disk) (told (turn_disks turn).first) (IsOldOrNext (member_of old.first) (after (member_of old.first) plan.edits))
  pub second_moments : Tells (told old.second.disk) → LeavesOnly (told old.second.disk) (told (turn_disks turn).second) (IsOldOrOther old.first.party (space old.second) Two (apply plan.edits old.first.party))
  pub keeps : KeepsPair told (twin_disks old) (turn_disks turn)
