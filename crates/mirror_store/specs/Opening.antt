-- How a pair of disks is opened as one party, or made, and why it isn't (this project's profile).
use Rattle.std.specs.Prelude.{◌≡◌, ◌≢◌, ◌⊎◌, ℕ, ◌≤◌, true, false, List, Some, is_some, Result, IfOk, IfErr}
use Rattle.x_base.specs.Edge.{Rose}
use Rattle.x_disk.specs.Disk.{View, LeavesOnly, IsUntouched}
use Rattle.key_journal.specs.Journal.{is_blank}
use Rattle.key_journal.specs.declared.cause.Cause.TheVariants as cause
use Rattle.party_state.specs.State.{Party}
use Rattle.change_code.specs.Cost.{space_of_whole}
use Rattle.change_code.specs.declared.format.Format.TheVariants.{Two}
use Rattle.change_code.specs.declared.space.Space.{Space}
use Rattle.change_code.specs.Whole.{IsTooLarge}
use Rattle.key_store.specs.Store.{Stands, StandsWith, IsFirstDamage, space}
use Rattle.mirror_store.specs.Pairs.{PairStands, Recovers, IsMadeAnew, IsAsBefore, Twin, IsTwin}
use Rattle.mirror_store.specs.Recovering.{IsPairFailure}
use Rattle.mirror_store.specs.Answers.{opened_disks}
use Rattle.disk_pair.specs.declared.disks.Disks.{Disks}
use Rattle.mirror_store.specs.declared.pair.PairCause.{PairCause}
use Rattle.mirror_store.specs.declared.pair.PairCause.TheVariants.{First, Second, OtherParty, TooLarge}
use Rattle.mirror_store.specs.declared.pair.PairUnmade.{PairUnmade}

-- the images stand for parties of these two identities, which differ
pub record AreOthers (first second one other : List ℕ) : Type 0 where
  pub party : Party
  pub second_party : Party
  pub first_is : Stands first party
  pub second_is : Stands second second_party
  pub one_is : one ≡ party.own
  pub other_is : other ≡ second_party.own
  pub apart : one ≢ other

-- a party that isn't on both is too large to be written
pub record IsTooLargeToWrite (first second : List ℕ) : Type 0 where
  pub party : Party
  pub recovers : Recovers first second party
  pub apart : PairStands first second party → ⊥
  pub too_large : IsTooLarge Two party

-- an image that stands or is blank
abbrev pub IsSound : List ℕ → Type 0
IsSound image = (is_blank image ≡ true) ⊎ ((party : Party) × Stands image party)

-- why no party is opened from two images
abbrev pub IsPairRefusal : List ℕ → List ℕ → PairCause → Type 0
IsPairRefusal first second (First cause.Blank) = (is_blank first ≡ true) × (is_blank second ≡ true)
IsPairRefusal first second (First cause.NotEmpty) = ⊥
IsPairRefusal first second (First (cause.Damaged place)) = IsFirstDamage first place
IsPairRefusal first second (First cause.Fault) = Unit {0}
IsPairRefusal first second (First cause.NoMemory) = Unit {0}
IsPairRefusal first second (Second cause.Blank) = ⊥
IsPairRefusal first second (Second cause.NotEmpty) = ⊥
IsPairRefusal first second (Second (cause.Damaged place)) = IsSound first × IsFirstDamage second place
IsPairRefusal first second (Second cause.Fault) = Unit {0}
IsPairRefusal first second (Second cause.NoMemory) = Unit {0}
IsPairRefusal first second (OtherParty one other) = AreOthers first second one other
IsPairRefusal first second TooLarge = IsTooLargeToWrite first second

-- a fault comes only where the faults of the disk that is named rose
pub record HasPairFault {D : Type 0} (told : D → View) (old new : Disks D) (reason : PairCause) : Type 0 where
  pub first : reason ≡ First cause.Fault → Rose (told old.first).faults (told new.first).faults
  pub second : reason ≡ Second cause.Fault → Rose (told old.second).faults (told new.second).faults

-- what holds of the disks whatever the answer is
pub record KeepsPair {D : Type 0} (told : D → View) (old new : Disks D) : Type 0 where
  pub first_faults : (told old.first).faults ≤ (told new.first).faults
  pub second_faults : (told old.second).faults ≤ (told new.second).faults
  pub first_tells : is_some (told new.first).now ≡ is_some (told old.first).now
  pub second_tells : is_some (told new.second).now ≡ is_some (told old.second).now

-- a crash at any moment leaves an image that is made anew for the party, or is as it was, or one that could be left before
abbrev pub LeavesParty : View → View → List ℕ → Party → Type 0
LeavesParty old new before party = LeavesOnly old new (λ c. (IsMadeAnew before party c ⊎ IsAsBefore before c) ⊎ old.may_leave c)

-- what two disks tell
pub record AreRead (v w : View) (i j : List ℕ) : Type 0 where
  pub first : v.now ≡ Some i
  pub second : w.now ≡ Some j

-- the space that the first disk has for the party: what its image leaves, or, where it was blank, what one frame of format 2 leaves
abbrev pub HasFirstSpace : List ℕ → Party → Space → Type 0
HasFirstSpace first party left = StandsWith first party left ⊎ ((is_blank first ≡ true) × (left ≡ space_of_whole Two party))

-- the space that the second disk has for it: what its image leaves, or, where that didn't stand for it, what one frame of format 2
-- leaves
abbrev pub HasSecondSpace : List ℕ → Party → Space → Type 0
HasSecondSpace second party left = StandsWith second party left ⊎ ((Stands second party → ⊥) × (left ≡ space_of_whole Two party))

-- two disks are opened as one party, after the one that lacks it was made to stand for it
pub record IsPairOpened {D : Type 0} (told : D → View) (old : Disks D) (result : Result (Twin D) (PairUnmade D)) : Type 0 where
  pub stand : IfOk result (IsTwin told)
  -- the party is the one for which the first disk stands, or the second, where the first is blank
  pub exact : IfOk result (λ m. (i j : List ℕ) → AreRead (told old.first) (told old.second) i j → Recovers i j m.first.party)
  -- with the space that the first image leaves, or the frame that was written over a blank one
  pub left : IfOk result (λ m. (i j : List ℕ) → AreRead (told old.first) (told old.second) i j → HasFirstSpace i m.first.party (space m.first))
  pub second_left : IfOk result (λ m. (i j : List ℕ) → AreRead (told old.first) (told old.second) i j → HasSecondSpace j m.first.party (space m.second))
  -- where it had to be written, it isn't too large for one frame
  pub small : IfOk result (λ m. (i j : List ℕ) → AreRead (told old.first) (told old.second) i j → (PairStands i j m.first.party → ⊥) → IsTooLarge Two m.first.party → ⊥)
  pub refused : IfErr result (λ u. (i j : List ℕ) → AreRead (told old.first) (told old.second) i j → IsPairRefusal i j u.cause)
  -- where a party can be opened of the two images, it is, or a disk failed, memory was wanting, or the party is too large
  pub due : IfErr result (λ u. (i j : List ℕ) (party : Party) → AreRead (told old.first) (told old.second) i j → Recovers i j party → IsPairFailure party u.cause)
  -- where it is blank it is made, where it stands for another party it is switched, and never lost
  pub first_moments : (i j : List ℕ) (party : Party) → AreRead (told old.first) (told old.second) i j → Recovers i j party
      → LeavesParty (told old.first) (told (opened_disks result).first) i party
  pub second_moments : (i j : List ℕ) (party : Party) → AreRead (told old.first) (told old.second) i j → Recovers i j party
      → LeavesParty (told old.second) (told (opened_disks result).second) j party
  -- where both stand for it, nothing is written
  pub quiet : (i j : List ℕ) (party : Party) → AreRead (told old.first) (told old.second) i j → PairStands i j party
      → IsUntouched (told old.first) (told (opened_disks result).first) × IsUntouched (told old.second) (told (opened_disks result).second)
  -- and where no party can be opened of the two images
  pub stays : (i j : List ℕ) → AreRead (told old.first) (told old.second) i j → ((party : Party) → Recovers i j party → ⊥)
      → IsUntouched (told old.first) (told (opened_disks result).first) × IsUntouched (told old.second) (told (opened_disks result).second)
  -- and where the party is too large for the one frame that would be written, whatever is answered
  pub too_large : (i j : List ℕ) (party : Party) → AreRead (told old.first) (told old.second) i j → Recovers i j party → IsTooLarge Two party
      → IsUntouched (told old.first) (told (opened_disks result).first) × IsUntouched (told old.second) (told (opened_disks result).second)
  -- the first disk is written only where it is blank, and the second only where the first isn't
  pub first_stays : (i j : List ℕ) → AreRead (told old.first) (told old.second) i j → is_blank i ≡ false → IsUntouched (told old.first) (told (opened_disks result).first)
  pub second_stays : (i j : List ℕ) → AreRead (told old.first) (told old.second) i j → is_blank i ≡ true → IsUntouched (told old.second) (told (opened_disks result).second)
  pub fault : IfErr result (λ u. HasPairFault told old u.disks u.cause)
  pub keeps : KeepsPair told old (opened_disks result)
