-- How the second disk is opened beside the first (this project's profile).
use Rattle.std.specs.Prelude.{◌≡◌, ◌≢◌, ℕ, ◌≤◌, true, List, Some, is_some, Result, IfOk, IfErr}
use Rattle.x_base.specs.Edge.{Rose}
use Rattle.x_disk.specs.Disk.{View, IsUntouched}
use Rattle.key_journal.specs.Journal.{is_blank}
use Rattle.key_journal.specs.declared.cause.Cause.TheVariants as cause
use Rattle.party_state.specs.State.{Party}
use Rattle.change_code.specs.Cost.{space_of_whole}
use Rattle.change_code.specs.declared.format.Format.TheVariants.{Two}
use Rattle.change_code.specs.Whole.{IsTooLarge}
use Rattle.key_store.specs.Store.{Stored, Stands, StandsWith, IsFirstDamage, space}
use Rattle.mirror_store.specs.Pairs.{IsBlankOrLike, Twin, IsTwin}
use Rattle.mirror_store.specs.Answers.{opened_disks}
use Rattle.mirror_store.specs.Opening.{LeavesParty, HasSecondSpace, HasPairFault, KeepsPair}
use Rattle.disk_pair.specs.declared.disks.Disks.{Disks}
use Rattle.mirror_store.specs.declared.pair.PairCause.{PairCause}
use Rattle.mirror_store.specs.declared.pair.PairCause.TheVariants.{First, Second, OtherParty, TooLarge}
use Rattle.mirror_store.specs.declared.pair.PairUnmade.{PairUnmade}

-- why no party is opened, where the first disk stands for this one
abbrev pub IsBesideRefusal : Party → List ℕ → PairCause → Type 0
IsBesideRefusal one second (First reason) = ⊥
IsBesideRefusal one second (Second cause.Blank) = ⊥
IsBesideRefusal one second (Second cause.NotEmpty) = ⊥
IsBesideRefusal one second (Second (cause.Damaged place)) = IsFirstDamage second place
IsBesideRefusal one second (Second cause.Fault) = Unit {0}
IsBesideRefusal one second (Second cause.NoMemory) = Unit {0}
IsBesideRefusal one second (OtherParty a b) = (other : Party) × Stands second other × (a ≡ one.own) × (b ≡ other.own) × (a ≢ b)
IsBesideRefusal one second TooLarge = IsTooLarge Two one × IsBlankOrLike one second × (Stands second one → ⊥)

-- the first disk stands for its party, and the second is opened as a copy of it
pub record IsBeside {D : Type 0} (told : D → View) (one : Stored D) (old : D) (result : Result (Twin D) (PairUnmade D)) : Type 0 where
  pub stand : IfOk result (IsTwin told)
  pub party : IfOk result (λ m. m.first.party ≡ one.party)
  pub same : IfOk result (λ m. m.first ≡ one)
  pub exact : IfOk result (λ m. (j : List ℕ) → (told old).now ≡ Some j → IsBlankOrLike one.party j)
  pub second_left : IfOk result (λ m. (j : List ℕ) → (told old).now ≡ Some j → HasSecondSpace j one.party (space m.second))
  -- what is written isn't too large for one frame
  pub small : IfOk result (λ m. (j : List ℕ) → (told old).now ≡ Some j → (Stands j one.party → ⊥) → IsTooLarge Two one.party → ⊥)
  pub refused : IfErr result (λ u. (j : List ℕ) → (told old).now ≡ Some j → IsBesideRefusal one.party j u.cause)
  pub first : (opened_disks result).first ≡ one.disk
  pub moments : (j : List ℕ) → (told old).now ≡ Some j → LeavesParty (told old) (told (opened_disks result).second) j one.party
  pub quiet : (j : List ℕ) → (told old).now ≡ Some j → Stands j one.party → IsUntouched (told old) (told (opened_disks result).second)
  pub stays : (j : List ℕ) → (told old).now ≡ Some j → (IsBlankOrLike one.party j → ⊥) → IsUntouched (told old) (told (opened_disks result).second)
  pub too_large : IsTooLarge Two one.party → IsUntouched (told old) (told (opened_disks result).second)
  pub fault : IfErr result (λ u. u.cause ≡ Second cause.Fault → Rose (told old).faults (told u.disks.second).faults)
  pub names : IfErr result (λ u. u.cause ≡ First cause.Fault → ⊥)
  pub faults : (told old).faults ≤ (told (opened_disks result).second).faults
  pub tells : is_some (told (opened_disks result).second).now ≡ is_some (told old).now

-- why no party is opened, where the first disk is blank
abbrev pub IsBlankRefusal : List ℕ → PairCause → Type 0
IsBlankRefusal second (First cause.Blank) = is_blank second ≡ true
IsBlankRefusal second (First cause.NotEmpty) = ⊥
IsBlankRefusal second (First (cause.Damaged place)) = ⊥
IsBlankRefusal second (First cause.Fault) = Unit {0}
IsBlankRefusal second (First cause.NoMemory) = Unit {0}
IsBlankRefusal second (Second cause.Blank) = ⊥
IsBlankRefusal second (Second cause.NotEmpty) = ⊥
IsBlankRefusal second (Second (cause.Damaged place)) = IsFirstDamage second place
IsBlankRefusal second (Second cause.Fault) = Unit {0}
IsBlankRefusal second (Second cause.NoMemory) = Unit {0}
IsBlankRefusal second (OtherParty a b) = ⊥
IsBlankRefusal second TooLarge = (party : Party) × Stands second party × IsTooLarge Two party

-- the first disk is blank, and is made a copy of the second
pub record IsOverBlank {D : Type 0} (told : D → View) (old : Disks D) (result : Result (Twin D) (PairUnmade D)) : Type 0 where
  pub stand : IfOk result (IsTwin told)
  pub exact : IfOk result (λ m. (j : List ℕ) → (told old.second).now ≡ Some j → Stands j m.first.party)
  -- its room is that behind one frame, for which it isn't too large
  pub left : IfOk result (λ m. space m.first ≡ space_of_whole Two m.first.party)
  pub second_left : IfOk result (λ m. (j : List ℕ) → (told old.second).now ≡ Some j → StandsWith j m.first.party (space m.second))
  pub small : IfOk result (λ m. IsTooLarge Two m.first.party → ⊥)
  pub refused : IfErr result (λ u. (i j : List ℕ) → (told old.first).now ≡ Some i → (told old.second).now ≡ Some j → IsBlankRefusal j u.cause)
  pub moments : (i j : List ℕ) (party : Party) → (told old.first).now ≡ Some i → (told old.second).now ≡ Some j → Stands j party
      → LeavesParty (told old.first) (told (opened_disks result).first) i party
  pub second : IsUntouched (told old.second) (told (opened_disks result).second)
  pub stays : (j : List ℕ) → (told old.second).now ≡ Some j → ((party : Party) → Stands j party → ⊥) → IsUntouched (told old.first) (told (opened_disks result).first)
  pub too_large : (j : List ℕ) (party : Party) → (told old.second).now ≡ Some j → Stands j party → IsTooLarge Two party → (opened_disks result).first ≡ old.first
  pub fault : IfErr result (λ u. HasPairFault told old u.disks u.cause)
  pub keeps : KeepsPair told old (opened_disks result)
