-- How a party is created on two disks (this project's profile).
use Rattle.std.specs.Prelude.{◌≡◌, ◌⊎◌, ℕ, ◌≤◌, true, false, List, Some, Result, Ok, Err, IfOk, IfErr}
use Rattle.x_base.specs.Edge.{Rose}
use Rattle.x_base.specs.declared.party.Role.{Role}
use Rattle.x_gen.specs.declared.generator.Gen.{Gen}
use Rattle.x_disk.specs.Disk.{View, Tells, LeavesOnly, IsUntouched}
use Rattle.key_journal.specs.Journal.{is_blank}
use Rattle.key_journal.specs.Opening.{IsFree}
use Rattle.key_journal.specs.declared.cause.Cause.{Cause}
use Rattle.key_journal.specs.declared.cause.Cause.TheVariants as cause
use Rattle.key_journal.specs.declared.cause.Unmade.{Unmade}
use Rattle.party_state.specs.State.{Party, begun}
use Rattle.change_code.specs.Cost.{space_of_whole}
use Rattle.change_code.specs.declared.format.Format.TheVariants.{Two}
use Rattle.key_store.specs.Store.{IsBlankOrFirst, space}
use Rattle.mirror_store.specs.Pairs.{IsKeptOn, Twin, IsTwin}
use Rattle.mirror_store.specs.Answers.{opened_disks}
use Rattle.mirror_store.specs.Opening.{AreRead, HasPairFault, KeepsPair}
use Rattle.disk_pair.specs.declared.disks.Disks.{Disks}
use Rattle.mirror_store.specs.declared.pair.PairCause.{PairCause}
use Rattle.mirror_store.specs.declared.pair.PairCause.TheVariants.{First, Second, OtherParty, TooLarge}
use Rattle.mirror_store.specs.declared.pair.PairUnmade.{PairUnmade}

abbrev pub looked_disk : {D : Type 0} → Result D (Unmade D) → D
looked_disk (Ok d) = d
looked_disk (Err u) = u.disk

-- a disk is looked at, and nothing is written
pub record IsLookedAt {D : Type 0} (told : D → View) (old : D) (result : Result D (Unmade D)) : Type 0 where
  pub blank : IfOk result (λ d. (b : List ℕ) → (told old).now ≡ Some b → is_blank b ≡ true)
  -- it is refused exactly where the image isn't blank
  pub exact : IfErr result (λ u. (b : List ℕ) → (told old).now ≡ Some b → IsFree u.cause ⊎ ((u.cause ≡ cause.NotEmpty) × (is_blank b ≡ false)))
  pub names : IfErr result (λ u. IsFree u.cause ⊎ (u.cause ≡ cause.NotEmpty))
  pub untouched : IsUntouched (told old) (told (looked_disk result))
  pub fault : IfErr result (λ u. u.cause ≡ cause.Fault → Rose (told old).faults (told u.disk).faults)
  pub faults : (told old).faults ≤ (told (looked_disk result)).faults

-- why no party is created on two disks
abbrev pub IsUncreated : List ℕ → List ℕ → PairCause → Type 0
IsUncreated first second (First cause.Blank) = ⊥
IsUncreated first second (First cause.NotEmpty) = is_blank first ≡ false
IsUncreated first second (First (cause.Damaged place)) = ⊥
IsUncreated first second (First cause.Fault) = Unit {0}
IsUncreated first second (First cause.NoMemory) = Unit {0}
IsUncreated first second (Second cause.Blank) = ⊥
IsUncreated first second (Second cause.NotEmpty) = (is_blank first ≡ true) × (is_blank second ≡ false)
IsUncreated first second (Second (cause.Damaged place)) = ⊥
IsUncreated first second (Second cause.Fault) = Unit {0}
IsUncreated first second (Second cause.NoMemory) = Unit {0}
IsUncreated first second (OtherParty a b) = ⊥
IsUncreated first second TooLarge = ⊥

-- the party has on either disk the space that one frame of it in format 2 leaves
abbrev pub IsAnewOnBoth : {D : Type 0} → Party → Twin D → Type 0
IsAnewOnBoth party m = (space m.first ≡ space_of_whole Two party) × (space m.second ≡ space_of_whole Two party)

-- a party is created on two disks, whose images both were blank
pub record IsPairCreated {D : Type 0} (told : D → View) (own : List ℕ) (role : Role) (generator : Gen) (old : Disks D) (result : Result (Twin D) (PairUnmade D)) : Type 0 where
  pub stand : IfOk result (IsTwin told)
  pub party : IfOk result (λ m. m.first.party ≡ begun own role generator)
  pub left : IfOk result (λ m. IsAnewOnBoth (begun own role generator) m)
  pub blank : IfOk result (λ m. (i j : List ℕ) → AreRead (told old.first) (told old.second) i j → (is_blank i ≡ true) × (is_blank j ≡ true))
  pub refused : IfErr result (λ u. (i j : List ℕ) → AreRead (told old.first) (told old.second) i j → IsUncreated i j u.cause)
  -- where either isn't blank, nothing is written
  pub first_stays : (i j : List ℕ) → AreRead (told old.first) (told old.second) i j → (is_blank i ≡ false) ⊎ (is_blank j ≡ false) → IsUntouched (told old.first) (told (opened_disks result).first)
  pub second_stays : (i j : List ℕ) → AreRead (told old.first) (told old.second) i j → (is_blank i ≡ false) ⊎ (is_blank j ≡ false) → IsUntouched (told old.second) (told (opened_disks result).second)
  -- a crash at any moment leaves a blank image, one that stands for the party, or what it could leave before
  pub first_moments : Tells (told old.first) → LeavesOnly (told old.first) (told (opened_disks result).first) (λ c. IsBlankOrFirst (begun own role generator) c ⊎ (told old.first).may_leave c)
  pub second_moments : Tells (told old.second) → LeavesOnly (told old.second) (told (opened_disks result).second) (λ c. IsBlankOrFirst (begun own role generator) c ⊎ (told old.second).may_leave c)
  -- the first is made before the second is touched
  pub order : IfErr result (λ u. (reason : Cause) → u.cause ≡ First reason → IsUntouched (told old.second) (told u.disks.second))
  -- the second is as it was, or each image of the first that a crash may leave stands for the party
  pub kept : IfErr result (λ u. IsUntouched (told old.second) (told u.disks.second) ⊎ IsKeptOn (told u.disks.first) (begun own role generator) (space_of_whole Two (begun own role generator)))
  pub fault : IfErr result (λ u. HasPairFault told old u.disks u.cause)
  pub keeps : KeepsPair told old (opened_disks result)

-- a party is made on two blank disks, the first and then the second
pub record IsMadeTwice {D : Type 0} (told : D → View) (own : List ℕ) (role : Role) (generator : Gen) (old : Disks D) (result : Result (Twin D) (PairUnmade D)) : Type 0 where
  pub stand : IfOk result (IsTwin told)
  pub party : IfOk result (λ m. m.first.party ≡ begun own role generator)
  pub left : IfOk result (λ m. IsAnewOnBoth (begun own role generator) m)
  pub refused : IfErr result (λ u. (i j : List ℕ) → AreRead (told old.first) (told old.second) i j → IsUncreated i j u.cause)
  pub first_moments : Tells (told old.first) → LeavesOnly (told old.first) (told (opened_disks result).first) (λ c. IsBlankOrFirst (begun own role generator) c ⊎ (told old.first).may_leave c)
  pub second_moments : Tells (told old.second) → LeavesOnly (told old.second) (told (opened_disks result).second) (λ c. IsBlankOrFirst (begun own role generator) c ⊎ (told old.second).may_leave c)
  -- the first is made before the second is touched
  pub order : IfErr result (λ u. (reason : Cause) → u.cause ≡ First reason → IsUntouched (told old.second) (told u.disks.second))
  -- the second is as it was, or each image of the first that a crash may leave stands for the party
  pub kept : IfErr result (λ u. IsUntouched (told old.second) (told u.disks.second) ⊎ IsKeptOn (told u.disks.first) (begun own role generator) (space_of_whole Two (begun own role generator)))
  pub fault : IfErr result (λ u. HasPairFault told old u.disks u.cause)
  pub keeps : KeepsPair told old (opened_disks result)
