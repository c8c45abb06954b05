-- What a journal's calls do that look and read (this project's profile).
use Rattle.std.specs.Prelude.{◌≡◌, ◌⊎◌, ℕ, ◌+◌, ◌<◌, ◌≤◌, nat_le, if◌then◌else◌, List, [], ◌∷◌, ◌++◌, length, true, false, Option, Some, None, is_some, Result, IfOk, IfErr, IfSome, OnErr}
use Rattle.x_base.specs.Edge.{Rose}
use Rattle.x_disk.specs.Disk.{View, IsStill, IsDurable, Tells, LeavesOnly, LeavesNoMore}
use Rattle.key_journal.specs.Journal.{is_blank, IsBody}
use Rattle.key_journal.specs.Opening.{IsOpened, IsRefusedOpening, IsFound, IsFree, IsDamagedAt, found_at}
use Rattle.key_journal.specs.Results.{empty_disk, opened_disk}
use Rattle.key_journal.specs.States.{Empty, Reading, HasBodies, HasRead, AreFirst, WritesOnlyToBlank}
use Rattle.key_journal.specs.declared.cause.Cause.{Cause}
use Rattle.key_journal.specs.declared.cause.Unmade.{Unmade}
use Rattle.key_journal.specs.declared.cause.Cause.TheVariants as cause

-- a disk is looked at, and the gate of a blank image is made to stand closed
pub record IsPrepared {D : Type 0} (told : D → View) (old : D) (result : Result (Empty D) (Unmade D)) : Type 0 where
  pub blank : IfOk result (λ _. (b : List ℕ) → (told old).now ≡ Some b → is_blank b ≡ true)
  -- it is refused exactly where the image isn't blank
  pub exact : IfErr result (λ u. (b : List ℕ) → (told old).now ≡ Some b → IsFree u.cause ⊎ ((u.cause ≡ cause.NotEmpty) × (is_blank b ≡ false)))
  -- no other cause is told
  pub names : IfErr result (λ u. IsFree u.cause ⊎ (u.cause ≡ cause.NotEmpty))
  pub nothing_written : WritesOnlyToBlank (told old) (told (empty_disk result))
  -- a file of at most one byte becomes one closed gate, and a longer one stays as it is
  pub written : IfOk result (λ s. (b : List ℕ) → (told old).now ≡ Some b → (told s.disk).now ≡ Some (if nat_le (length b) 1 then 0 ∷ [] else b))
  pub durable : IfOk result (λ s. IsDurable (told s.disk))
  pub closed : IfOk result (λ s. (b : List ℕ) → (told s.disk).now ≡ Some b → is_blank b ≡ true)
  -- a crash at any moment leaves a blank image, or what it could leave before
  pub any_moment : Tells (told old) → LeavesOnly (told old) (told (empty_disk result)) (λ c. (is_blank c ≡ true) ⊎ (told old).may_leave c)
  pub fault : IfErr result (λ u. u.cause ≡ cause.Fault → Rose (told old).faults (told u.disk).faults)
  pub faults : (told old).faults ≤ (told (empty_disk result)).faults
  pub tells : is_some (told (empty_disk result)).now ≡ is_some (told old).now

-- a disk is synced, and the header of its image read
pub record IsOpening {D : Type 0} (told : D → View) (old : D) (result : Result (Reading D) (Unmade D)) : Type 0 where
  pub opened : IfOk result (λ o. IsOpened (told old) (told o.disk) o.gate o.end o.ended)
  pub refused : IfErr result (λ u. IsRefusedOpening (told old) (told u.disk) u.cause)
  -- an image that stands is opened
  pub undamaged : (bodies : List (List ℕ)) → HasBodies (told old) bodies → IfErr result (λ u. IsFree u.cause)
  -- a damage that is told is there
  pub damaged : IfErr result (λ u. (place : ℕ) → u.cause ≡ cause.Damaged place → (b : List ℕ) → (told old).now ≡ Some b → IsDamagedAt b place)
  -- and it is the first
  pub first_damage : IfErr result (λ u. (place : ℕ) (b : List ℕ) → (told old).now ≡ Some b → IsDamagedAt b place → IsFree u.cause ⊎ (u.cause ≡ cause.Damaged place))
  -- a crash at any moment leaves what it could leave before
  pub any_moment : LeavesOnly (told old) (told (opened_disk result)) (told old).may_leave
  pub images : LeavesNoMore (told old) (told (opened_disk result))
  pub faults : (told old).faults ≤ (told (opened_disk result)).faults

-- what lies at the gate is read: a body, or that there is none
pub record IsReadOn {D : Type 0} (told : D → View) (old new : Reading D) (result : Result (Option (List ℕ)) Cause) : Type 0 where
  -- what lies there, or a cause that no image gives
  pub exact : (b : List ℕ) → (told old.disk).now ≡ Some b → IsFound (found_at b old.gate old.end) result
  pub body : IfOk result (λ o. IfSome o IsBody)
  -- a body follows those that were read
  pub more : IfOk result (λ o. IfSome o (λ body. (bodies : List (List ℕ)) → HasRead (told old.disk) bodies old.gate
      → HasRead (told new.disk) (bodies ++ body ∷ []) new.gate))
  -- where there is none, those that were read are all
  pub all : IfOk result (λ o. o ≡ None → (bodies : List (List ℕ)) → HasRead (told old.disk) bodies old.gate → HasBodies (told new.disk) bodies)
  -- and no others
  pub only : IfOk result (λ o. o ≡ None → (bodies all : List (List ℕ)) → HasRead (told old.disk) bodies old.gate → HasBodies (told old.disk) all → all ≡ bodies)
  -- the list ends there
  pub ended : IfOk result (λ o. o ≡ None → new.ended ≡ true)
  -- a body leads to the next gate
  pub onward : IfOk result (λ o. IfSome o (λ body. (new.gate ≡ old.gate + 5 + length body) × (new.gate < new.end)))
  -- where there is none, the gate stays
  pub rests : IfOk result (λ o. o ≡ None → new.gate ≡ old.gate)
  -- behind a body the end of the list isn't found yet
  pub unfinished : IfOk result (λ o. IfSome o (λ _. new.ended ≡ false))
  -- an image that stands gives no other cause
  pub undamaged : (bodies : List (List ℕ)) → HasBodies (told old.disk) bodies → IfErr result IsFree
  -- a damage that is told is there
  pub damaged : IfErr result (λ c. (place : ℕ) → c ≡ cause.Damaged place → (b : List ℕ) → (told old.disk).now ≡ Some b → IsDamagedAt b place)
  -- an image with a damage is read on until there, and that is what is told of it
  pub unended : IfOk result (λ o. o ≡ None → (place : ℕ) (b : List ℕ) → (told old.disk).now ≡ Some b → IsDamagedAt b place → ⊥)
  -- and it is the first
  pub first_damage : IfErr result (λ c. (place : ℕ) (b : List ℕ) → (told old.disk).now ≡ Some b → IsDamagedAt b place → IsFree c ⊎ (c ≡ cause.Damaged place))
  -- what was read are the first of all bodies
  pub first : (bodies all : List (List ℕ)) → HasRead (told new.disk) bodies new.gate → HasBodies (told new.disk) all → AreFirst bodies all
  -- after an error the next call begins at the same gate
  pub again : OnErr result ((new.gate ≡ old.gate) × (new.ended ≡ old.ended))
  pub end : new.end ≡ old.end
  pub still : IsStill (told old.disk) (told new.disk)
  pub names : IfErr result (λ c. IsFree c ⊎ (c ≡ cause.Damaged old.gate))
  pub fault : IfErr result (λ c. c ≡ cause.Fault → Rose (told old.disk).faults (told new.disk).faults)
  pub faults : (told old.disk).faults ≤ (told new.disk).faults
