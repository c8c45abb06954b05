-- How a store takes over a state as one frame, over what stood or on a blank disk (this project's profile).
use Rattle.std.specs.Prelude.{◌≡◌, ◌⊎◌, ℕ, suc, ◌+◌, ◌≤◌, true, false, List, [], ◌∷◌, Some, is_some, Result, IfOk, IfErr}
use Rattle.x_base.specs.Edge.{Rose}
use Rattle.x_disk.specs.Disk.{View, Tells, LeavesOnly}
use Rattle.x_disk.specs.declared.disk.DiskErr.TheVariants as disk
use Rattle.key_journal.specs.Journal.{is_blank, frame_of, IsBody}
use Rattle.key_journal.specs.Opening.{IsFree}
use Rattle.key_journal.specs.States.{Failed, FaultsRose, WritesOnlyToBlank, other_start}
use Rattle.key_journal.specs.declared.cause.Unmade.{Unmade}
use Rattle.key_journal.specs.declared.cause.Cause.TheVariants as cause
use Rattle.party_state.specs.State.{Party}
use Rattle.change_code.specs.declared.format.Format.{Format}
use Rattle.change_code.specs.declared.format.Format.TheVariants.{Two}
use Rattle.change_code.specs.declared.space.Space.{Space}
use Rattle.change_code.specs.Cost.{cost, space_of_whole}
use Rattle.change_code.specs.Whole.{whole_edits, whole_of, IsTooLarge}
use Rattle.key_store.specs.Store.{Stored, Fold, StandsWith, IsStore, IsBlankOrFirst, space}
use Rattle.key_store.specs.Keeping.{Makes}
use Rattle.key_store.specs.Kept.{result_disk, store_disk}

-- the frame of a party as one change, for which a journal of this frame alone stands
pub record IsFramedState (frame : List ℕ) (party : Party) : Type 0 where
  pub is : frame ≡ frame_of (whole_of Two party)
  pub body : IsBody (whole_of Two party)
  pub fold : Fold Two (whole_of Two party ∷ []) party
  pub small : IsTooLarge Two party → ⊥

-- the party that stood, with its space, or the other one, alone in an area in this format
abbrev pub IsOldOrOther : Party → Space → Format → Party → List ℕ → Type 0
IsOldOrOther old space format other image = StandsWith image old space ⊎ StandsWith image other (space_of_whole format other)

-- the store stands for the other party, alone in an area in format 2, or the disk failed
pub record IsReplacing {D : Type 0} (told : D → View) (old : Stored D) (other : Party) (result : Result (Stored D) (Failed D)) : Type 0 where
  pub party : IfOk result (λ s. s.party ≡ other)
  pub left : IfOk result (λ s. space s ≡ space_of_whole Two other)
  -- each image that a crash may leave stands for it
  pub stands : IfOk result (λ s. IsStore (told s.disk) s.gate s.end s.format s.party)
  -- a crash at any moment leaves the one or the other
  pub any_moment : Tells (told old.disk) → LeavesOnly (told old.disk) (told (result_disk result)) (IsOldOrOther old.party (space old) Two other)
  -- where the disk failed, the image at the last sync stands for the party that stood
  pub stable : IfErr result (λ b. Tells (told old.disk) → (image : List ℕ) → (told b.disk).stable ≡ Some image → StandsWith image old.party (space old))
  pub cause : IfErr result (λ b. FaultsRose (told old.disk) (told b.disk) b.cause)
  pub faults : (told old.disk).faults ≤ (told (result_disk result)).faults
  pub tells : is_some (told (result_disk result)).now ≡ is_some (told old.disk).now
  -- five calls are made
  pub calls : IfOk result (λ s. Makes 5 (told old.disk) (told s.disk))
  -- no memory is wanting that is reserved
  pub covered : IfErr result (λ b. (end n calls : ℕ) → (told old.disk).covers end n (suc (suc (suc (suc (suc calls)))))
      → other_start old.end + cost Two (whole_edits other) + 1 ≤ end → cost Two (whole_edits other) + 2 ≤ n → b.cause ≡ disk.NoMemory → ⊥)

-- a store of this party, alone in an area in format 2, is made on a blank disk
pub record IsMadeAs {D : Type 0} (told : D → View) (made : Party) (old : D) (result : Result (Stored D) (Unmade D)) : Type 0 where
  pub party : IfOk result (λ s. s.party ≡ made)
  pub left : IfOk result (λ s. space s ≡ space_of_whole Two made)
  pub stands : IfOk result (λ s. IsStore (told s.disk) s.gate s.end s.format s.party)
  pub blank : IfOk result (λ s. (b : List ℕ) → (told old).now ≡ Some b → is_blank b ≡ true)
  -- it is refused exactly where the image isn't blank
  pub exact : IfErr result (λ u. (b : List ℕ) → (told old).now ≡ Some b → IsFree u.cause ⊎ ((u.cause ≡ cause.NotEmpty) × (is_blank b ≡ false)))
  -- no other cause is told
  pub names : IfErr result (λ u. IsFree u.cause ⊎ (u.cause ≡ cause.NotEmpty))
  pub nothing_written : WritesOnlyToBlank (told old) (told (store_disk result))
  -- a crash at any moment leaves a blank image, one that stands for the party, or what it could leave before
  pub any_moment : Tells (told old) → LeavesOnly (told old) (told (store_disk result)) (λ c. IsBlankOrFirst made c ⊎ (told old).may_leave c)
  pub fault : IfErr result (λ u. u.cause ≡ cause.Fault → Rose (told old).faults (told u.disk).faults)
  pub faults : (told old).faults ≤ (told (store_disk result)).faults
  pub tells : is_some (told (store_disk result)).now ≡ is_some (told old).now
