-- What an event that fails leaves of a party's disk (this project's profile).
use Rattle.std.specs.Prelude.{◌≡◌, ◌⊎◌, ℕ, List, Some, is_some}
use Rattle.x_disk.specs.Disk.{View, Tells}
use Rattle.party_state.specs.State.{Party}
use Rattle.key_store.specs.Store.{Stands}
use Rattle.member.specs.Member.{Member}
use Rattle.node_core.specs.Turns.{IsImageOf}
use Rattle.open_parties.specs.declared.failure.Failure.{Failure}
use Rattle.open_parties.specs.declared.failure.Failure.TheVariants as failure

-- a disk, the shelf or memory failed; no image was found that stands for no party
abbrev pub IsFailing : Failure → Type 0
IsFailing failure.Fault = Unit {0}
IsFailing failure.NoMemory = Unit {0}
IsFailing (failure.Damaged place) = ⊥

-- the disk tells its bytes, and what a read gives of it stands for x; or, where a change is kept, for y
pub record ReadsEither (v : View) (x y : Member) (keep : Type 0) : Type 0 where
  pub tells : Tells v
  pub either : (image : List ℕ) → v.now ≡ Some image → IsImageOf x image ⊎ (keep × IsImageOf y image)

-- a disk on which the power-off failed, or the opening behind it: what a read gives is an image that could be left, and
-- where each of those stands for a party, no other was found
pub record IsFailedPartyDisk (v w : View) (why : Failure) : Type 0 where
  pub tells : is_some w.now ≡ is_some v.now
  pub among : (image : List ℕ) → w.now ≡ Some image → v.may_leave image
  pub sound : Tells v → ((image : List ℕ) → v.may_leave image → (party : Party) × Stands image party) → IsFailing why
