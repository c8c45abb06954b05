-- A stopped event over a party's disk: it is begun, the power goes at a call of the disk, and the party is opened again
-- (this project's profile).
use Rattle.std.specs.Prelude.{◌≡◌, ◌⊎◌, ◌≤◌, ℕ, List, Some, is_some}
use Rattle.x_disk.specs.Disk.{View, Tells}
use Rattle.party_state.specs.State.{Party}
use Rattle.change_code.specs.declared.format.Format.{Format}
use Rattle.key_store.specs.Store.{StandsAs, IsStore}
use Rattle.member.specs.Member.{Member}
use Rattle.node_core.specs.Turns.{IsImageOf, LeftIsOf, ReadIsOf, StableIsOf}

-- a disk over which an event was carried out up to a call, before the power goes
pub record IsDiskAtStop (v w : View) (x y : Member) (keep : Type 0) (n : ℕ) : Type 0 where
  pub either : Tells v → (image : List ℕ) → w.may_leave image → IsImageOf x image ⊎ (keep × IsImageOf y image)
  pub early : Tells v → keep → n ≤ 2 → LeftIsOf w x
  pub stable : keep → n ≤ 4 → StableIsOf w x
  pub pending : keep → n ≡ 4 → w.faults ≡ 0 → ReadIsOf w y
  pub whole : Tells v → keep → 5 ≤ n → LeftIsOf w y
  pub tells : is_some w.now ≡ is_some v.now

-- from a disk to the party that is opened once the power went, in the format in which it stands
pub record IsRestarted (v w : View) (choice gate end : ℕ) (format : Format) (party : Party) : Type 0 where
  pub store : IsStore w gate end format party
  pub among : (image : List ℕ) → w.now ≡ Some image → v.may_leave image
  pub stable : choice ≡ 0 → w.now ≡ v.stable
  pub now : choice ≡ 1 → w.now ≡ v.now
  pub exact : (image : List ℕ) (other : Format) (another : Party) → w.now ≡ Some image → StandsAs image other another → (format ≡ other) × (party ≡ another)
  pub tells : is_some w.now ≡ is_some v.now
