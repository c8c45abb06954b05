-- What became of wiping a store's file (this project's profile).
use Rattle.std.specs.Prelude.{◌≡◌, ◌≤◌, is_some, Result, IfOk, IfErr}
use Rattle.x_disk.specs.Disk.{View, Tells, LeavesOnly}
use Rattle.key_journal.specs.States.{Failed, FaultsRose}
use Rattle.key_journal.specs.Wiping.{Wipes}
use Rattle.key_store.specs.Store.{Stored, StandsWith, IsStore, space}
use Rattle.key_store.specs.Kept.{result_disk}

-- the party stays with its space, and what doesn't count of its file is zero; or the disk failed
pub record IsStoreWipe {D : Type 0} (told : D → View) (old : Stored D) (result : Result (Stored D) (Failed D)) : Type 0 where
  pub party : IfOk result (λ s. s.party ≡ old.party)
  -- where the gate and the end of the area are
  pub place : IfOk result (λ s. (s.gate ≡ old.gate) × (s.end ≡ old.end))
  pub format : IfOk result (λ s. s.format ≡ old.format)
  -- each image that a crash may leave stands for it
  pub stands : IfOk result (λ s. IsStore (told s.disk) s.gate s.end s.format s.party)
  pub wiped : IfOk result (λ s. Wipes (told old.disk) (told s.disk))
  -- a crash at any moment leaves an image that stands for the party
  pub any_moment : Tells (told old.disk) → LeavesOnly (told old.disk) (told (result_disk result)) (λ c. StandsWith c old.party (space old))
  pub cause : IfErr result (λ b. FaultsRose (told old.disk) (told b.disk) b.cause)
  pub faults : (told old.disk).faults ≤ (told (result_disk result)).faults
  pub tells : is_some (told (result_disk result)).now ≡ is_some (told old.disk).now
