-- The plan of the next entry is kept (this project's profile).
use Rattle.std.specs.Prelude.{◌≡◌, ◌⊎◌, ◌≤◌, ℕ, List, is_some}
use Rattle.x_disk.specs.Disk.{View, Tells}
use Rattle.key_journal.specs.States.{Failed, FaultsRose}
use Rattle.spool_store.specs.declared.entry_plan.EntryPlan.{EntryPlan}
use Rattle.spool_store.specs.declared.committing.Committed.{Committed}
use Rattle.spool_store.specs.declared.committing.Committed.TheVariants.{Done, Broken, NoMemory}
use Rattle.spool_store.specs.Contents.{Progress, HoldsPlans, with_plan}
use Rattle.spool_store.specs.Spools.{Spooled}

abbrev pub committed_disk : {E : Type 0} → Committed E → E
committed_disk (Done s) = s.disk
committed_disk (Broken b) = b.disk
committed_disk (NoMemory s) = s.disk

-- the plans with the next one, or without it
abbrev pub HoldsEither : Progress → EntryPlan → List ℕ → Type 0
HoldsEither old plan image = HoldsPlans image old ⊎ HoldsPlans image (with_plan old plan)

-- the disk failed: a crash leaves the plans with this one or without
pub record IsCommitCut {E : Type 0} (told : E → View) (old : Spooled E) (plan : EntryPlan) (new : Failed E) : Type 0 where
  pub cause : FaultsRose (told old.disk) (told new.disk) new.cause
  pub leaves : Tells (told old.disk) → (c : List ℕ) → (told new.disk).may_leave c → HoldsEither old.progress plan c

abbrev pub IsCommitted : {E : Type 0} → (E → View) → Spooled E → EntryPlan → Committed E → Type 0
IsCommitted told old plan (Done s) = s.progress ≡ with_plan old.progress plan
IsCommitted told old plan (Broken b) = IsCommitCut told old plan b
IsCommitted told old plan (NoMemory s) = s ≡ old

pub record IsCommitting {E : Type 0} (told : E → View) (old : Spooled E) (plan : EntryPlan) (result : Committed E) : Type 0 where
  pub answer : IsCommitted told old plan result
  pub faults : (told old.disk).faults ≤ (told (committed_disk result)).faults
  pub tells : is_some (told (committed_disk result)).now ≡ is_some (told old.disk).now
