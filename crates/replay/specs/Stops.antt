-- A stopped event: it is begun, the power goes at a call of the disk, and the party is opened again. The party before
-- the event stands, or the one after it (this project's profile).
use Rattle.std.specs.Prelude.{◌≡◌, ◌⊎◌, ℕ, Bool, true, false}
use Rattle.x_disk.specs.Disk.{View, Tells}
use Rattle.key_store.specs.Store.{Stored}
use Rattle.member.specs.Member.{Member}
use Rattle.node_core.specs.Turns.{member_of}
use Rattle.course.specs.Stops.{IsFixed}
use Rattle.course.specs.declared.progress.Stop.{Stop}

-- the party that is opened is x or y, and where the disks tell their bytes, which it is, is said
pub record IsStopped {D : Type 0} (tell : Bool) (told : D → View) (x y : Member) (keep : Type 0) (stop : Stop) (before after : ℕ) (new : Stored D) (next : Bool) : Type 0 where
  pub cut : ((next ≡ false) × (member_of new ≡ x)) ⊎ ((next ≡ true) × (member_of new ≡ y))
  pub fixed : IsFixed tell keep stop before after next
  pub tells : tell ≡ true → Tells (told new.disk)
