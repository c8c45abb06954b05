-- A call that ends with a fault or with no memory (this project's profile).
use Rattle.std.specs.Prelude.{◌≡◌, ◌⊎◌, ℕ, List, Some}
use Rattle.x_disk.specs.Disk.{View}
use Rattle.x_party.specs.declared.outcome.Outcome.{Outcome}
use Rattle.x_party.specs.declared.outcome.Outcome.TheVariants as outcome
use Rattle.key_store.specs.Store.{StandsWith}
use Rattle.member.specs.Member.{Member}
use Rattle.world_laws.specs.World.{HasMember}
use Rattle.world_laws.specs.Events.{Completion, CutNew, Event}
use Rattle.call_laws.specs.Calls.{InEveryNetwork}

-- the call answered nothing
abbrev pub IsFailure : Outcome → Type 0
IsFailure outcome.Fault = Unit {0}
IsFailure outcome.NoMemory = Unit {0}
IsFailure o = ⊥

-- the image stands for the member as it was, or as the event leaves it, with its text left out
abbrev pub IsOldOrAfter : Member → (Completion → Event) → List ℕ → Type 0
IsOldOrAfter x e image = StandsWith image x.party x.space ⊎ InEveryNetwork x (e CutNew) (λ w after. HasMember after x.party.own (StandsWith image))

-- so do what a read gives of the disk and what a crash leaves of it
pub record IsLeft (x : Member) (e : Completion → Event) (v : View) : Type 0 where
  pub reads : (image : List ℕ) → v.now ≡ Some image → IsOldOrAfter x e image
  pub leaves : (image : List ℕ) → v.may_leave image → IsOldOrAfter x e image
