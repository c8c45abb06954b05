-- What the image under a party stands for before and after a call (this project's profile). `old` and `new` are
-- what the shelf tells of the party's disk.
use Rattle.std.specs.Prelude.{◌≡◌, ◌⊎◌, ℕ, List, [], ◌∷◌, Some, is_some}
use Rattle.x_disk.specs.Disk.{View, IsDurable}
use Rattle.party_state.specs.declared.edit.Edit.TheVariants.{Begin}
use Rattle.party_state.specs.State.{Party}
use Rattle.change_code.specs.Cost.{whole_area, space_after}
use Rattle.change_code.specs.declared.format.Format.TheVariants.{Two}
use Rattle.change_code.specs.declared.space.Space.{Space}
use Rattle.key_store.specs.Store.{StandsWith}

-- where the disk tells, what a read gives stands for this party, and this space is left
abbrev pub ReadsAs : View → Party → Space → Type 0
ReadsAs v party space = (image : List ℕ) → v.now ≡ Some image → StandsWith image party space

-- the same of each image that a crash may leave
pub record DiskStandsFor (v : View) (party : Party) (space : Space) : Type 0 where
  pub durable : IsDurable v
  pub reads : ReadsAs v party space

-- what a read gives stands for a party, and this holds of the party and its space
pub record OfParty (v : View) (P : Party → Space → Type 0) : Type 0 where
  pub party : Party
  pub space : Space
  pub reads : ReadsAs v party space
  pub holds : P party space

-- what a read gives stands for the party of this name, and this holds of the party and its space
pub record OfOwnParty (name : List ℕ) (v : View) (P : Party → Space → Type 0) : Type 0 where
  pub party : Party
  pub space : Space
  pub reads : ReadsAs v party space
  pub own : party.own ≡ name
  pub holds : P party space

-- the space that a party leaves of an empty area where it is created, in format 2
abbrev pub first_space : Party → Space
first_space p = space_after (whole_area Two) (Begin p.own p.role p.generator ∷ [])

-- a disk that told its bytes still tells them, and one that didn't still doesn't
abbrev pub StillTells : View → View → Type 0
StillTells old new = is_some new.now ≡ is_some old.now

-- one of these, or what could be left before
abbrev pub OrBefore : View → (List ℕ → Type 0) → List ℕ → Type 0
OrBefore old P image = P image ⊎ old.may_leave image
