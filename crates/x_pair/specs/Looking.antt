-- Two disks are looked at (this project's profile).
use Rattle.std.specs.Prelude.{◌≡◌, ◌≢◌, ◌⊎◌, ℕ, ◌≤◌, true, List, Some}
use Rattle.x_base.specs.Edge.{Rose}
use Rattle.x_disk.specs.Disk.{View, IsUntouched}
use Rattle.x_disk.specs.declared.disk.DiskErr.{DiskErr}
use Rattle.x_disk.specs.declared.disk.DiskErr.TheVariants as disk
use Rattle.key_journal.specs.Journal.{is_blank}
use Rattle.key_journal.specs.declared.cause.Cause.{Cause}
use Rattle.key_journal.specs.declared.cause.Cause.TheVariants as cause
use Rattle.party_state.specs.State.{Party}
use Rattle.key_store.specs.Store.{Stands, IsFirstDamage}
use Rattle.disk_pair.specs.declared.disks.Disks.{Disks}
use Rattle.mirror_store.specs.Comparing.{IsComparison}
use Rattle.mirror_store.specs.declared.comparing.Comparison.{Comparison}
use Rattle.mirror_store.specs.declared.comparing.Comparison.TheVariants as comparison
use Rattle.x_pair.specs.Comparisons.{TellsLikeness}
use Rattle.x_pair.specs.declared.found.Found.{Found}
use Rattle.x_pair.specs.declared.found.Found.TheVariants as found
use Rattle.x_pair.specs.declared.likeness.Compared.{Compared}
use Rattle.x_pair.specs.declared.likeness.Compared.TheVariants as compared
use Rattle.x_pair.specs.declared.likeness.Likeness.{Likeness}
use Rattle.x_pair.specs.declared.likeness.Likeness.TheVariants as likeness

abbrev pub found_disk : {D : Type 0} → Found D → D
found_disk (found.Party node) = node.disk
found_disk (found.Blank disk) = disk
found_disk (found.Damaged disk place) = disk
found_disk (found.Fault disk) = disk
found_disk (found.NoMemory disk) = disk

-- what is found where no party is opened. No opening tells that a disk isn't empty
abbrev pub found_with : {D : Type 0} → D → Cause → Found D
found_with disk cause.Blank = found.Blank disk
found_with disk cause.NotEmpty = found.Damaged disk 0
found_with disk (cause.Damaged place) = found.Damaged disk place
found_with disk cause.Fault = found.Fault disk
found_with disk cause.NoMemory = found.NoMemory disk

-- what was found of an image
abbrev pub Finds : {D : Type 0} → List ℕ → Found D → Type 0
Finds image (found.Party node) = Stands image node.party
Finds image (found.Blank disk) = is_blank image ≡ true
Finds image (found.Damaged disk place) = IsFirstDamage image place
Finds image (found.Fault disk) = Unit {0}
Finds image (found.NoMemory disk) = Unit {0}

-- a fault is found only where the disk's faults rose
abbrev pub HasFailed : {D : Type 0} → ℕ → ℕ → Found D → Type 0
HasFailed before after (found.Fault disk) = Rose before after
HasFailed before after f = Unit {0}

-- a disk was looked at, and nothing was written
pub record IsFound {D : Type 0} (told : D → View) (old : D) (f : Found D) : Type 0 where
  pub finds : (image : List ℕ) → (told old).now ≡ Some image → Finds image f
  pub untouched : IsUntouched (told old) (told (found_disk f))
  pub fault : HasFailed (told old).faults (told (found_disk f)).faults f
  pub later : (told old).faults ≤ (told (found_disk f)).faults

-- what a comparison of two states is told as
abbrev pub like_of : Comparison → Likeness
like_of comparison.Same = likeness.Same
like_of comparison.FirstAhead = likeness.FirstAhead
like_of comparison.SecondAhead = likeness.SecondAhead
like_of comparison.Neither = likeness.Neither

-- two states of parties are this to one another
abbrev pub IsLikenessOf : Party → Party → Likeness → Type 0
IsLikenessOf one two l = ((one.own ≢ two.own) × (l ≡ likeness.OtherParty)) ⊎ ((c : Comparison) × (one.own ≡ two.own) × IsComparison one two c × (l ≡ like_of c))

-- where the first disk is blank
abbrev pub IsBesideBlank : {D : Type 0} → Found D → Compared → Type 0
IsBesideBlank (found.Party two) c = c ≡ compared.Done likeness.FirstBlank
IsBesideBlank (found.Blank disk) c = c ≡ compared.Done likeness.BothBlank
IsBesideBlank (found.Damaged disk place) c = c ≡ compared.Done (likeness.SecondDamaged place)
IsBesideBlank (found.Fault disk) c = c ≡ compared.Fault
IsBesideBlank (found.NoMemory disk) c = c ≡ compared.NoMemory

-- where it stands for a party
abbrev pub IsBesideParty : {D : Type 0} → Party → Found D → Compared → Type 0
IsBesideParty one (found.Party two) c = (l : Likeness) × IsLikenessOf one two.party l × (c ≡ compared.Done l)
IsBesideParty one (found.Blank disk) c = c ≡ compared.Done likeness.SecondBlank
IsBesideParty one (found.Damaged disk place) c = c ≡ compared.Done (likeness.SecondDamaged place)
IsBesideParty one (found.Fault disk) c = c ≡ compared.Fault
IsBesideParty one (found.NoMemory disk) c = c ≡ compared.NoMemory

-- what is told of two disks
abbrev pub IsTold : {D : Type 0} → Found D → Found D → Compared → Type 0
IsTold (found.Party one) two c = IsBesideParty one.party two c
IsTold (found.Blank disk) two c = IsBesideBlank two c
IsTold (found.Damaged disk place) two c = c ≡ compared.Done (likeness.FirstDamaged place)
IsTold (found.Fault disk) two c = c ≡ compared.Fault
IsTold (found.NoMemory disk) two c = c ≡ compared.NoMemory

-- a failure of the shelf
abbrev pub failed_as : DiskErr → Compared
failed_as disk.Fault = compared.Fault
failed_as disk.NoMemory = compared.NoMemory

-- two disks were compared, and nothing was written
pub record HasCompared {D : Type 0} (told : D → View) (old new : Disks D) (c : Compared) : Type 0 where
  pub tells : TellsLikeness (told old.first) (told old.second) c
  pub first : IsUntouched (told old.first) (told new.first)
  pub second : IsUntouched (told old.second) (told new.second)
  pub first_later : (told old.first).faults ≤ (told new.first).faults
  pub second_later : (told old.second).faults ≤ (told new.second).faults
  pub fault : c ≡ compared.Fault → Rose (told old.first).faults (told new.first).faults ⊎ Rose (told old.second).faults (told new.second).faults
