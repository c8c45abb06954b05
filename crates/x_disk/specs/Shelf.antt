-- What a shelf tells, and what its calls do to that (this project's profile).
use Rattle.std.specs.Prelude.{◌≡◌, ◌≢◌, ◌⊎◌, ◌<◌, ◌≤◌, ℕ, List, Result, IfOk, OnOk, OnErr, IsErrOf, refl}
use Rattle.x_base.specs.Edge.{Rose}
use Rattle.x_disk.specs.Disk.{View}
use Rattle.x_disk.specs.declared.disk.DiskErr.{DiskErr}
use Rattle.x_disk.specs.declared.disk.DiskErr.TheVariants.{Fault, NoMemory}

-- one disk tells what the other does, but for faults and the calls that pass; what the first covers, the other does
pub record IsAlike (v w : View) : Type 0 where
  pub now : w.now ≡ v.now
  pub stable : w.stable ≡ v.stable
  pub moment : w.moment ≡ v.moment
  pub images : (c : List ℕ) → w.may_leave c → v.may_leave c
  pub images_stay : (c : List ℕ) → v.may_leave c → w.may_leave c
  pub since : (t : ℕ) (c : List ℕ) → w.left_since t c → v.left_since t c
  pub since_stays : (t : ℕ) (c : List ℕ) → v.left_since t c → w.left_since t c
  pub covers : (end bytes calls : ℕ) → v.covers end bytes calls → w.covers end bytes calls

-- the disks under the other names stay
abbrev pub OthersStay : List ℕ → (List ℕ → View) → (List ℕ → View) → Type 0
OthersStay name old new = (other : List ℕ) → other ≢ name → IsAlike (old other) (new other)

-- all disks stay
abbrev pub AllStay : (List ℕ → View) → (List ℕ → View) → Type 0
AllStay old new = (name : List ℕ) → IsAlike (old name) (new name)

-- the slots that were there still are
abbrev pub SlotsStay : (List ℕ → Type 0) → (List ℕ → Type 0) → Type 0
SlotsStay old new = (name : List ℕ) → old name → new name

pub alike_refl : (v : View) → IsAlike v v
alike_refl v = record { now = refl; stable = refl; moment = refl; images = λ c is. is; images_stay = λ c is. is; since = λ t c is. is; since_stays = λ t c is. is; covers = λ e b k is. is }

-- all that a shelf tells
pub record ShelfView : Type 1 where
  pub entry : List ℕ → View  -- what the disk under a name tells
  pub has_slot : List ℕ → Type 0  -- the disk under a name has a place
  pub is_back : List ℕ → Type 0  -- the disk under a name was put back
  pub faults : ℕ

abbrev pub shelf_view : {H : Type 0} → (H → List ℕ → View) → (H → List ℕ → Type 0) → (H → List ℕ → Type 0) → (H → ℕ) → H → ShelfView
shelf_view entry has_slot is_back faults s = record { entry = entry s; has_slot = has_slot s; is_back = is_back s; faults = faults s }

-- the disk under a name is taken out, and has a slot from then on
pub record IsFetched {D : Type 0} (told : D → View) (name : List ℕ) (old new : ShelfView) (result : Result D DiskErr) : Type 0 where
  pub disk : IfOk result (λ disk. IsAlike (old.entry name) (told disk))
  pub fresh : IfOk result (λ disk. (told disk).faults ≡ 0)
  pub slot : OnOk result (new.has_slot name)
  pub slots : SlotsStay old.has_slot new.has_slot
  -- a disk that was put back before stays so
  pub backs : SlotsStay old.is_back new.is_back
  pub others : OnOk result (OthersStay name old.entry new.entry)
  pub err : OnErr result (AllStay old.entry new.entry)
  pub later : old.faults ≤ new.faults
  pub cause : IsErrOf result Fault → Rose old.faults new.faults
  pub no_memory : IsErrOf result NoMemory → new.faults ≡ old.faults

-- this is put under a name, also after an error where that has a slot
pub record IsPutBack (put : View) (name : List ℕ) (old new : ShelfView) (result : Result Unit DiskErr) : Type 0 where
  pub disk : OnOk result (IsAlike put (new.entry name))
  pub back : OnOk result (new.is_back name)
  pub err : OnErr result (IsAlike (old.entry name) (new.entry name) ⊎ IsAlike put (new.entry name))
  pub no_memory : IsErrOf result NoMemory → (old.has_slot name → ⊥) → IsAlike (old.entry name) (new.entry name)
  pub kept : old.has_slot name → IsAlike put (new.entry name)
  pub slots : SlotsStay old.has_slot new.has_slot
  -- a disk that was put back before stays so
  pub backs : SlotsStay old.is_back new.is_back
  pub others : OthersStay name old.entry new.entry
  pub later : old.faults ≤ new.faults
  pub seen : 0 < put.faults → Rose old.faults new.faults
  pub cause : IsErrOf result Fault → Rose old.faults new.faults
