-- What a shelf in memory tells.
use Rattle.std.specs.Prelude.{◌≡◌, ◌≢◌, ◌⊎◌, ℕ, if◌then◌else◌, List, [], ◌∷◌, ◌++◌, length, unwrap_or, bytes_eq}
use Rattle.x_disk.specs.Disk.{View, IsSound}
use Rattle.x_disk.specs.History.{History, view_of}
use Rattle.x_disk.specs.HistoryLaw.{history_sound}
use Rattle.x_disk.specs.Shelf.{ShelfView}
use Rattle.x_disk.specs.declared.slot.Slot.{Slot}

-- an empty disk, with nothing reserved
abbrev pub fresh : History
fresh = record { room = 0; steps = [] }

-- the disk in the first slot of this name
abbrev pub disk_at : List Slot → List ℕ → History
disk_at [] name = fresh
disk_at (s ∷ slots) name = if bytes_eq s.name name then unwrap_or s.disk fresh else disk_at slots name

abbrev pub entry_at : List Slot → List ℕ → View
entry_at slots name = view_of (disk_at slots name)

pub entry_sound : (slots : List Slot) (name : List ℕ) → IsSound (entry_at slots name)
entry_sound slots name = history_sound (disk_at slots name)

abbrev pub NoneOf : List Slot → List ℕ → Type 0
NoneOf [] name = Unit {0}
NoneOf (s ∷ slots) name = (s.name ≢ name) × NoneOf slots name

-- a slot of this name is there
abbrev pub HasSlot : List Slot → List ℕ → Type 0
HasSlot [] name = ⊥
HasSlot (s ∷ slots) name = (s.name ≡ name) ⊎ HasSlot slots name

-- the slot at this place is the first of this name
pub record IsFirst (slots : List Slot) (name : List ℕ) (place : ℕ) : Type 0 where
  pub front : List Slot
  pub slot : Slot
  pub back : List Slot
  pub split : slots ≡ front ++ slot ∷ back
  pub size : length front ≡ place
  pub named : slot.name ≡ name
  pub none : NoneOf front name

abbrev pub OthersSame : List ℕ → List Slot → List Slot → Type 0
OthersSame name old new = (other : List ℕ) → other ≢ name → disk_at new other ≡ disk_at old other

abbrev pub AllSame : List Slot → List Slot → Type 0
AllSame old new = (name : List ℕ) → disk_at new name ≡ disk_at old name

-- what the shelf tells
abbrev pub memory_view : List Slot → ShelfView
memory_view slots = record { entry = entry_at slots; has_slot = HasSlot slots; is_back = HasSlot slots; faults = 0 }
