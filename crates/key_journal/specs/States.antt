-- What the states of a journal tell.
use Rattle.std.specs.Prelude.{◌≡◌, ◌≢◌, ◌⊎◌, ℕ, ◌+◌, ◌-◌, ◌<◌, ◌≤◌, ◌==◌, if◌then◌else◌, List, [], ◌∷◌, ◌++◌, length, slice_index, true, false, Bool, Some, Result, IsErrOf}
use Rattle.key_journal.specs.Layout.{area_size, second_start, first_start}
use Rattle.x_base.specs.Edge.{Rose}
use Rattle.x_disk.specs.Disk.{View, IsTornAt, IsDurable, IsUntouched, disk_size}
use Rattle.x_disk.specs.declared.disk.DiskErr.{DiskErr}
use Rattle.x_disk.specs.declared.disk.DiskErr.TheVariants.{Fault}
use Rattle.key_journal.specs.Journal.{frame_of, frames, start, is_blank, HoldsBodies, gate_place, IsBody, Stages, Begins}

-- a disk whose image is blank
pub record Empty (D : Type 0) : Type 0 where
  pub disk : D

-- a disk, the gate that is read next, the end of its area, and whether the list of frames ended there
pub record Reading (D : Type 0) : Type 0 where
  pub disk : D
  pub gate : ℕ
  pub end : ℕ
  pub ended : Bool

-- a disk, the place of the closed gate, and the end of its area
pub record Site (D : Type 0) : Type 0 where
  pub disk : D
  pub gate : ℕ
  pub end : ℕ

-- the same with the place of the gate that comes next
pub record Pending (D : Type 0) : Type 0 where
  pub disk : D
  pub gate : ℕ
  pub next : ℕ
  pub end : ℕ

-- a disk that failed, and how
pub record Failed (D : Type 0) : Type 0 where
  pub disk : D
  pub cause : DiskErr

-- the disk's faults never fall, and `Fault` comes only where they rose
pub record FaultsRose (old new : View) (cause : DiskErr) : Type 0 where
  pub later : old.faults ≤ new.faults
  pub fault : cause ≡ Fault → Rose old.faults new.faults

-- the same, of an answer
pub record HasFaults {T : Type 0} (old new : View) (result : Result T DiskErr) : Type 0 where
  pub later : old.faults ≤ new.faults
  pub fault : IsErrOf result Fault → Rose old.faults new.faults

-- a crash may leave this after a write of n bytes that it cuts short
abbrev pub MayTear : View → ℕ → ℕ → List ℕ → Type 0
MayTear v at n image = (c : List ℕ) × v.may_leave c × IsTornAt at n c image

-- the disk tells what a read gives, and that stands for these bodies
pub record HasBodies (v : View) (bodies : List (List ℕ)) : Type 0 where
  pub image : List ℕ
  pub now : v.now ≡ Some image
  pub holds : HoldsBodies image bodies

-- the same, and a frame with this body lies behind the closed gate
pub record HasStaged (v : View) (bodies : List (List ℕ)) (body : List ℕ) : Type 0 where
  pub image : List ℕ
  pub now : v.now ≡ Some image
  pub stages : Stages image bodies body

-- the disk tells what a read gives, and that begins with these bodies, up to the gate at this place
pub record HasRead (v : View) (bodies : List (List ℕ)) (gate : ℕ) : Type 0 where
  pub image : List ℕ
  pub now : v.now ≡ Some image
  pub begins : Begins image bodies gate

-- the first of all bodies are these
pub record AreFirst (bodies all : List (List ℕ)) : Type 0 where
  pub rest : List (List ℕ)
  pub whole : all ≡ bodies ++ rest

-- the text of a frame
pub record IsFrame (frame : List ℕ) : Type 0 where
  pub body : List ℕ
  pub is_body : IsBody body
  pub is : frame ≡ frame_of body

-- the room of an area with these bodies: what is left behind their last gate, and that gate
abbrev pub room_of : List (List ℕ) → ℕ
room_of bodies = area_size - length (frames bodies)

-- where the disk tells what the journal stands for, the area's end lies so far behind the last gate
abbrev pub HasRoom : View → ℕ → ℕ → Type 0
HasRoom v gate end = (bodies : List (List ℕ)) → HasBodies v bodies → end ≡ gate + room_of bodies

-- byte 0 is there and isn't 1
pub record HasClosedGate (image : List ℕ) : Type 0 where
  pub some : 1 ≤ length image
  pub closed : slice_index image 0 ≢ 1

-- where the image isn't blank, nothing is written
abbrev pub WritesOnlyToBlank : View → View → Type 0
WritesOnlyToBlank old new = (image : List ℕ) → old.now ≡ Some image → is_blank image ≡ false → IsUntouched old new

-- every Blank
pub record IsEmpty (v : View) : Type 0 where
  pub durable : IsDurable v
  pub closed : (image : List ℕ) → v.now ≡ Some image → HasClosedGate image

-- the image stands for some bodies, and its closed gate is at this place
pub record IsAt (image : List ℕ) (gate end : ℕ) : Type 0 where
  pub bodies : List (List ℕ)
  pub holds : HoldsBodies image bodies
  pub place : gate ≡ gate_place image bodies
  pub last : end ≡ start image + area_size

-- every Ready
pub record IsReady (v : View) (gate end : ℕ) : Type 0 where
  pub room : gate < end
  pub within : end ≤ disk_size
  pub durable : IsDurable v
  pub journal : (image : List ℕ) → v.now ≡ Some image → IsAt image gate end

-- some frame lies behind that gate, and the next gate is at this place
pub record IsAtWith (image : List ℕ) (gate next end : ℕ) : Type 0 where
  pub bodies : List (List ℕ)
  pub body : List ℕ
  pub stages : Stages image bodies body
  pub place : gate ≡ gate_place image bodies
  pub after : next ≡ gate + length body + 5
  pub last : end ≡ start image + area_size

-- every Staged
pub record IsStaged (v : View) (gate next end : ℕ) : Type 0 where
  pub room : gate < next
  pub fits : next < end
  pub within : end ≤ disk_size
  pub durable : IsDurable v
  pub journal : (image : List ℕ) → v.now ≡ Some image → IsAtWith image gate next end

-- one of the two
abbrev pub HoldsOldOrNew : List (List ℕ) → List ℕ → List ℕ → Type 0
HoldsOldOrNew bodies body image = HoldsBodies image bodies ⊎ HoldsBodies image (bodies ++ body ∷ [])

-- nothing yet, or the first body
abbrev pub IsBlankOrFirst : List ℕ → List ℕ → Type 0
IsBlankOrFirst body image = (is_blank image ≡ true) ⊎ HoldsBodies image (body ∷ [])

-- the old bodies, or the new one alone
abbrev pub IsOldOrAlone : List (List ℕ) → List ℕ → List ℕ → Type 0
IsOldOrAlone bodies body image = HoldsBodies image bodies ⊎ HoldsBodies image (body ∷ [])

-- where the other area begins, by the end of the selected one
abbrev pub other_start : ℕ → ℕ
other_start end = if end == second_start then second_start else first_start

-- the byte that selects the area that begins here
abbrev pub selector_of : ℕ → ℕ
selector_of start = if start == second_start then 1 else 0
