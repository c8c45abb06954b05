-- What opening a journal finds (this project's profile).
use Rattle.std.specs.Prelude.{◌≡◌, ◌⊎◌, ℕ, ◌+◌, ◌*◌, ◌<◌, ◌≤◌, ◌==◌, nat_lt, nat_le, min, if◌then◌else◌, Bool, true, false, ◌&&◌, List, [], length, slice_index, take, drop, Option, Some, None, Result, Ok, Err}
use Rattle.key_journal.specs.Layout.{area_size, largest_body}
use Rattle.x_base.specs.Edge.{Rose}
use Rattle.x_disk.specs.Disk.{View, IsStill, IsDurable, disk_size}
use Rattle.key_journal.specs.Journal.{is_blank, has_magic, start, HoldsBodies, Begins}
use Rattle.x_disk.specs.declared.disk.DiskErr.{DiskErr}
use Rattle.key_journal.specs.States.{HasFaults}
use Rattle.key_journal.specs.declared.cause.Cause.{Cause}
use Rattle.key_journal.specs.declared.cause.Cause.TheVariants as cause

-- why the image can't be opened: it is blank, or its magic doesn't stand
abbrev pub refusal_of : List ℕ → Option Cause
refusal_of image = if is_blank image then Some cause.Blank else (if has_magic image then None else Some (cause.Damaged 2))

-- the gate lies within the file and is open
abbrev pub is_open : List ℕ → ℕ → Bool
is_open image gate = nat_lt gate (length image) && (slice_index image gate == 1)

-- the length that a frame states behind its gate
abbrev pub stated : List ℕ → ℕ → ℕ
stated image gate = slice_index image (gate + 1) * 16777216 + slice_index image (gate + 2) * 65536 + slice_index image (gate + 3) * 256 + slice_index image (gate + 4)

-- the length is in its range, and the body and the next gate lie within the file and the area
abbrev pub is_whole : List ℕ → ℕ → ℕ → Bool
is_whole image gate end = (nat_le 1 (stated image gate) && nat_le (stated image gate) largest_body)
    && (nat_le (gate + 6 + stated image gate) (length image) && nat_le (gate + 6 + stated image gate) end)

-- what lies at a gate of the area that ends at this place: a body, the end of the list, or damage
abbrev pub found_at : List ℕ → ℕ → ℕ → Result (Option (List ℕ)) Cause
found_at image gate end = if is_open image gate
    then (if is_whole image gate end then Ok (Some (take (stated image gate) (drop (gate + 5) image))) else Err (cause.Damaged gate))
    else (if gate == start image then Err (cause.Damaged gate) else Ok None)

-- the frames before this gate are sound, and what lies at it is damage
pub record IsDamagedGate (image : List ℕ) (gate : ℕ) : Type 0 where
  pub bodies : List (List ℕ)
  pub begins : Begins image bodies gate
  pub damage : found_at image gate (start image + area_size) ≡ Err (cause.Damaged gate)

-- the first damage of an image that isn't blank: its magic, or a gate behind sound frames
pub record IsDamagedAt (image : List ℕ) (place : ℕ) : Type 0 where
  pub not_blank : is_blank image ≡ false
  pub damage : ((has_magic image ≡ false) × (place ≡ 2)) ⊎ ((has_magic image ≡ true) × IsDamagedGate image place)

-- each place of the image holds a byte
abbrev pub AreBytes : List ℕ → Type 0
AreBytes image = (place : ℕ) → slice_index image place < 256

-- what an image stands for: nothing yet, a list of bodies, or nothing since it is damaged
abbrev pub IsJudged : List ℕ → Type 0
IsJudged image = (is_blank image ≡ true) ⊎ (((bodies : List (List ℕ)) × HoldsBodies image bodies) ⊎ ((place : ℕ) × IsDamagedAt image place))

-- causes that no image gives
abbrev pub IsFree : Cause → Type 0
IsFree cause.Blank = ⊥
IsFree cause.NotEmpty = ⊥
IsFree (cause.Damaged place) = ⊥
IsFree cause.Fault = Unit {0}
IsFree cause.NoMemory = Unit {0}

-- this length and these sixteen bytes are the image's, as far as it goes
pub record IsHeaderOf (size : ℕ) (bytes image : List ℕ) : Type 0 where
  pub long : size ≡ length image
  pub front : take (min size 16) bytes ≡ take 16 image

-- a disk on which opening was refused
pub record IsRefusedOpening (old new : View) (reason : Cause) : Type 0 where
  pub now : new.now ≡ old.now
  pub fault : reason ≡ cause.Fault → Rose old.faults new.faults
  pub names : IsFree reason ⊎ ((reason ≡ cause.Blank) ⊎ (reason ≡ cause.Damaged 2))
  pub exact : (image : List ℕ) → old.now ≡ Some image → IsFree reason ⊎ (refusal_of image ≡ Some reason)

-- a journal of which no frame was read yet
pub record IsOpened (old new : View) (gate end : ℕ) (ended : Bool) : Type 0 where
  pub now : new.now ≡ old.now
  pub durable : IsDurable new
  pub fresh : ended ≡ false
  pub exact : (image : List ℕ) → old.now ≡ Some image → refusal_of image ≡ None
  pub begins : (image : List ℕ) → old.now ≡ Some image → Begins image [] gate
  pub last : (image : List ℕ) → old.now ≡ Some image → end ≡ start image + area_size

-- an answer of `next` is what lies at the gate, or a cause that no image gives
abbrev pub IsFound : Result (Option (List ℕ)) Cause → Result (Option (List ℕ)) Cause → Type 0
IsFound found (Ok body) = found ≡ Ok body
IsFound found (Err reason) = IsFree reason ⊎ (found ≡ Err reason)

-- the window of a reader holds so many bytes of the image, from this place on
pub record IsWindow (v : View) (size from held : ℕ) (buffer : List ℕ) : Type 0 where
  pub small : held ≤ 4096
  pub within : from + held ≤ size
  pub long : (image : List ℕ) → v.now ≡ Some image → size ≡ length image
  pub same : (image : List ℕ) → v.now ≡ Some image → take held buffer ≡ take held (drop from image)

-- the frames up to this gate were read, and whether the list ends there
pub record IsReadTo (image : List ℕ) (gate end : ℕ) (ended : Bool) : Type 0 where
  pub bodies : List (List ℕ)
  pub begins : Begins image bodies gate
  pub last : end ≡ start image + area_size
  pub closed : ended ≡ true → (is_open image gate ≡ false) × (0 < length bodies)

-- every Opened
pub record IsOpen (v : View) (size gate end : ℕ) (ended : Bool) : Type 0 where
  pub durable : IsDurable v
  pub within : end ≤ disk_size
  pub first : end ≤ gate + area_size
  pub room : gate < end
  pub long : (image : List ℕ) → v.now ≡ Some image → size ≡ length image
  pub journal : (image : List ℕ) → v.now ≡ Some image → IsReadTo image gate end ended

-- a disk, the length of its file, and what its window holds
pub record Window (D : Type 0) : Type 0 where
  pub disk : D
  pub size : ℕ
  pub from : ℕ
  pub held : ℕ

-- the file stays as it was
pub record KeepsFile {D T : Type 0} (told : D → View) (old new : Window D) (result : Result T DiskErr) : Type 0 where
  pub size : new.size ≡ old.size
  pub still : IsStill (told old.disk) (told new.disk)
  pub cause : HasFaults (told old.disk) (told new.disk) result
