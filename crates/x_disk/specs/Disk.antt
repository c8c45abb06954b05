-- What a disk tells, what its calls do to that, and what a crash may leave (this project's profile).
use Rattle.std.specs.Prelude.{◌<◌, ◌≡◌, ◌⊎◌, ℕ, zero, suc, ◌+◌, ◌-◌, ◌≤◌, max, List, ◌++◌, length, take, drop, replicate, true, Option, Some, None, is_some, Result, IsErrOf}
use Rattle.x_base.specs.Edge.{Rose}
use Rattle.x_disk.specs.declared.disk.DiskErr.{DiskErr}
use Rattle.x_disk.specs.declared.disk.DiskErr.TheVariants.{Fault, NoMemory}

-- All that a disk tells. A disk that tells nothing has no `now`, no `stable` and no image.
pub record View : Type 1 where
  pub now : Option (List ℕ)  -- the bytes that a read gives
  pub stable : Option (List ℕ)  -- the image at the last sync that answered Ok, or at a later power-off
  pub may_leave : List ℕ → Type 0  -- an image that a crash at this moment may leave
  pub moment : ℕ  -- a clock
  pub left_since : ℕ → List ℕ → Type 0  -- an image that a crash at some moment from that one on may have left
  pub faults : ℕ  -- how often the disk has failed
  pub covers : ℕ → ℕ → ℕ → Type 0  -- memory is reserved for writes that end at or below a place, of so many bytes in all, and for so many calls
  pub calls_left : Option ℕ  -- the calls that still pass before one fails

-- a disk takes so many bytes
abbrev pub disk_size : ℕ
disk_size = 16777216

-- the disk tells its bytes
abbrev pub Tells : View → Type 0
Tells v = is_some v.now ≡ true

-- these bytes written at this place, a gap before it filled with zeros
abbrev pub overwrite : ℕ → List ℕ → List ℕ → List ℕ
overwrite at bytes old = take at (old ++ replicate (at - length old) 0) ++ bytes ++ drop (at + length bytes) old

-- after a write of n bytes that a crash cuts short: any bytes in the range and past the old end, the same elsewhere
pub record IsTornAt (at n : ℕ) (old new : List ℕ) : Type 0 where
  pub before : take at (take (length old) new) ≡ take at old
  pub after : drop (at + n) new ≡ drop (at + n) old
  pub no_shorter : length old ≤ length new
  pub no_longer : length new ≤ max (length old) (at + n)

-- each new image is an old one after a step
abbrev pub Follows : (List ℕ → List ℕ → Type 0) → View → View → Type 0
Follows step old new = (c : List ℕ) → new.may_leave c → (d : List ℕ) × old.may_leave d × step d c

-- each new image is an old one
abbrev pub LeavesNoMore : View → View → Type 0
LeavesNoMore old new = (c : List ℕ) → new.may_leave c → old.may_leave c

-- a crash leaves what a read gives, and nothing else
pub record IsDurable (v : View) : Type 0 where
  pub only : (b c : List ℕ) → v.now ≡ Some b → v.may_leave c → c ≡ b
  pub stable : v.stable ≡ v.now

-- what a read gives and the images are as before
pub record IsStill (old new : View) : Type 0 where
  pub now : new.now ≡ old.now
  pub stable : new.stable ≡ old.stable
  pub moment : new.moment ≡ old.moment
  pub images : (c : List ℕ) → new.may_leave c → old.may_leave c
  pub images_stay : (c : List ℕ) → old.may_leave c → new.may_leave c
  pub since : (t : ℕ) (c : List ℕ) → new.left_since t c → old.left_since t c
  pub since_stays : (t : ℕ) (c : List ℕ) → old.left_since t c → new.left_since t c

-- what a power-off that failed leaves as it was
pub record IsKept (old new : View) : Type 0 where
  pub now : new.now ≡ old.now
  pub stable : new.stable ≡ old.stable
  pub images : (c : List ℕ) → old.may_leave c → new.may_leave c

-- the memory that was reserved still is
abbrev pub KeepsCover : View → View → Type 0
KeepsCover old new = (end bytes calls : ℕ) → old.covers end bytes calls → new.covers end bytes calls

-- the clock went on
abbrev pub Ticks : View → View → Type 0
Ticks old new = Tells old → old.moment < new.moment

-- a crash since a moment may have left what it may have left before, or what it may leave now
pub record Elapses (old new : View) : Type 0 where
  pub later : old.moment ≤ new.moment
  pub nothing_else : (t : ℕ) (c : List ℕ) → t ≤ old.moment → new.left_since t c → old.left_since t c ⊎ new.may_leave c
  pub keeps : (t : ℕ) (c : List ℕ) → t ≤ old.moment → old.left_since t c → new.left_since t c

-- a crash at any moment from `old` to `new` leaves an image that has P
pub record LeavesOnly (old new : View) (P : List ℕ → Type 0) : Type 0 where
  pub later : old.moment ≤ new.moment
  pub each : (c : List ℕ) → new.left_since old.moment c → P c
  -- for a run that began earlier
  pub before : (t : ℕ) (c : List ℕ) → t ≤ old.moment → new.left_since t c → old.left_since t c ⊎ P c

-- nothing was written: what a read gives is as it was, and a crash at any moment leaves what it could leave before
pub record IsUntouched (old new : View) : Type 0 where
  pub now : new.now ≡ old.now
  pub images : LeavesNoMore old new
  pub any_moment : LeavesOnly old new old.may_leave

-- `Fault` comes only where the disk's faults rose, and a want of memory leaves all as it was
pub record HasCause {T : Type 0} (old new : View) (result : Result T DiskErr) : Type 0 where
  pub later : old.faults ≤ new.faults
  pub fault : IsErrOf result Fault → Rose old.faults new.faults
  pub no_memory : IsErrOf result NoMemory → IsStill old new × (new.faults ≡ old.faults) × KeepsCover old new

-- a call that passes is one less; where none is left, the call fails and the number isn't told any more
abbrev pub one_less : Option ℕ → Option ℕ
one_less None = None
one_less (Some zero) = None
one_less (Some (suc k)) = Some k

pub record IsCounted {T : Type 0} (old new : View) (result : Result T DiskErr) : Type 0 where
  pub calls_left : new.calls_left ≡ one_less old.calls_left
  pub blows : old.calls_left ≡ Some 0 → IsErrOf result Fault

-- a write of n bytes that ends at this place takes no memory that isn't reserved
pub record IsCovered (place n : ℕ) (old new : View) (result : Result Unit DiskErr) : Type 0 where
  pub answers : (end bytes calls : ℕ) → old.covers end bytes (suc calls) → place ≤ end → n ≤ bytes → IsErrOf result NoMemory → ⊥
  pub left : (end bytes calls : ℕ) → old.covers end bytes (suc calls) → place ≤ end → n ≤ bytes → new.covers end (bytes - n) calls

-- a sync takes no memory that isn't reserved
pub record IsCoveredSync (old new : View) (result : Result Unit DiskErr) : Type 0 where
  pub answers : (end bytes calls : ℕ) → old.covers end bytes (suc calls) → IsErrOf result NoMemory → ⊥
  pub left : (end bytes calls : ℕ) → old.covers end bytes (suc calls) → new.covers end bytes calls

-- a write that is done
abbrev pub IsWritten : ℕ → List ℕ → View → View → Type 0
IsWritten at bytes old new = (b : List ℕ) → old.now ≡ Some b → new.now ≡ Some (overwrite at bytes b)

-- what holds of every disk
pub record IsSound (v : View) : Type 0 where
  pub tells : is_some v.stable ≡ is_some v.now
  pub now_among : (b : List ℕ) → v.now ≡ Some b → v.may_leave b
  pub stable_among : (b : List ℕ) → v.stable ≡ Some b → v.may_leave b
  pub counts_now : (t : ℕ) (c : List ℕ) → t ≤ v.moment → v.may_leave c → v.left_since t c
  pub only_now : (c : List ℕ) → v.left_since v.moment c → v.may_leave c
  pub covers_less : (end bytes calls less fewer : ℕ) → v.covers end bytes calls → less ≤ bytes → fewer ≤ calls → v.covers end less fewer
