-- A disk in memory, as the list of what was done to it (this project's profile).
use Rattle.std.specs.Prelude.{Result, OnOk, OnErr, IsOk, ℕ, zero, suc, ◌+◌, ◌*◌, ◌/◌, ◌%◌, ◌^◌, ◌<◌, ◌≤◌, ◌≡◌, if◌then◌else◌, Bool, false, ◌&&◌, ◌||◌, nat_lt, nat_le, List, [], ◌∷◌, ◌++◌, length, get_or, take, Some, None}
use Rattle.x_disk.specs.Disk.{View, overwrite}

pub data Step : Type 0 where
  Write : ℕ → List ℕ → Step  -- these bytes at this place
  Sync : Step
  PowerOff : ℕ → Step  -- with this choice

-- the room that was reserved, and all steps, the earliest first
pub record History : Type 0 where
  pub room : ℕ
  pub steps : List Step

abbrev pub and_then : History → Step → History
and_then h x = record { room = h.room; steps = h.steps ++ x ∷ [] }

-- a step is added, or nothing changes
pub record IsAdded {E : Type 0} (x : Step) (old new : History) (result : Result Unit E) : Type 0 where
  pub ok : OnOk result (new ≡ and_then old x)
  pub err : OnErr result (new ≡ old)

pub record State : Type 0 where
  pub now : List ℕ  -- the bytes that a read gives
  pub stable : List ℕ  -- the image of the last sync or power-off
  pub pending : List (ℕ × ℕ)  -- the ranges written since: a place and a length each

abbrev pub covers_place : List (ℕ × ℕ) → ℕ → Bool
covers_place [] p = false
covers_place (r ∷ ranges) p = (nat_le r.0 p && nat_lt p (r.0 + r.1)) || covers_place ranges p

-- An image that a crash may leave: of a length up to the present one, and the same at each place that is neither written
-- since the last sync nor past the length then.
pub record IsImage (s : State) (image : List ℕ) : Type 0 where
  pub no_shorter : length s.stable ≤ length image
  pub no_longer : length image ≤ length s.now
  pub kept : (p : ℕ) → p < length s.stable → covers_place s.pending p ≡ false → get_or image p 0 ≡ get_or s.stable p 0

-- the low byte of p * choice + (choice >> 8), which wraps in 64 bits
abbrev pub torn_byte : ℕ → ℕ → ℕ
torn_byte choice p = (p * choice % 2 ^ 64 + choice / 256) % 2 ^ 64 % 256

-- the byte that the place holds after the power-off
abbrev pub torn_or : ℕ → List (ℕ × ℕ) → ℕ → ℕ → ℕ → ℕ
torn_or choice ranges stable p old = if covers_place ranges p || nat_le stable p then torn_byte choice p else old

-- the bytes from this place on, each pending one torn
abbrev pub torn_from : ℕ → List (ℕ × ℕ) → ℕ → ℕ → List ℕ → List ℕ
torn_from choice ranges stable p [] = []
torn_from choice ranges stable p (x ∷ xs) = torn_or choice ranges stable p x ∷ torn_from choice ranges stable (suc p) xs

-- what a power-off leaves: with 0 the image of the last sync, with 1 what a read gives
abbrev pub left_by : ℕ → State → List ℕ
left_by zero s = s.stable
left_by (suc zero) s = s.now
left_by (suc (suc n)) s = torn_from (suc (suc n)) s.pending (length s.stable) 0 s.now

abbrev pub after_step : Step → State → State
after_step (Write at bytes) s = record { now = overwrite at bytes s.now; stable = s.stable; pending = s.pending ++ (at, length bytes) ∷ [] }
after_step Sync s = record { now = s.now; stable = s.now; pending = [] }
after_step (PowerOff choice) s = record { now = left_by choice s; stable = left_by choice s; pending = [] }

abbrev pub replay : List Step → State → State
replay [] s = s
replay (x ∷ xs) s = replay xs (after_step x s)

abbrev pub state_of : List Step → State
state_of steps = replay steps (record { now = []; stable = []; pending = [] })

abbrev pub bytes_of : Step → ℕ
bytes_of (Write at bytes) = length bytes
bytes_of Sync = 0
bytes_of (PowerOff choice) = 0

-- the bytes of all writes
abbrev pub all_bytes : List Step → ℕ
all_bytes [] = 0
all_bytes (x ∷ xs) = bytes_of x + all_bytes xs

-- the memory that was reserved serves for this much more
pub record IsReserved (h : History) (end bytes calls : ℕ) : Type 0 where
  pub reaches : end ≤ h.room
  pub holds : length (state_of h.steps).now ≤ h.room
  pub records : bytes + all_bytes h.steps ≤ h.room
  pub counts : calls + length h.steps ≤ h.room / 16

-- a write is added, and is where memory was reserved for it
pub record IsWriteAdded {E : Type 0} (at : ℕ) (bytes : List ℕ) (old new : History) (result : Result Unit E) : Type 0 where
  pub added : IsAdded (Write at bytes) old new result
  pub covered : (end n calls : ℕ) → IsReserved old end n (suc calls) → at + length bytes ≤ end → length bytes ≤ n → IsOk result

-- the same of a sync
pub record IsSyncAdded {E : Type 0} (old new : History) (result : Result Unit E) : Type 0 where
  pub added : IsAdded Sync old new result
  pub covered : (end n calls : ℕ) → IsReserved old end n (suc calls) → IsOk result

-- what the disk tells
abbrev pub view_of : History → View
view_of h = record {
  now = Some (state_of h.steps).now;
  stable = Some (state_of h.steps).stable;
  may_leave = λ c. IsImage (state_of h.steps) c;
  moment = length h.steps;
  left_since = λ t c. (k : ℕ) × (t ≤ k) × (k ≤ length h.steps) × IsImage (state_of (take k h.steps)) c;
  faults = 0;
  covers = λ end bytes calls. IsReserved h end bytes calls;
  calls_left = None;
}
