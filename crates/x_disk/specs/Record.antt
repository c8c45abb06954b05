-- How a disk in memory keeps its record.
use Rattle.std.specs.Prelude.{◌≡◌, ℕ, ◌+◌, ◌-◌, ◌/◌, ◌≤◌, List, [], ◌∷◌, length, take, drop, Result, IsOk}
use Rattle.x_disk.specs.Disk.{overwrite}
use Rattle.x_disk.specs.History.{Step, Write, Sync, PowerOff, state_of}
use Rattle.x_disk.specs.declared.disk_record.Entry.{Entry}
use Rattle.x_disk.specs.declared.disk_record.Entry.TheVariants as E

-- the steps of these entries, the bytes of whose writes lie one after the other
abbrev pub steps_of : List Entry → List ℕ → List Step
steps_of [] bytes = []
steps_of (E.Write at len ∷ entries) bytes = Write at (take len bytes) ∷ steps_of entries (drop len bytes)
steps_of (E.Sync ∷ entries) bytes = Sync ∷ steps_of entries bytes
steps_of (E.PowerOff choice ∷ entries) bytes = PowerOff choice ∷ steps_of entries bytes

abbrev pub lengths : List Entry → ℕ
lengths [] = 0
lengths (E.Write at len ∷ entries) = len + lengths entries
lengths (E.Sync ∷ entries) = lengths entries
lengths (E.PowerOff choice ∷ entries) = lengths entries

abbrev pub ranges_of : List Entry → List (ℕ × ℕ)
ranges_of [] = []
ranges_of (E.Write at len ∷ entries) = (at, len) ∷ ranges_of entries
ranges_of (E.Sync ∷ entries) = ranges_of entries
ranges_of (E.PowerOff choice ∷ entries) = ranges_of entries

-- an image over which these entries wrote
abbrev pub written : List Entry → List ℕ → List ℕ → List ℕ
written [] bytes image = image
written (E.Write at len ∷ entries) bytes image = written entries (drop len bytes) (overwrite at (take len bytes) image)
written (E.Sync ∷ entries) bytes image = written entries bytes image
written (E.PowerOff choice ∷ entries) bytes image = written entries bytes image

-- an image that the entries behind the first so many, and the bytes of the payload behind the first so many, make what a
-- read gives
pub record IsMadeUpTo (image : List ℕ) (entries : List Entry) (payload : List ℕ) (count bytes : ℕ) : Type 0 where
  pub entries_in : count ≤ length entries
  pub bytes_in : bytes ≤ length payload
  pub rest : lengths (drop count entries) ≡ length (drop bytes payload)
  pub now_made : written (drop count entries) (drop bytes payload) image ≡ (state_of (steps_of entries payload)).now

-- The record stands for the history: `first` is the first entry after the last sync or power-off, and `base` what the last
-- power-off left, behind so many entries and bytes of the payload.
pub record Represents (entries : List Entry) (payload : List ℕ) (first : ℕ) (base : List ℕ) (base_entries base_bytes : ℕ) : Type 0 where
  pub size : lengths entries ≡ length payload
  pub within : first ≤ length entries
  pub pending_is : ranges_of (drop first entries) ≡ (state_of (steps_of entries payload)).pending
  pub base_in : base_entries ≤ first
  pub made : IsMadeUpTo base entries payload base_entries base_bytes
  pub stable_made : written (take (first - base_entries) (drop base_entries entries)) (drop base_bytes payload) base ≡ (state_of (steps_of entries payload)).stable

-- an image to which the first so many entries were applied; with the rest it is what a read gives, of this length
pub record IsApplied (image : List ℕ) (entries : List Entry) (payload : List ℕ) (applied_entries applied_bytes end : ℕ) : Type 0 where
  pub made : IsMadeUpTo image entries payload applied_entries applied_bytes
  pub end_is : end ≡ length (state_of (steps_of entries payload)).now

-- the memory that was reserved
pub record HasRoom (room end bytes payload entries : ℕ) : Type 0 where
  pub for_bytes : room ≤ bytes
  pub for_end : end ≤ bytes
  pub for_payload : room ≤ payload
  pub for_entries : room / 16 ≤ entries

-- memory for so much suffices, and is never given back
pub record Grows {E : Type 0} (need before after : ℕ) (result : Result Unit E) : Type 0 where
  pub capacity : before ≤ after
  pub succeeds : need ≤ before → IsOk result
