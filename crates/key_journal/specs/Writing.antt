-- What a journal's calls do that write (this project's profile).
use Rattle.std.specs.Prelude.{◌≡◌, ◌⊎◌, ℕ, suc, ◌+◌, ◌-◌, ◌<◌, ◌≤◌, List, [], ◌∷◌, ◌++◌, length, Some, None, is_some, Result, IfOk, IfErr, OnOk, OnErr, IsErr, IsErrOf}
use Rattle.x_disk.specs.Disk.{View, IsDurable, IsWritten, Tells, LeavesOnly, one_less, overwrite}
use Rattle.x_disk.specs.declared.disk.DiskErr.{DiskErr}
use Rattle.x_disk.specs.declared.disk.DiskErr.TheVariants.{Fault, NoMemory}
use Rattle.key_journal.specs.Layout.{area_size, first_start, second_start}
use Rattle.key_journal.specs.Journal.{magic, frame_of, HoldsBodies, IsBody}
use Rattle.key_journal.specs.Results.{staged_disk, ready_disk}
use Rattle.key_journal.specs.States.{Empty, Site, Pending, Failed, HasBodies, HasStaged, HasRoom, HasFaults, FaultsRose, MayTear, HoldsOldOrNew, IsOldOrAlone, IsBlankOrFirst, other_start, selector_of}

-- these bytes are written and synced
pub record IsPut (at : ℕ) (bytes : List ℕ) (old new : View) (result : Result Unit DiskErr) : Type 0 where
  pub durable : OnOk result (IsDurable new)
  pub written : OnOk result (IsWritten at bytes old new)
  -- a crash at any moment leaves what it could leave before, with any bytes in the range
  pub any_moment : LeavesOnly old new (MayTear old at (length bytes))
  pub tells : is_some new.now ≡ is_some old.now
  -- the image at the last sync stays where the call fails
  pub stable : OnErr result (new.stable ≡ old.stable)
  pub cause : HasFaults old new result
  -- two calls are made
  pub calls_left : OnOk result (new.calls_left ≡ one_less (one_less old.calls_left))
  -- one or two are, where it fails
  pub left : OnErr result ((new.calls_left ≡ one_less old.calls_left) ⊎ (new.calls_left ≡ one_less (one_less old.calls_left)))
  -- it fails where one call passes at most
  pub blows : (old.calls_left ≡ Some 0) ⊎ (old.calls_left ≡ Some 1) → IsErr result
  -- where the sync was the call that failed, a read gives what was written
  pub pending : old.calls_left ≡ Some 1 → IsErrOf result Fault → new.calls_left ≡ None
      → IsWritten at bytes old new
  -- no memory is wanting that is reserved
  pub covered : (end n calls : ℕ) → old.covers end n (suc (suc calls)) → at + length bytes ≤ end → length bytes ≤ n
      → IsErrOf result NoMemory → ⊥
  -- what is reserved goes on
  pub covered_then : OnOk result ((end n calls : ℕ) → old.covers end n (suc (suc calls)) → at + length bytes ≤ end → length bytes ≤ n
      → new.covers end (n - length bytes) calls)

-- an open gate and this frame are written from this place on, and synced
pub record IsLaidAlone (start : ℕ) (frame : List ℕ) (old new : View) (result : Result Unit DiskErr) : Type 0 where
  pub durable : OnOk result (IsDurable new)
  pub written : OnOk result ((b : List ℕ) → old.now ≡ Some b → new.now ≡ Some (overwrite (start + 1) frame (overwrite start (1 ∷ []) b)))
  -- a crash at any moment leaves what it could leave before, with any bytes in the range
  pub any_moment : LeavesOnly old new (MayTear old start (1 + length frame))
  pub tells : is_some new.now ≡ is_some old.now
  pub cause : HasFaults old new result
  -- three calls are made
  pub calls_left : OnOk result (new.calls_left ≡ one_less (one_less (one_less old.calls_left)))
  -- it fails where two calls pass at most
  pub blows : (k : ℕ) → old.calls_left ≡ Some k → k < 3 → IsErr result
  -- no memory is wanting that is reserved
  pub covered : (end n calls : ℕ) → old.covers end n (suc (suc (suc calls))) → start + 1 + length frame ≤ end → 1 + length frame ≤ n
      → IsErrOf result NoMemory → ⊥
  -- what is reserved goes on
  pub covered_then : OnOk result ((end n calls : ℕ) → old.covers end n (suc (suc (suc calls))) → start + 1 + length frame ≤ end → 1 + length frame ≤ n
      → new.covers end (n - 1 - length frame) calls)
  -- the image at the last sync stays where the call fails
  pub stable : OnErr result (new.stable ≡ old.stable)

-- a frame is written behind the closed gate, where it doesn't count yet
pub record IsStaging {D : Type 0} (told : D → View) (old : Site D) (frame : List ℕ) (result : Result (Pending D) (Failed D)) : Type 0 where
  -- the bodies stand, and the frame lies behind them
  pub staged : IfOk result (λ s. (bodies : List (List ℕ)) (body : List ℕ) → HasBodies (told old.disk) bodies → IsBody body → frame ≡ frame_of body
      → HasStaged (told s.disk) bodies body)
  -- nothing else is written
  pub written : IfOk result (λ s. IsWritten (old.gate + 1) frame (told old.disk) (told s.disk))
  pub durable : IfOk result (λ s. IsDurable (told s.disk))
  -- a crash at any moment leaves the bodies that were there
  pub any_moment : (bodies : List (List ℕ)) → HasBodies (told old.disk) bodies
      → LeavesOnly (told old.disk) (told (staged_disk result)) (λ c. HoldsBodies c bodies)
  -- where the gates are
  pub place : IfOk result (λ s. (s.gate ≡ old.gate) × (s.next ≡ old.gate + length frame) × (s.end ≡ old.end))
  -- the image at the last sync stays where it fails
  pub stable : IfErr result (λ b. (told b.disk).stable ≡ (told old.disk).stable)
  pub cause : IfErr result (λ b. FaultsRose (told old.disk) (told b.disk) b.cause)
  pub faults : (told old.disk).faults ≤ (told (staged_disk result)).faults
  pub tells : is_some (told (staged_disk result)).now ≡ is_some (told old.disk).now
  -- two calls are made
  pub calls_left : IfOk result (λ s. (told s.disk).calls_left ≡ one_less (one_less (told old.disk).calls_left))
  -- one or two are, where it fails
  pub left : IfErr result (λ b. ((told b.disk).calls_left ≡ one_less (told old.disk).calls_left) ⊎ ((told b.disk).calls_left ≡ one_less (one_less (told old.disk).calls_left)))
  -- it fails where one call passes at most
  pub blows : ((told old.disk).calls_left ≡ Some 0) ⊎ ((told old.disk).calls_left ≡ Some 1) → IsErr result
  -- no memory is wanting that is reserved
  pub covered : IfErr result (λ b. (end n calls : ℕ) → (told old.disk).covers end n (suc (suc calls)) → old.gate + 1 + length frame ≤ end → length frame ≤ n → b.cause ≡ NoMemory → ⊥)
  -- what is reserved goes on
  pub covered_then : IfOk result (λ s. (end n calls : ℕ) → (told old.disk).covers end n (suc (suc calls)) → old.gate + 1 + length frame ≤ end → length frame ≤ n
      → (told s.disk).covers end (n - length frame) calls)

-- the other area is written with this frame alone, and selected
pub record IsSwitch {D : Type 0} (told : D → View) (old : Site D) (frame : List ℕ) (result : Result (Site D) (Failed D)) : Type 0 where
  -- its body is the only one
  pub switched : IfOk result (λ s. (body : List ℕ) → IsBody body → frame ≡ frame_of body → Tells (told old.disk) → HasBodies (told s.disk) (body ∷ []))
  -- an open gate, the frame and the selector are written, and nothing else
  pub written : IfOk result (λ s. (b : List ℕ) → (told old.disk).now ≡ Some b
      → (told s.disk).now ≡ Some (overwrite 1 (selector_of (other_start old.end) ∷ []) (overwrite (other_start old.end + 1) frame (overwrite (other_start old.end) (1 ∷ []) b))))
  pub room : IfOk result (λ s. HasRoom (told s.disk) s.gate s.end)
  -- where the gate and the end of the area are
  pub place : IfOk result (λ s. (s.gate ≡ other_start old.end + length frame) × (s.end ≡ other_start old.end + area_size))
  pub durable : IfOk result (λ s. IsDurable (told s.disk))
  -- a crash at any moment leaves the bodies that were there, or the new one alone
  pub any_moment : (bodies : List (List ℕ)) (body : List ℕ) → HasBodies (told old.disk) bodies → IsBody body → frame ≡ frame_of body
      → LeavesOnly (told old.disk) (told (ready_disk result)) (IsOldOrAlone bodies body)
  pub cause : IfErr result (λ b. FaultsRose (told old.disk) (told b.disk) b.cause)
  pub faults : (told old.disk).faults ≤ (told (ready_disk result)).faults
  pub tells : is_some (told (ready_disk result)).now ≡ is_some (told old.disk).now
  -- five calls are made
  pub calls_left : IfOk result (λ s. (told s.disk).calls_left ≡ one_less (one_less (one_less (one_less (one_less (told old.disk).calls_left)))))
  -- it fails where four calls pass at most
  pub blows : (k : ℕ) → (told old.disk).calls_left ≡ Some k → k < 5 → IsErr result
  -- no memory is wanting that is reserved
  pub covered : IfErr result (λ b. (end n calls : ℕ) → (told old.disk).covers end n (suc (suc (suc (suc (suc calls))))) → other_start old.end + 1 + length frame ≤ end → 2 + length frame ≤ n → b.cause ≡ NoMemory → ⊥)
  -- what is reserved goes on
  pub covered_then : IfOk result (λ s. (end n calls : ℕ) → (told old.disk).covers end n (suc (suc (suc (suc (suc calls))))) → other_start old.end + 1 + length frame ≤ end → 2 + length frame ≤ n
      → (told s.disk).covers end (n - 1 - length frame - 1) calls)
  -- where it fails, the image at the last sync stands for the bodies that were there
  pub stable : IfErr result (λ b. (bodies : List (List ℕ)) → HasBodies (told old.disk) bodies → (image : List ℕ) → (told b.disk).stable ≡ Some image → HoldsBodies image bodies)

-- the gate before a staged frame is opened
pub record IsCommit {D : Type 0} (told : D → View) (old : Pending D) (result : Result (Site D) (Failed D)) : Type 0 where
  pub room : IfOk result (λ s. HasRoom (told s.disk) s.gate s.end)
  -- the new body counts
  pub committed : IfOk result (λ s. (bodies : List (List ℕ)) (body : List ℕ) → HasStaged (told old.disk) bodies body → HasBodies (told s.disk) (bodies ++ body ∷ []))
  -- that gate alone is written
  pub written : IfOk result (λ s. IsWritten old.gate (1 ∷ []) (told old.disk) (told s.disk))
  pub durable : IfOk result (λ s. IsDurable (told s.disk))
  -- a crash at any moment leaves the bodies that were there, with the new one or without
  pub any_moment : (bodies : List (List ℕ)) (body : List ℕ) → HasStaged (told old.disk) bodies body
      → LeavesOnly (told old.disk) (told (ready_disk result)) (HoldsOldOrNew bodies body)
  -- where the gate and the end of the area are
  pub place : IfOk result (λ s. (s.gate ≡ old.next) × (s.end ≡ old.end))
  -- the image at the last sync stays where it fails
  pub stable : IfErr result (λ b. (told b.disk).stable ≡ (told old.disk).stable)
  pub cause : IfErr result (λ b. FaultsRose (told old.disk) (told b.disk) b.cause)
  pub faults : (told old.disk).faults ≤ (told (ready_disk result)).faults
  pub tells : is_some (told (ready_disk result)).now ≡ is_some (told old.disk).now
  -- two calls are made
  pub calls_left : IfOk result (λ s. (told s.disk).calls_left ≡ one_less (one_less (told old.disk).calls_left))
  -- it fails where one call passes at most
  pub blows : ((told old.disk).calls_left ≡ Some 0) ⊎ ((told old.disk).calls_left ≡ Some 1) → IsErr result
  -- where the sync was the call that failed, a read gives the bodies with the new one
  pub pending : IfErr result (λ b. (bodies : List (List ℕ)) (body : List ℕ) → HasStaged (told old.disk) bodies body
      → (told old.disk).calls_left ≡ Some 1 → b.cause ≡ Fault → (told b.disk).calls_left ≡ None → HasBodies (told b.disk) (bodies ++ body ∷ []))
  -- no memory is wanting that is reserved
  pub covered : IfErr result (λ b. (end n calls : ℕ) → (told old.disk).covers end n (suc (suc calls)) → old.gate + 1 ≤ end → 1 ≤ n → b.cause ≡ NoMemory → ⊥)
  -- what is reserved goes on
  pub covered_then : IfOk result (λ s. (end n calls : ℕ) → (told old.disk).covers end n (suc (suc calls)) → old.gate + 1 ≤ end → 1 ≤ n → (told s.disk).covers end (n - 1) calls)

-- a journal is made on a blank disk, with this frame alone
pub record IsFirstFrame {D : Type 0} (told : D → View) (old : Empty D) (frame : List ℕ) (result : Result (Site D) (Failed D)) : Type 0 where
  -- its body is the only one
  pub created : IfOk result (λ s. (body : List ℕ) → IsBody body → frame ≡ frame_of body → Tells (told old.disk)
      → HasBodies (told s.disk) (body ∷ []))
  -- the selector, the magic, an open gate, the frame and the file's gate are written, and nothing else
  pub written : IfOk result (λ s. (b : List ℕ) → (told old.disk).now ≡ Some b
      → (told s.disk).now ≡ Some (overwrite 0 (1 ∷ []) (overwrite 17 frame (overwrite 1 (0 ∷ magic ++ 1 ∷ []) b))))
  pub room : IfOk result (λ s. HasRoom (told s.disk) s.gate s.end)
  -- where the gate and the end of the area are
  pub place : IfOk result (λ s. (s.gate ≡ first_start + length frame) × (s.end ≡ second_start))
  pub durable : IfOk result (λ s. IsDurable (told s.disk))
  -- a crash at any moment leaves a blank image, or one that stands for the body
  pub any_moment : (body : List ℕ) → IsBody body → frame ≡ frame_of body → Tells (told old.disk)
      → LeavesOnly (told old.disk) (told (ready_disk result)) (IsBlankOrFirst body)
  pub cause : IfErr result (λ b. FaultsRose (told old.disk) (told b.disk) b.cause)
  pub faults : (told old.disk).faults ≤ (told (ready_disk result)).faults
  pub tells : is_some (told (ready_disk result)).now ≡ is_some (told old.disk).now
