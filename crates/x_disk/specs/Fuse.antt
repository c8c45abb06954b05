-- What a fuse adds to what its disk tells (this project's profile).
use Rattle.std.specs.Prelude.{List, length, ◌≡◌, ℕ, zero, suc, ◌+◌, ◌<◌, ◌≤◌, ◌^◌, Bool, true, false, Option, Some, None, Result, Err, OnOk, IsErr, IsErrOf}
use Rattle.std.proofs.Common.{arith}
use Rattle.x_base.specs.Edge.{Rose}
use Rattle.x_disk.specs.Disk.{View, IsSound, IsWritten, one_less}
use Rattle.x_disk.specs.Shelf.{IsAlike}
use Rattle.x_disk.specs.declared.disk.DiskErr.{DiskErr}
use Rattle.x_disk.specs.declared.disk.DiskErr.TheVariants.{Fault, NoMemory}
use Rattle.x_disk.specs.declared.fused.Fuse.{Fuse}
use Rattle.x_disk.specs.declared.fused.Fuse.TheVariants.{Passes, Blown}

-- a disk and its fuse
pub record WithFuse (D : Type 0) : Type 0 where
  pub disk : D
  pub fuse : Fuse

abbrev pub passes_of : Fuse → Option ℕ
passes_of (Passes n) = Some n
passes_of (Blown n) = None

-- how often the fuse itself has answered Fault
abbrev pub faults_of : Fuse → ℕ
faults_of (Passes n) = 0
faults_of (Blown n) = n + 1

-- the calls that are covered end where the fuse's own count does
abbrev pub with_fuse : Fuse → View → View
with_fuse fuse v = record {
  now = v.now;
  stable = v.stable;
  may_leave = v.may_leave;
  moment = v.moment;
  left_since = v.left_since;
  faults = v.faults + faults_of fuse;
  covers = λ end bytes calls. v.covers end bytes calls × (faults_of fuse + calls < 2 ^ 64);
  calls_left = passes_of fuse;
}

-- what a disk with a fuse tells
abbrev pub fused_view : {D : Type 0} → (D → View) → WithFuse D → View
fused_view told f = with_fuse f.fuse (told f.disk)

-- with a fuse the disk covers what it covered before, for as many calls as the fuse can count
abbrev pub StillCovers : View → View → Type 0
StillCovers old new = (end bytes calls : ℕ) → calls < 2 ^ 64 → old.covers end bytes calls → new.covers end bytes calls

-- a disk with a fuse for so many calls tells what it told without
pub record IsFusedView (calls : ℕ) (old new : View) : Type 0 where
  pub calls_left : new.calls_left ≡ Some calls
  pub disk : IsAlike new old
  pub faults : new.faults ≡ old.faults
  pub covers : StillCovers old new

-- what a counted call makes of the fuse; the count of faults ends at 2 ^ 64 of them
pub record IsCall (old new : Fuse) : Type 0 where
  pub calls_left : (n : ℕ) → old ≡ Passes (suc n) → new ≡ Passes n
  pub blows : old ≡ Passes 0 → new ≡ Blown 0
  pub counts : (n : ℕ) → old ≡ Blown n → n < 18446744073709551615 → new ≡ Blown (n + 1)

-- a call of length, read or sync: where the fuse answers, nothing is done
pub record IsFusedCall {D T : Type 0} (old new : WithFuse D) (result : Result T DiskErr) : Type 0 where
  pub fuse : IsCall old.fuse new.fuse
  pub blown : (n : ℕ) → old.fuse ≡ Blown n → IsErr result × (new.disk ≡ old.disk)
  pub last : old.fuse ≡ Passes 0 → IsErr result × (new.disk ≡ old.disk)

-- a write: where the fuse answers for the first time it is made, and pending, unless the disk fails or wants memory
pub record IsFusedWrite {D : Type 0} (told : D → View) (at : ℕ) (bytes : List ℕ) (old new : WithFuse D) (result : Result Unit DiskErr) : Type 0 where
  pub fuse : IsCall old.fuse new.fuse
  pub blown : (n : ℕ) → old.fuse ≡ Blown n → IsErr result × (new.disk ≡ old.disk)
  pub begun : old.fuse ≡ Passes 0 → (end n calls : ℕ) → (told old.disk).covers end n (suc calls) → at + length bytes ≤ end → length bytes ≤ n
      → (Rose (told old.disk).faults (told new.disk).faults → ⊥) → IsWritten at bytes (told old.disk) (told new.disk)

-- the next call is the one that fails
abbrev pub is_last : Fuse → Bool
is_last (Passes zero) = true
is_last (Passes (suc n)) = false
is_last (Blown n) = false

-- a counted call has failed
abbrev pub is_blown : Fuse → Bool
is_blown (Passes n) = false
is_blown (Blown n) = true

-- what a counted call is answered before the disk is asked
pub record IsBurnt (old new : Fuse) (result : Result Unit DiskErr) : Type 0 where
  pub call : IsCall old new
  pub calls_left : passes_of new ≡ one_less (passes_of old)
  pub unblown : OnOk result (faults_of old ≡ 0 × faults_of new ≡ 0)
  pub blows : old ≡ Passes 0 → result ≡ Err Fault
  pub fails : (n : ℕ) → old ≡ Blown n → IsErr result
  pub later : faults_of old ≤ faults_of new
  pub fault : IsErrOf result Fault → faults_of new ≡ faults_of old + 1
  pub no_memory : IsErrOf result NoMemory → (new ≡ old) × (2 ^ 64 ≤ faults_of old)

pub fused_sound : (fuse : Fuse) (v : View) → IsSound v → IsSound (with_fuse fuse v)
fused_sound fuse v sound = record {
  tells = sound.tells;
  now_among = sound.now_among;
  stable_among = sound.stable_among;
  counts_now = sound.counts_now;
  only_now = sound.only_now;
  covers_less = λ end bytes calls less fewer covers le few. (sound.covers_less end bytes calls less fewer covers.0 le few, omega (arith, covers.1, few));
}
