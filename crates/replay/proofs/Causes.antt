-- Why an answer of a play comes.
use Rattle.std.proofs.Common.{◌≡◌, ◌⊎◌, inl, inr, ℕ, ◌≤◌, List, Result, Ok, Err, refl}
use Rattle.x_base.specs.Edge.{Rose}
use Rattle.x_base.specs.declared.verdict.Verdict.{Verdict}
use Rattle.x_disk.specs.Disk.{View}
use Rattle.replay.specs.Finishing.{end_of, answer_of, set_up_answer}
use Rattle.replay.specs.SettingUp.{IsSetUpEnd}
use Rattle.replay.specs.Playing.{Surroundings, WereBlank, IsPlay, IsPlayOn}
use Rattle.open_parties.specs.declared.failure.Ending.{Ending}
use Rattle.open_parties.specs.declared.failure.Ending.TheVariants as ending
use Rattle.open_parties.specs.declared.failure.Failure.{Failure}
use Rattle.open_parties.specs.declared.failure.Failure.TheVariants as failure
use Rattle.replay.specs.declared.making.SetUpEnd.{SetUpEnd}
use Rattle.replay.specs.declared.making.SetUpEnd.TheVariants.{NotEmpty, Failed}
use Rattle.course.specs.declared.tally.Tally.{Tally}
use Rattle.replay.specs.declared.result.PlayResult.{PlayResult}
use Rattle.replay.specs.declared.result.PlayResult.TheVariants as played
use Rattle.open_parties.proofs.PuttingBack.{rose_on, rose_then}

pub never_refused : (outcome : Result Tally Ending) (v : Verdict) → answer_of outcome ≡ played.Refused v → ⊥
never_refused (Ok tally) v is = cc is
never_refused (Err (ending.Forged n)) v is = cc is
never_refused (Err ending.Write) v is = cc is
never_refused (Err (ending.Failed failure.Fault)) v is = cc is
never_refused (Err (ending.Failed failure.NoMemory)) v is = cc is
never_refused (Err (ending.Failed (failure.Damaged place))) v is = cc is

pub write_fault_by : (outcome : Result Tally Ending) (put : Result Unit Failure) → answer_of (end_of outcome put) ≡ played.WriteFault → outcome ≡ Err ending.Write
write_fault_by (Ok tally) (Ok done) is = absurd (cc is)
write_fault_by (Ok tally) (Err failure.Fault) is = absurd (cc is)
write_fault_by (Ok tally) (Err failure.NoMemory) is = absurd (cc is)
write_fault_by (Ok tally) (Err (failure.Damaged place)) is = absurd (cc is)
write_fault_by (Err (ending.Forged n)) (Ok done) is = absurd (cc is)
write_fault_by (Err (ending.Forged n)) (Err failure.Fault) is = absurd (cc is)
write_fault_by (Err (ending.Forged n)) (Err failure.NoMemory) is = absurd (cc is)
write_fault_by (Err (ending.Forged n)) (Err (failure.Damaged place)) is = absurd (cc is)
write_fault_by (Err ending.Write) put is = refl
write_fault_by (Err (ending.Failed failure.Fault)) put is = absurd (cc is)
write_fault_by (Err (ending.Failed failure.NoMemory)) put is = absurd (cc is)
write_fault_by (Err (ending.Failed (failure.Damaged place))) put is = absurd (cc is)

disk_fault_by : (outcome : Result Tally Ending) (put : Result Unit Failure) → answer_of (end_of outcome put) ≡ played.DiskFault → (outcome ≡ Err (ending.Failed failure.Fault)) ⊎ (put ≡ Err failure.Fault)
disk_fault_by (Ok tally) (Ok done) is = absurd (cc is)
disk_fault_by (Ok tally) (Err failure.Fault) is = inr refl
disk_fault_by (Ok tally) (Err failure.NoMemory) is = absurd (cc is)
disk_fault_by (Ok tally) (Err (failure.Damaged place)) is = absurd (cc is)
disk_fault_by (Err (ending.Forged n)) (Ok done) is = absurd (cc is)
disk_fault_by (Err (ending.Forged n)) (Err failure.Fault) is = inr refl
disk_fault_by (Err (ending.Forged n)) (Err failure.NoMemory) is = absurd (cc is)
disk_fault_by (Err (ending.Forged n)) (Err (failure.Damaged place)) is = absurd (cc is)
disk_fault_by (Err ending.Write) put is = absurd (cc is)
disk_fault_by (Err (ending.Failed failure.Fault)) put is = inl refl
disk_fault_by (Err (ending.Failed failure.NoMemory)) put is = absurd (cc is)
disk_fault_by (Err (ending.Failed (failure.Damaged place))) put is = absurd (cc is)

-- the shelf's count of faults rose where the play failed, or where the disks were put back
pub disk_fault_rose : (low mid high : ℕ) (any : Type 0) (outcome : Result Tally Ending) (put : Result Unit Failure) → low ≤ mid → mid ≤ high → (outcome ≡ Err (ending.Failed failure.Fault) → Rose low mid ⊎ any) → (any → Rose mid high)
    → (put ≡ Err failure.Fault → Rose mid high) → answer_of (end_of outcome put) ≡ played.DiskFault → Rose low high
disk_fault_rose low mid high any outcome put le more first seen last is = by (disk_fault_by outcome put is)
  where
    either : Rose low mid ⊎ any → Rose low high
    either (inl rose) = rose_then low mid high more rose
    either (inr faulty) = rose_on low mid high le (seen faulty)

    by : (outcome ≡ Err (ending.Failed failure.Fault)) ⊎ (put ≡ Err failure.Fault) → Rose low high
    by (inl failed) = either (first failed)
    by (inr failed_disk) = rose_on low mid high le (last failed_disk)

-- ---- the set-up and the play behind it

pub behind_set_up : (old : List ℕ → View) (s : Surroundings) (result : PlayResult) → WereBlank old s → IsPlayOn s result → IsPlay old s result
behind_set_up old s (played.Done tally) blank on = (blank, on)
behind_set_up old s (played.Refused v) blank on = absurd on
behind_set_up old s (played.Forged n) blank on = (blank, on)
behind_set_up old s played.WriteFault blank on = (blank, on)
behind_set_up old s played.DiskFault blank on = inr (blank, on)
behind_set_up old s (played.Damaged place) blank on = absurd on
behind_set_up old s played.NoMemory blank on = inr (blank, on)

-- the parties aren't set up, and nothing was written
pub ended_in_set_up : (old : List ℕ → View) (s : Surroundings) (end : SetUpEnd) → IsSetUpEnd s.lines old s.entry end → s.written ≡ s.start → IsPlay old s (set_up_answer end)
ended_in_set_up old s NotEmpty ended out = record { ended = ended; out = out }
ended_in_set_up old s (Failed failure.Fault) ended out = inl (record { why = failure.Fault; ended = ended; out = out })
ended_in_set_up old s (Failed failure.NoMemory) ended out = inl (record { why = failure.NoMemory; ended = ended; out = out })
ended_in_set_up old s (Failed (failure.Damaged place)) ended out = absurd ended.failed_set_up.failing
