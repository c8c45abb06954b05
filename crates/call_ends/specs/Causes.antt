-- With which statuses nothing is written, and what a fault says (this project's profile).
use Rattle.std.specs.Prelude.{◌≡◌, ℕ}
use Rattle.x_base.specs.Edge.{Rose}
use Rattle.call_ends.specs.declared.status.Status.{Status}
use Rattle.call_ends.specs.declared.status.Status.TheVariants as status

-- with these statuses nothing is written
abbrev pub IsSilent : Status → Type 0
IsSilent status.Done = ⊥
IsSilent (status.Refused refusal) = ⊥
IsSilent status.WriteFault = ⊥
IsSilent s = Unit {0}

-- a fault comes only where a count of faults rose. The counts are those of the source, the sink and the shelf, before and
-- after
pub record HasFaults (s : Status) (read reads put puts disk disks : ℕ) : Type 0 where
  pub read_fault : s ≡ status.ReadFault → Rose read reads
  pub write_fault : s ≡ status.WriteFault → Rose put puts
  pub disk_fault : s ≡ status.DiskFault → Rose disk disks

-- a fault has its cause: over every source, sink and shelf a count of faults rose. The counts are those of the source, the
-- sink and the shelf, before and after
abbrev pub HasCause : Status → ℕ → ℕ → ℕ → ℕ → ℕ → ℕ → Type 0
HasCause status.ReadFault read reads put puts disk disks = Rose read reads
HasCause status.WriteFault read reads put puts disk disks = Rose put puts
HasCause status.DiskFault read reads put puts disk disks = Rose disk disks
HasCause (status.Usage kind) read reads put puts disk disks = ⊥
HasCause s read reads put puts disk disks = Unit {0}
