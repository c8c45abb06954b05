-- A disk's failure as a cause.
use Rattle.x_disk.specs.declared.disk.DiskErr.{DiskErr}
use Rattle.x_disk.specs.declared.disk.DiskErr.TheVariants as disk
use Rattle.key_journal.specs.declared.cause.Cause.{Cause}
use Rattle.key_journal.specs.declared.cause.Cause.TheVariants as cause

abbrev pub cause_of : DiskErr → Cause
cause_of disk.Fault = cause.Fault
cause_of disk.NoMemory = cause.NoMemory
