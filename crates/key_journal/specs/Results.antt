-- The disk of an answer.
use Rattle.std.specs.Prelude.{Result, Ok, Err}
use Rattle.key_journal.specs.States.{Empty, Reading, Site, Pending, Failed}
use Rattle.key_journal.specs.declared.cause.Unmade.{Unmade}

abbrev pub empty_disk : {D : Type 0} → Result (Empty D) (Unmade D) → D
empty_disk (Ok s) = s.disk
empty_disk (Err u) = u.disk

abbrev pub opened_disk : {D : Type 0} → Result (Reading D) (Unmade D) → D
opened_disk (Ok s) = s.disk
opened_disk (Err u) = u.disk

abbrev pub staged_disk : {D : Type 0} → Result (Pending D) (Failed D) → D
staged_disk (Ok s) = s.disk
staged_disk (Err b) = b.disk

abbrev pub ready_disk : {D : Type 0} → Result (Site D) (Failed D) → D
ready_disk (Ok s) = s.disk
ready_disk (Err b) = b.disk
