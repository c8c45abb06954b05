-- The disk of an answer.
use Rattle.std.specs.Prelude.{Result, Ok, Err}
use Rattle.key_journal.specs.States.{Failed}
use Rattle.key_journal.specs.declared.cause.Unmade.{Unmade}
use Rattle.journal_state.specs.States.{Stood}

abbrev pub loaded_disk : {D S : Type 0} → Result (Stood D S) (Unmade D) → D
loaded_disk (Ok s) = s.disk
loaded_disk (Err u) = u.disk

abbrev pub kept_disk : {D S : Type 0} → Result (Stood D S) (Failed D) → D
kept_disk (Ok s) = s.disk
kept_disk (Err b) = b.disk
