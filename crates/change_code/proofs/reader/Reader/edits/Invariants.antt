use Rattle.change_code.specs.Reading.{StartsWith, edits_form}
use Rattle.change_code.proofs.reader.Reader.edits.Given as goal

abbrev pub invariant-reading : goal.invariant-reading
invariant-reading l = StartsWith (edits_form l.counter) l.initial.self l.self l.change
