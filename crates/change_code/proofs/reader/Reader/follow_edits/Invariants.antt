use Rattle.change_code.specs.Following.{AreEditsDone}
use Rattle.change_code.proofs.reader.Reader.follow_edits.Given as goal

abbrev pub invariant-following : goal.invariant-following
invariant-following l = AreEditsDone l.counter l.initial.self l.self l.initial.state l.state
