use Rattle.std.proofs.Common.{take}
use Rattle.std.specs.List.{All}
use Rattle.audit_check.specs.Audits.{IsLetter}
use Rattle.audit_check.proofs.input.are_letters.Given as goal

abbrev pub invariant-loop-letter : goal.invariant-loop-letter
invariant-loop-letter l = All IsLetter (take l.letter-index l.word)
