use Rattle.std.proofs.Common.{◌≡◌, ◌++◌, ℕ, List, take}
use Rattle.member.specs.Member.{Member}
use Rattle.course.specs.Transcript.{show_lines}
use Rattle.audit_check.specs.Compared.{compared}
use Rattle.audit_check.specs.States.{HoldsMembers}
use Rattle.audit_check.proofs.ending.compare_shows.Given as goal

abbrev pub invariant-showing : goal.invariant-showing
invariant-showing l = (members : List Member) (made given : List ℕ) → HoldsMembers l.parties members → l.fn.comparison ≡ compared made given → l.comparison ≡ compared (made ++ show_lines (take l.place members)) given
