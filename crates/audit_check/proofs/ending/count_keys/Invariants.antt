use Rattle.std.proofs.Common.{◌≡◌, List, take}
use Rattle.member.specs.Member.{Member}
use Rattle.course.specs.Tallies.{count_status, records_of}
use Rattle.audit_check.specs.States.{HoldsMembers}
use Rattle.audit_check.proofs.ending.count_keys.Given as goal

abbrev pub invariant-counting : goal.invariant-counting
invariant-counting l = (members : List Member) → HoldsMembers l.parties members → l.count ≡ count_status l.status (records_of (take l.place members))
