use Rattle.std.proofs.Common.{◌≡◌, ◌≤◌, ◌+◌, ◌-◌, true, take, if◌then◌else◌}
use Rattle.call_ends.specs.Transfer.{IsAtEnd, Took}
use Rattle.call_ends.proofs.listening.listen.Given as goal

abbrev pub invariant-taking : goal.invariant-taking
invariant-taking g l = record {
  bound : l.count ≤ 2049;
  took : Took (g.S.Source.left l.initial.source) (g.S.Source.left l.source) (take l.count l.input);
  end : l.ended ≡ true → IsAtEnd (g.S.Source.left l.initial.source) (g.S.Source.left l.source);
  climbs : g.S.Source.faults l.initial.source ≤ g.S.Source.faults l.source;
}

abbrev pub decreases-taking : goal.decreases-taking
decreases-taking g l = (2049 - l.count) + (if l.ended then 0 else 1)
