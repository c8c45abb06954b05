use Rattle.std.proofs.Common.{◌≤◌, ◌-◌, length}
use Rattle.call_ends.specs.Transfer.{Took}
use Rattle.call_ends.proofs.transfer.gather.Given as goal

abbrev pub invariant-taking : goal.invariant-taking
invariant-taking g l = record {
  bound : length l.text ≤ l.limit;
  took : Took (g.S.Source.left l.initial.source) (g.S.Source.left l.source) l.text;
  climbs : g.S.Source.faults l.initial.source ≤ g.S.Source.faults l.source;
}

abbrev pub decreases-taking : goal.decreases-taking
decreases-taking g l = l.limit - length l.text
