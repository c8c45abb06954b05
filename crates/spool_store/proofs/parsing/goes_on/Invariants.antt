use Rattle.std.proofs.Common.{take}
use Rattle.std.specs.List.{All}
use Rattle.party_state.specs.Ranges.{IsNoBegin}
use Rattle.spool_store.proofs.parsing.goes_on.Given as goal

abbrev pub invariant-loop-i : goal.invariant-loop-i
invariant-loop-i l = All IsNoBegin (take l.i l.change)
