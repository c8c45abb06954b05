use Rattle.std.proofs.Common.{◌≡◌, ◌++◌, map, take}
use Rattle.std.specs.List.{concat}
use Rattle.party_show.specs.Show.{exchange_line}
use Rattle.party_show.proofs.show.push_exchanges.Given as goal

-- the lines of the exchanges gone over are appended
abbrev pub invariant-loop-i : goal.invariant-loop-i
invariant-loop-i l = l.out ≡ l.initial.out ++ concat (map exchange_line (take l.i l.state.exchanges))
