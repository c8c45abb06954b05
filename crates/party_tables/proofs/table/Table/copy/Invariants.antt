use Rattle.std.proofs.Common.{◌≡◌, take}
use Rattle.party_tables.proofs.table.Table.copy.Given as goal

abbrev pub invariant-loop-i : goal.invariant-loop-i
invariant-loop-i g l = l.copy.0 ≡ take l.i l.self.0
