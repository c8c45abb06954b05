use Rattle.std.proofs.Common.{refl, arith}
use Rattle.party_tables.proofs.Alike.{same_rows}
use Rattle.party_tables.proofs.table.Table.same.Goals as goal

pub returns : goal.returns
returns g c = (
  (λ yes. same_rows c.args.self.now.0 c.args.other.now.0 c.loop-i.invariant.long (λ k lt. c.loop-i.invariant.same k (omega (arith, lt, c.loop-i-test.false, c.len-i-end.ensures)))),
  (λ same. refl),
)
