use Rattle.std.proofs.lemmas.List.Elements.{All-from_recursion}
use Rattle.party_tables.proofs.Entries.{once}
use Rattle.party_tables.proofs.table.Table.law_rows.Goals as goal

pub returns-clause-once : goal.returns-clause-once
returns-clause-once g c = rw (← c.self.view_is) (once g.R.Row.row_key g.K.PartialEq.eq g.met.K.Eq.laws c.self.inside.map.entries c.self.invariant.keyed c.len-rows.ensures.unique)

pub returns-clause-rows : goal.returns-clause-rows
returns-clause-rows g c = rw (← c.self.view_is) (All-from_recursion _ _ c.self.invariant.rows)
