use Rattle.std.proofs.Common.{sym}
use Rattle.party_tables.proofs.Rows.{entry_at}
use Rattle.party_tables.proofs.table.Table.at.Goals as goal

pub returns-clause-row : goal.returns-clause-row
returns-clause-row g c = entry_at g.R.Row.IsRow c.self.inside.map.entries c.args.i c.in_ok-row.field-0-0.now c.in_ok-row.row.now (sym c.in_ok-row.ensures.entry) c.self.invariant.rows
