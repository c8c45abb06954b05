use Rattle.std.proofs.Common.{◌∙◌, ap}
use Rattle.std.specs.Map.{values_of}
use Rattle.party_tables.proofs.Entries.{table_drop, drop_remove}
use Rattle.party_tables.proofs.table.Table.remove.Goals as goal

pub invariant_of-self : goal.invariant_of-self
invariant_of-self g c = rw c.shift_remove.ensures.entries
    (table_drop g.R.Row.row_key g.K.PartialEq.eq g.R.Row.IsRow g.met.K.Eq.laws c.args.key.now c.self.inside.map.entries c.len-rows.ensures.unique c.self.invariant)

pub returns-clause-rows : goal.returns-clause-rows
returns-clause-rows g c = rw (← c.self.view_is) (ap (λ es. values_of es) c.shift_remove.ensures.entries
    ∙ drop_remove g.R.Row.row_key g.K.PartialEq.eq g.met.K.Eq.laws c.args.key.now c.self.inside.map.entries c.self.invariant.keyed c.len-rows.ensures.unique)
