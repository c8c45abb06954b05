use Rattle.std.proofs.Common.{◌∙◌, subst, IfSome}
use Rattle.party_tables.proofs.Entries.{find_lookup}
use Rattle.party_tables.proofs.Rows.{each_found, if_copied}
use Rattle.party_tables.proofs.table.Table.find.Goals as goal

pub returns-in-Some-clause-row : goal.returns-in-Some-clause-row
returns-in-Some-clause-row g c = subst (λ o. IfSome o g.R.Row.IsRow) (rw (← c.self.view_is) at c.in-Some.ensures)
    (each_found g.R.Row.row_key g.K.PartialEq.eq g.R.Row.IsRow c.args.key.now _ c.self.invariant.rows)

pub returns-in-None-clause-found : goal.returns-in-None-clause-found
returns-in-None-clause-found g c = rw (← c.self.view_is) (c.get.ensures.value ∙ find_lookup g.R.Row.row_key g.K.PartialEq.eq g.met.K.Eq.laws c.args.key.now c.self.inside.map.entries c.self.invariant.keyed)

pub returns-in-None-clause-row : goal.returns-in-None-clause-row
returns-in-None-clause-row g c = if_copied g.R.Row.IsRow c.get.result _
    (c.get.ensures.value ∙ find_lookup g.R.Row.row_key g.K.PartialEq.eq g.met.K.Eq.laws c.args.key.now c.self.inside.map.entries c.self.invariant.keyed)
    (each_found g.R.Row.row_key g.K.PartialEq.eq g.R.Row.IsRow c.args.key.now _ c.self.invariant.rows)
