use Rattle.std.proofs.Common.{sym, ap, ◌∙◌}
use Rattle.party_tables.proofs.Entries.{keyed_at, find_lookup, find_same}
use Rattle.party_tables.proofs.table.Table.last_with.Goals as goal

pub returns-then-eq : goal.returns-then-eq
returns-then-eq g c =
    let own = keyed_at g.R.Row.row_key g.K.PartialEq.eq g.met.K.Eq.laws c.self.inside.map.entries _ c.in_ok-row.field-0-0.now c.in_ok-row.row.now (sym c.in_ok-row.ensures.entry) c.self.invariant.keyed in
    rw (← c.self.view_is)
    (find_same g.R.Row.row_key g.K.PartialEq.eq g.met.K.Eq.laws c.row_key.result c.args.key.now _ (sym c.eq.ensures ∙ c.if-eq.true)
    ∙ find_same g.R.Row.row_key g.K.PartialEq.eq g.met.K.Eq.laws c.in_ok-row.field-0-0.now c.row_key.result _ (ap (g.K.PartialEq.eq c.in_ok-row.field-0-0.now) c.row_key.ensures ∙ own)
    ∙ sym (find_lookup g.R.Row.row_key g.K.PartialEq.eq g.met.K.Eq.laws c.in_ok-row.field-0-0.now c.self.inside.map.entries c.self.invariant.keyed)
    ∙ c.in_ok-row.ensures.value)
