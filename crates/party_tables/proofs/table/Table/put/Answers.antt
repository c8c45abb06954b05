use Rattle.std.proofs.Common.{◌≡◌, ◌-◌, sym, ◌∙◌, ap}
use Rattle.std.specs.Map.{values_of}
use Rattle.indexmap.specs.IndexMap.{insert_entry, set_value_at, index_map_len}
use Rattle.party_tables.proofs.Entries.{once, set_insert, set_same, table_insert, put_insert}
use Rattle.party_tables.proofs.table.Table.put.Goals.{In_default, in_default-via-in-None-1, in_default-via-in-Some+else-eq}
use Rattle.party_tables.proofs.table.Table.put.Goals as goal

-- the last row is written over
over : (g : _) (c : goal.After-drop-last g) → set_value_at c.self.inside.map.entries (index_map_len c.self.inside.map - 1) c.args.row ≡ insert_entry g.K.PartialEq.eq c.self.inside.map.entries (g.R.Row.row_key c.args.row) c.args.row
over g c = set_insert g.R.Row.row_key g.K.PartialEq.eq g.met.K.Eq.laws c.args.row c.in-Some.last.now c.self.inside.map.entries _ c.self.invariant.keyed
    (once g.R.Row.row_key g.K.PartialEq.eq g.met.K.Eq.laws c.self.inside.map.entries c.self.invariant.keyed c.last_mut.ensures.unique)
    (sym c.in-Some.ensures.value)
    (sym (λ i. g.K.PartialEq.eq (c.row_key.ensures i) (c.row_key-key.ensures i)) ∙ sym c.eq.ensures ∙ c.if-eq.true)

pub invariant_of-self : goal.invariant_of-self
invariant_of-self g c = rw (over g c) (table_insert g.R.Row.row_key g.K.PartialEq.eq g.R.Row.IsRow g.met.K.Eq.laws c.args.row c.self.inside.map.entries c.requires c.self.invariant)

pub returns-clause-put : goal.returns-clause-put
returns-clause-put g c = rw (← c.self.view_is) (ap (λ es. values_of es) (over g c)
    ∙ put_insert g.R.Row.row_key g.K.PartialEq.eq g.met.K.Eq.laws c.args.row c.self.inside.map.entries c.self.invariant.keyed)

-- the last row, of another key, stays
same : (g : _) (c : In_default g) → c.in_default.self-inside.map.entries ≡ c.self.inside.map.entries
same g c = elim c.in_default.branch [
  | in_default-via-in-None-1 w ↦ ap (λ s. s.map.entries) w.self-inside-is
  | in_default-via-in-Some+else-eq w ↦ ap (λ s. s.map.entries) w.self-inside-is ∙ set_same c.self.inside.map.entries _ w.in-Some.last.now (sym w.in-Some.ensures.value)
]

inserted : (g : _) (c : goal.Joined-insert-2 g) → c.insert.new.self.entries ≡ insert_entry g.K.PartialEq.eq c.self.inside.map.entries (g.R.Row.row_key c.args.row) c.args.row
inserted g c = c.in-Ok.ensures.entries ∙ (λ i. insert_entry g.K.PartialEq.eq (same g (goal.at.invariant_of-self-in-Ok g c).In_default i) (c.row_key-key.ensures i) c.args.row)

pub invariant_of-self-in-Ok : goal.invariant_of-self-in-Ok
invariant_of-self-in-Ok g c = rw (inserted g c) (table_insert g.R.Row.row_key g.K.PartialEq.eq g.R.Row.IsRow g.met.K.Eq.laws c.args.row c.self.inside.map.entries c.requires c.self.invariant)

pub returns-in-Ok-clause-put : goal.returns-in-Ok-clause-put
returns-in-Ok-clause-put g c = rw (← c.self.view_is) (ap (λ es. values_of es) (inserted g c)
    ∙ put_insert g.R.Row.row_key g.K.PartialEq.eq g.met.K.Eq.laws c.args.row c.self.inside.map.entries c.self.invariant.keyed)

pub invariant_of-self-2 : goal.invariant_of-self-2
invariant_of-self-2 g c = rw (c.in-Err.ensures.err ∙ same g (goal.at.invariant_of-self-2 g c).In_default) c.self.invariant

pub returns-2-clause-kept : goal.returns-2-clause-kept
returns-2-clause-kept g c = rw (← c.self.view_is) (ap (λ es. values_of es) (c.in-Err.ensures.err ∙ same g (goal.at.returns-2-clause-kept g c).In_default))
