use Rattle.std.proofs.Common.{sym, subst}
use Rattle.party_tables.proofs.Rows.{none_within}
use Rattle.party_tables.proofs.Rows.{copied_next}
use Rattle.party_tables.proofs.table.Table.copy_row.Goals as goal

pub returns-in_ok-copied-in-Some : goal.returns-in_ok-copied-in-Some
returns-in_ok-copied-in-Some g c = copied_next g.R.Row.row_key g.K.PartialEq.eq g.met.K.Eq.laws c.put.result c.args.self.now.0 c.args.copy.now.0 c.put.new.self.0 c.args.i c.in-Some.row.now c.in_ok-copied-in-Some.field-0
    c.law_rows.ensures.once c.requires.before (sym c.in-Some.ensures.found) c.in_ok-copied-in-Some.ensures c.put.ensures.put

pub returns-in-None : goal.returns-in-None
returns-in-None g c = absurd (none_within c.args.self.now.0 c.args.i c.requires.within (sym c.in-None.ensures.found))

pub put-requires : goal.put-requires
put-requires g c = subst g.R.Row.IsRow (sym c.in_ok-copied-in-Some.ensures) c.in-Some.ensures.row
