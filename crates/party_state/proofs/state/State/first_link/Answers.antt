use Rattle.party_tables.specs.Ranges.{IsLink}
use Rattle.party_state.specs.State.{is_usable}
use Rattle.party_tables.proofs.Rows.{find_row_of, if_copied}
use Rattle.party_state.proofs.state.State.first_link.Goals as goal

pub returns-clause-in_range : goal.returns-clause-in_range
returns-clause-in_range c = if_copied IsLink c.first_usable.result _ c.first_usable.ensures (find_row_of IsLink (is_usable c.args.peer.now c.args.side) _ c.law_rows.ensures.rows)
