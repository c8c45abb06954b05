use Rattle.std.proofs.Common.{arith, sym, ◌∙◌}
use Rattle.party_show.specs.Show.{exchange_line}
use Rattle.party_show.proofs.Lines.{lines_more}
use Rattle.party_tables.proofs.Rows.{none_within}
use Rattle.party_show.proofs.show.push_exchanges.Goals as goal
use Rattle.party_show.proofs.show.push_exchanges.Goals.{in-Some+in_ok-push_exchange, in_default}

pub loop-i-preserved : goal.loop-i-preserved
loop-i-preserved c =
    elim c.match-exchange_at.branch [
      | in-Some+in_ok-push_exchange w ↦
          lines_more exchange_line c.args.state.now.exchanges c.loop-i.i w.in-Some.exchange.now c.args.out.now c.loop-i.out c.match-exchange_at.out (sym w.in-Some.ensures.found) c.loop-i.invariant (w.out-is ∙ w.in_ok-push_exchange.ensures)
      | in_default w ↦ absurd (none_within c.args.state.now.exchanges c.loop-i.i (omega (arith, c.exchange_count-i-end.ensures)) (sym w.in_default.ensures.found))
    ]
