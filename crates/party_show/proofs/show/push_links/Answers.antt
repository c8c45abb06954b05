use Rattle.std.proofs.Common.{arith, sym, ◌∙◌}
use Rattle.party_show.specs.Show.{link_line}
use Rattle.party_show.proofs.Lines.{lines_more}
use Rattle.party_tables.proofs.Rows.{none_within}
use Rattle.party_show.proofs.show.push_links.Goals as goal
use Rattle.party_show.proofs.show.push_links.Goals.{in-Some+in_ok-push_link, in_default}

pub loop-i-preserved : goal.loop-i-preserved
loop-i-preserved c =
    elim c.match-link_at.branch [
      | in-Some+in_ok-push_link w ↦
          lines_more link_line c.args.state.now.links c.loop-i.i w.in-Some.link.now c.args.out.now c.loop-i.out c.match-link_at.out (sym w.in-Some.ensures.found) c.loop-i.invariant (w.out-is ∙ w.in_ok-push_link.ensures)
      | in_default w ↦ absurd (none_within c.args.state.now.links c.loop-i.i (omega (arith, c.link_count-i-end.ensures)) (sym w.in_default.ensures.found))
    ]
