use Rattle.std.proofs.Common.{arith, sym, ◌∙◌}
use Rattle.party_show.specs.Show.{key_line}
use Rattle.party_show.proofs.Lines.{lines_more}
use Rattle.party_tables.proofs.Rows.{none_within}
use Rattle.party_show.proofs.show.push_keys.Goals as goal
use Rattle.party_show.proofs.show.push_keys.Goals.{in-Some+in_ok-push_key, in_default}

pub loop-i-preserved : goal.loop-i-preserved
loop-i-preserved c =
    elim c.match-key_at.branch [
      | in-Some+in_ok-push_key w ↦
          lines_more key_line c.args.state.now.keys c.loop-i.i w.in-Some.key.now c.args.out.now c.loop-i.out c.match-key_at.out (sym w.in-Some.ensures.found) c.loop-i.invariant (w.out-is ∙ w.in_ok-push_key.ensures)
      | in_default w ↦ absurd (none_within c.args.state.now.keys c.loop-i.i (omega (arith, c.key_count-i-end.ensures)) (sym w.in_default.ensures.found))
    ]
