use Rattle.std.proofs.Common.{arith, sym, ◌∙◌}
use Rattle.party_show.specs.Show.{answer_line}
use Rattle.party_show.proofs.Lines.{lines_more}
use Rattle.party_tables.proofs.Rows.{none_within}
use Rattle.party_show.proofs.show.push_answers.Goals as goal
use Rattle.party_show.proofs.show.push_answers.Goals.{in-Some+in_ok-push_answer, in_default}

pub loop-i-preserved : goal.loop-i-preserved
loop-i-preserved c =
    elim c.match-answer_at.branch [
      | in-Some+in_ok-push_answer w ↦
          lines_more answer_line c.args.state.now.answers c.loop-i.i w.in-Some.answer.now c.args.out.now c.loop-i.out c.match-answer_at.out (sym w.in-Some.ensures.found) c.loop-i.invariant (w.out-is ∙ w.in_ok-push_answer.ensures)
      | in_default w ↦ absurd (none_within c.args.state.now.answers c.loop-i.i (omega (arith, c.answer_count-i-end.ensures)) (sym w.in_default.ensures.found))
    ]
