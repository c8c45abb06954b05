use Rattle.party_state.specs.declared.edit.Edit.TheVariants.{PutAnswer}
use Rattle.change_code.proofs.OneChange.{row_more}
use Rattle.change_code.proofs.compaction.put_answers.Goals as goal

pub loop-i-preserved : goal.loop-i-preserved
loop-i-preserved c = row_more (λ x. PutAnswer x) c.args.state.now.answers c.loop-i.out _ c.args.out.now c.loop-i.i c.in-Some.answer.now (cc c.in-Some.ensures.found) c.in_ok-put_answer_edit-in-Some.ensures c.loop-i.invariant
