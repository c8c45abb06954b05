use Rattle.change_code.proofs.Changes.{put_one}
use Rattle.change_code.proofs.encoding.put_edits.Goals as goal

pub loop-i-preserved : goal.loop-i-preserved
loop-i-preserved c = put_one c.loop-i.out _ c.args.out.now c.args.change.now c.loop-i.i c.in-Some.edit.now (cc c.in-Some.ensures) c.in_ok-put_edit-in-Some.ensures c.loop-i.invariant
