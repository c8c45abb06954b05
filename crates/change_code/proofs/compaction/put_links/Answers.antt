use Rattle.party_state.specs.declared.edit.Edit.TheVariants.{PutLink}
use Rattle.change_code.proofs.OneChange.{row_more}
use Rattle.change_code.proofs.compaction.put_links.Goals as goal

pub loop-i-preserved : goal.loop-i-preserved
loop-i-preserved c = row_more (λ x. PutLink x) c.args.state.now.links c.loop-i.out _ c.args.out.now c.loop-i.i c.in-Some.link.now (cc c.in-Some.ensures.found) c.in_ok-put_link_edit-in-Some.ensures c.loop-i.invariant
