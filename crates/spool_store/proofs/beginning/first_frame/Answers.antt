use Rattle.spool_store.proofs.First.{framed}
use Rattle.spool_store.proofs.beginning.first_frame.Goals as goal

pub returns-clause-frame : goal.returns-clause-frame
returns-clause-frame c =
    framed c.args.batch.now.0 c.args.batch.now.1 c.bytes.result.now c.in_ok-frame.frame c.close_frame.new.text c.in_ok-contents.contents c.bytes.ensures.batch c.bytes.ensures.sized
    c.bytes.ensures.bytes c.in_ok-frame.ensures c.in_ok-close_frame.ensures.text c.in_ok-contents.ensures
