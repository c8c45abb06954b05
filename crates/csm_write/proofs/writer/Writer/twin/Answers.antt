use Rattle.csm_write.proofs.Adding.{adds_then}
use Rattle.csm_write.proofs.writer.Writer.twin.Goals as goal

pub returns : goal.returns
returns c = adds_then _ _ _ _ _ _ c.in_ok-label_if_any.ensures (adds_then _ _ _ _ _ _ c.in_ok-key.ensures (adds_then _ _ _ _ _ _ c.in_ok-key-2.ensures c.count.ensures))
