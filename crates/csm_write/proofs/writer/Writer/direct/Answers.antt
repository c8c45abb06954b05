use Rattle.csm_write.proofs.Adding.{adds_then}
use Rattle.csm_write.proofs.writer.Writer.direct.Goals as goal

pub returns : goal.returns
returns c = adds_then _ _ _ _ _ _ c.in_ok-new_label.ensures (adds_then _ _ _ _ _ _ c.in_ok-label_if_any.ensures (adds_then _ _ _ _ _ _ c.in_ok-new_key.ensures (adds_then _ _ _ _ _ _ c.in_ok-key.ensures c.count.ensures)))
