use Rattle.csm_write.proofs.Adding.{adds_then}
use Rattle.csm_write.proofs.writer.Writer.extras.Goals as goal

pub returns : goal.returns
returns c = adds_then _ _ _ _ _ _ c.in_ok-text_if_any.ensures (adds_then _ _ _ _ _ _ c.in_ok-text_if_any-2.ensures c.text_if_any-3.ensures)
