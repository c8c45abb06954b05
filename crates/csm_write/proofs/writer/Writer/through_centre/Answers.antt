use Rattle.csm_write.proofs.Adding.{adds_then}
use Rattle.csm_write.proofs.writer.Writer.through_centre.Goals as goal

pub returns : goal.returns
returns c = adds_then _ _ _ _ _ _ c.in_ok-ident.ensures (adds_then _ _ _ _ _ _ c.in_ok-key.ensures c.count.ensures)
