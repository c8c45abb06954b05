use Rattle.csm_write.proofs.Adding.{adds_then}
use Rattle.csm_write.proofs.writer.Writer.rtr.Goals as goal

pub returns : goal.returns
returns c = adds_then _ _ _ _ _ _ c.in_ok-parties.ensures (adds_then _ _ _ _ _ _ c.in_ok-ident.ensures (adds_then _ _ _ _ _ _ c.in_ok-returned_key.ensures (adds_then _ _ _ _ _ _ c.in_ok-key.ensures (adds_then _ _ _ _ _ _ c.in_ok-returned_count.ensures (adds_then _ _ _ _ _ _ c.in_ok-count.ensures c.extras.ensures)))))
