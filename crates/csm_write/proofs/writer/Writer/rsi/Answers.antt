use Rattle.csm_write.proofs.Adding.{adds_then}
use Rattle.csm_write.proofs.writer.Writer.rsi.Goals as goal

pub returns : goal.returns
returns c = adds_then _ _ _ _ _ _ c.in_ok-parties.ensures (adds_then _ _ _ _ _ _ c.in_ok-service.ensures c.ident_if_any.ensures)
