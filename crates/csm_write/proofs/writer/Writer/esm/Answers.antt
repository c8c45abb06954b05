use Rattle.csm_write.proofs.Adding.{adds_then}
use Rattle.csm_write.proofs.writer.Writer.esm.Goals as goal

pub returns : goal.returns
returns c = adds_then _ _ _ _ _ _ c.in_ok-parties.ensures (adds_then _ _ _ _ _ _ c.in_ok-count_if_any.ensures (adds_then _ _ _ _ _ _ c.in_ok-count_if_any-2.ensures (adds_then _ _ _ _ _ _ c.in_ok-count_if_any-3.ensures (adds_then _ _ _ _ _ _ c.in_ok-count_if_any-4.ensures c.reason.ensures))))
