use Rattle.std.proofs.Common.{sym, ◌∙◌}
use Rattle.mirror_store.proofs.Compared.{lacking_more}
use Rattle.mirror_store.proofs.comparing.lacks.Goals as goal

pub loop-i-preserved : goal.loop-i-preserved
loop-i-preserved c = lacking_more c.args.state.now c.args.other.now.links c.loop-i.i (sym c.lacks_at.ensures ∙ c.if-lacks_at.false) c.loop-i.invariant
