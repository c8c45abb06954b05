use Rattle.std.proofs.Common.{sym, ◌∙◌}
use Rattle.role_base.proofs.Filtering.{ended_more}
use Rattle.role_base.proofs.differing.has_ended.Goals as goal

pub loop-i-preserved : goal.loop-i-preserved
loop-i-preserved c = ended_more c.args.state.now.keys c.loop-i.i (sym c.is_ended_at.ensures ∙ c.if-is_ended_at.false) c.loop-i.invariant
