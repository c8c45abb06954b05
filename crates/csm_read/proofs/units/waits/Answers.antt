use Rattle.std.proofs.Common.{sym}
use Rattle.csm_read.proofs.UnitLemmas.{not_half_long}
use Rattle.csm_read.proofs.units.waits.Goals as goal

pub returns-then-len-ne8 : goal.returns-then-len-ne8
returns-then-len-ne8 c = sym (not_half_long c.args.len c.args.bytes.now _ c.requires c.if-len-ne8.true)
