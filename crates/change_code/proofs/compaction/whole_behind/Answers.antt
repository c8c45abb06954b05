use Rattle.std.proofs.Common.{arith}
use Rattle.change_code.proofs.Anew.{whole_is_code}
use Rattle.change_code.proofs.compaction.whole_behind.Goals as goal

pub returns-clause-code : goal.returns-clause-code
returns-clause-code c = whole_is_code c.args.format c.args.state.now c.edit_count-edits.result c.law_party.ensures c.edit_count-edits.ensures (omega (arith, c.if-edits.false))
