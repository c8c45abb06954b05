use Rattle.std.proofs.Common.{arith, subst}
use Rattle.std.proofs.lemmas.List.{take_all}
use Rattle.std.proofs.lemmas.List.Elements.{All-more}
use Rattle.party_state.specs.Formed.{IsFormed, AreFormed}
use Rattle.party_state.proofs.ranges.law_each_edit.Goals as goal

pub loop-edit-preserved : goal.loop-edit-preserved
loop-edit-preserved c = All-more IsFormed c.args.edits.now c.loop-edit.edit-index c.edit-item.result (omega arith) c.loop-edit.invariant (subst IsFormed c.edit-item.is c.law_edit.ensures)

pub returns : goal.returns
returns c = subst AreFormed (take_all c.loop-edit.edit-index c.args.edits.now (omega arith)) c.loop-edit.invariant
