use Rattle.std.proofs.Common.{◌≡◌, ◌++◌, take, map}
use Rattle.party_state.specs.declared.edit.Edit.TheVariants.{PutExchange}
use Rattle.change_code.specs.Code.{edits_code}
use Rattle.change_code.proofs.compaction.put_exchanges.Given as goal

abbrev pub invariant-loop-i : goal.invariant-loop-i
invariant-loop-i l = l.out ≡ l.initial.out ++ edits_code (take l.i (map (λ x. PutExchange x) l.state.exchanges))
