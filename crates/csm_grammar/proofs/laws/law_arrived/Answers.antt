use Rattle.csm_grammar.proofs.Arrived.{arrived}
use Rattle.csm_grammar.proofs.laws.law_arrived.Goals as goal

pub returns : goal.returns
returns c = arrived
