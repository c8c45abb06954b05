use Rattle.csm_grammar.proofs.Typed.{said_typed}
use Rattle.csm_grammar.proofs.laws.law_said_typed.Goals as goal

pub returns : goal.returns
returns c = said_typed
