use Rattle.call_laws.proofs.Example.{rules_kept}
use Rattle.call_laws.proofs.set_up.law_rules.Goals as goal

pub returns : goal.returns
returns c = rules_kept
