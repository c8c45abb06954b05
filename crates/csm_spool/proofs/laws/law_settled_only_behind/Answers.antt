use Rattle.csm_spool.proofs.PlanEdits.{tells}
use Rattle.csm_spool.proofs.laws.law_settled_only_behind.Goals as goal

pub returns : goal.returns
returns c = tells c.law_settling.ensures.undone c.law_settling.ensures.done c.law_ranged.ensures c.law_one_change.ensures
